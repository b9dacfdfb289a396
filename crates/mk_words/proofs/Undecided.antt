-- A step that decides no call is admitted.
use Rattle.mk_laws.proofs.Vocabulary.{Answer, AreAdmitted, Bool, Config, Decided, Event, Flight, IsHistory, List}
use Rattle.mk_laws.proofs.Vocabulary.{Moment, None, Op, Option, Seat, Step, ℕ, answer_decided, ap, append-nil, arith}
use Rattle.mk_laws.proofs.Vocabulary.{asked, caller_number, calls, cases_Bool, entry_of, false, flight_of}
use Rattle.mk_laws.proofs.Vocabulary.{if◌then◌else◌, inl, inr, left, progress, refl, subst, sym, true, [], ◌++◌, ◌==◌}
use Rattle.mk_laws.proofs.Vocabulary.{◌∙◌, ◌∷◌, ◌≡◌}
use Rattle.mk_core.{proofs.Histories.calls_more, specs.Effects.begins_where_free, specs.History.never_first}
use Rattle.mk_words.specs.{States.PassState, States.event_of, Steps.IsAdmittedTo, Steps.may_decide}

begins_undecided : (f : Flight) (o : Op) (n : ℕ) → (begins_where_free f o n).answer ≡ None
begins_undecided f o n = by (n == 0)
  where
    by : (b : Bool) → (if b then begins_where_free f o 0 else begins_where_free f o 1).answer ≡ None
    by true = refl
    by false = refl

goes_undecided : (c : Config) (m : Moment) (f : Flight) (n : ℕ) (s : Step) → may_decide s ≡ false
    → (progress c m f n s).answer ≡ None
goes_undecided c m f n x4 h = grind (arith, begins_undecided)

pub decides_nothing : (c : Config) (m : Moment) (s : Seat) (x : Step) → may_decide x ≡ false
    → answer_decided c m (record { seat = s; step = x }) ≡ None
decides_nothing c m (Seat.Caller k) x h = goes_undecided c m (flight_of m (Seat.Caller k)) _ x h
decides_nothing c m (Seat.Marker k) x h = refl
decides_nothing c m Seat.Host x h = refl

no_more_calls : (c : Config) (es : List Event) (e : Event) → answer_decided c (left c es).now e ≡ None
    → calls c (es ++ e ∷ []) ≡ calls c es
no_more_calls c es e none =
    calls_more c _ es e ∙ ap (λ (a : Option Answer). calls c es ++ entry_of (caller_number e.seat)
    (flight_of (left c es).now e.seat).op a) none ∙ append-nil (calls c es)

pub undecided_admitted : (p : PassState) (s : Step) → IsHistory p.table.config p.seen
    → (may_decide s ≡ true → IsAdmittedTo p s) → IsAdmittedTo p s
undecided_admitted p s h may = elim (cases_Bool (may_decide s)) [
  | inl decides ↦ may decides
  | inr idle ↦
      subst (λ (xs : List Decided). AreAdmitted p.table.config.globals (never_first p.table.config) (asked xs))
      (sym (no_more_calls p.table.config p.seen (event_of p s)
      (decides_nothing p.table.config (left p.table.config p.seen).now p.seat s idle))) h.admitted
]
