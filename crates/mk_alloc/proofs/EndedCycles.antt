-- Where calls end the cycles that they begin, no `release` stands in a later turn than its `begin`.
use Rattle.mk_caller.proofs.Below.Laws.Vocabulary.{is_one_of, is_under_turn, left_from}
use Rattle.mk_caller.proofs.Below.Laws.{CyclePhases.{moves_phase, phases_go_on}, NextSteps.at_take}
use Rattle.mk_caller.proofs.Below.Laws.ProtocolStepKinds.{end_is}
use Rattle.mk_alloc.proofs.QuarantineVocabulary.{AsksPhase, At, Caller, CallIsExact, Config, EndsExactly, Event}
use Rattle.mk_alloc.proofs.QuarantineVocabulary.{FreshIsQuarterOfHeld, HoldsTurn, Host, HostBeginsLast, IsHistory}
use Rattle.mk_alloc.proofs.QuarantineVocabulary.{Lacks, List, Marker, Next, None, Op, Option, Seat, Some, Step, TurnOf}
use Rattle.mk_alloc.proofs.QuarantineVocabulary.{World, ℕ, append_assoc, arith, at_no_take, before_it, comes_next}
use Rattle.mk_alloc.proofs.QuarantineVocabulary.{enabled_in_parts, eq-eqb, false, flight_of, fresh_after, has_step, inl}
use Rattle.mk_alloc.proofs.QuarantineVocabulary.{is_begin, is_end, is_give, is_release, is_same_seat, known_left}
use Rattle.mk_alloc.proofs.QuarantineVocabulary.{lacks_at, left, ltb-true, or_from, or_parts, phase_behind, phase_of}
use Rattle.mk_alloc.proofs.QuarantineVocabulary.{refl, subst, sym, taken, through, true, true≢false, turn_of, view_of}
use Rattle.mk_alloc.proofs.QuarantineVocabulary.{world_behind, [], ⊎_elim, ◌++◌, ◌<◌, ◌∙◌, ◌∷◌, ◌≡◌, ◌⊎◌}
use Rattle.mk_alloc.proofs.{EndedFrees.{CallersAreExact, caller_of}, HeldQuarters.{FreesIn, IsLate, quarter_or_late}}
use Rattle.mk_alloc.proofs.{HeldQuarters.since_begin, HeldTurns.{begin_gives_none, beginner_holds, begun_in_turn}}
use Rattle.mk_alloc.proofs.{HeldTurns.{first_giver, next_of, turn_stays_taken}, CountedWords.IsQuarter}
use Rattle.mk_alloc.proofs.{OpenFrees.freer_has_free, Vocabulary.RunsOneCycle, ListParts.lacks_second}
use Rattle.mk_core.specs.History.{AreOfOthers}

-- After an `end` no `release` comes before the next `begin`.

abbrev Rests : ℕ → Type 0
Rests p = (p ≡ 0) ⊎ (p ≡ 5)

rest_step : (x : Step) {p : ℕ} → AsksPhase x p → Rests p → is_begin x ≡ false
    → Rests (phase_behind x p) × (is_release x ≡ false)
rest_step x asks rests none = grind arith

-- Each event of these is of other seats, and so are all after it.

pub others_at : (seats : List Seat) (xs : List Event) (e : Event) (ys : List Event) → AreOfOthers seats (xs ++ e ∷ ys)
    → is_one_of seats e.seat ≡ false
unfolding AreOfOthers
others_at seats [] e ys others = others.0
others_at seats (x ∷ xs) e ys others = others_at seats xs e ys others.1

pub others_behind : (seats : List Seat) (xs : List Event) (e : Event) (ys : List Event)
    → AreOfOthers seats (xs ++ e ∷ ys) → AreOfOthers seats ys
unfolding AreOfOthers
others_behind seats [] e ys others = others.1
others_behind seats (x ∷ xs) e ys others = others_behind seats xs e ys others.1

-- A caller's turn that is given back has one cycle, and its end, where cycles don't go on.

is_for : (o : Op) → is_under_turn o ≡ true → {c : Config} {s : Seat} {es : List Event} (t : TurnOf c s es)
    → CallIsExact false t (Some o) → RunsOneCycle t.behind
is_for x0 under t exact = grind arith

runs_one : {c : Config} {k : ℕ} {es : List Event} → IsHistory c es → (ends : EndsExactly false c (Caller k) es)
    → RunsOneCycle ends.turn.behind
runs_one {c} {k} {es} h ends = by ends.turn.op refl
  where
    by : (o : Option Op) → ends.turn.op ≡ o → RunsOneCycle ends.turn.behind
    by (Some o) is =
        let meets = (before_it c es ends.turn.before (taken ends.turn) ends.turn.behind h ends.turn.is).1 in
        let f = flight_of (left c ends.turn.before).now (Caller k) in
        let under = (at_take f.stage f.op o
        (subst (λ (x : Option Op). comes_next f.stage f.op (Step.Take x) ≡ true) is meets.order)).1 in
        is_for o under ends.turn (subst (λ (x : Option Op). CallIsExact false ends.turn x) is ends.exact)
    by None is =
        let f = flight_of (left c ends.turn.before).now (Caller k) in
        absurd (at_no_take f.stage f.op (subst (λ (x : Option Op). comes_next f.stage f.op (Step.Take x) ≡ true) is
        ((before_it c es ends.turn.before (taken ends.turn) ends.turn.behind h ends.turn.is).1).order))

module _ {c : Config} {es : List Event} (h : IsHistory c es) (exact : CallersAreExact false c es) (l : IsLate es) where
  abbrev b : At is_begin es
  b = l.begin

  -- the first `give` after it, which stands before the `release`

  given : Next is_give l.release.before
  given = next_of is_give l.release.before (λ none. true≢false (sym l.later ∙ none))

  abbrev later : List Event
  later = given.at.behind ++ l.release.event ∷ l.release.behind

  parts : b.behind ≡ given.at.before ++ given.at.event ∷ later
  parts = grind (arith, given, append_assoc)

  whole : es ≡ through b ++ b.behind
  whole = b.is ∙ sym (append_assoc b.before (b.event ∷ []) b.behind)

  -- An `end` before that `give` is followed by no `release`.
  no_release : At is_end given.at.before → ⊥
  no_release end =
      let tail : List Event = end.behind ++ given.at.event ∷ later in
      let split : b.behind ≡ end.before ++ end.event ∷ tail = grind (arith, parts, append_assoc, given, later) in
      let last : Lacks is_begin (end.event ∷ tail) = grind (arith, lacks_second) in
      let none : Lacks is_release tail = let moves = moves_phase c (left c (through b ++ end.before)) end.event tail
      ((enabled_in_parts c (through b ++ end.before) (end.event ∷ tail)).0 (subst (λ (xs : List Event). IsHistory c xs)
      (grind (arith, whole, append_assoc)) h).enabled).1 in let zero : phase_of (world_behind c
      (left c (through b ++ end.before)) end.event).now.words ≡ 0 = grind (arith, phase_behind, end_is) in
      (phases_go_on Rests is_begin is_release rest_step c (world_behind c (left c (through b ++ end.before))
      end.event) tail moves.2 (inl zero) (or_parts (is_begin end.event.step) (has_step is_begin tail) last).1).1 in
      lacks_at is_release tail (end.behind ++ given.at.event ∷ given.at.behind) _ _ none (sym (append_assoc end.behind
      (given.at.event ∷ given.at.behind) (l.release.event ∷ l.release.behind))) l.release.of_kind

  -- A caller ends its cycle in its turn.
  by_caller : (k : ℕ) → b.event.seat ≡ Caller k → ⊥
  by_caller k seat =
      let here = before_it c es b.before b.event b.behind h b.is in
      let holds = subst (λ (s : Seat). HoldsTurn c (view_of (left c b.before).now) s) seat (beginner_holds b h) in
      let turn = turn_of c _ (Caller k) (known_left c b.before here.0.within_limits here.0.enabled).orderly holds in
      let giver = first_giver c (through b) k (subst (λ (xs : List Event). IsHistory c xs) whole h) holds.0
      ((turn_stays_taken c b.before (b.event ∷ []) (λ z. omega arith)
      (or_from (is_give b.event.step) false (begin_gives_none b.event.step b.of_kind) refl)) ∙ turn) (record {
        at = record {
          before = given.at.before;
          event = given.at.event;
          behind = later;
          is = parts;
          of_kind = given.at.of_kind;
        };
        none_before = given.none_before;
      }) in
      let front : List Event = b.before ++ b.event ∷ given.at.before in
      let split : es ≡ front ++ given.at.event ∷ later = grind (arith, parts, append_assoc, given, later) in
      let ends = exact k holds.0 front given.at.event later split giver.0 giver.1 in
      let at_front = (before_it c es front given.at.event later h split).0 in
      let i = begun_in_turn
      (record { before = b.before; event = b.event; behind = given.at.before; is = refl; of_kind = b.of_kind })
      at_front given.none_before ends.turn in
      no_release (runs_one at_front ends
      (record { before = i.before; event = b.event; behind = given.at.before; is = i.is; of_kind = b.of_kind })).1

  -- After one of the host no caller frees anything.
  by_host : HostBeginsLast c es → b.event.seat ≡ Host → fresh_after c es ≡ 0
  by_host last seat =
      ⊎_elim (λ (stale : fresh_after c es ≡ 0). stale)
      (λ (f : FreesIn c (left c (through b)) b.behind). absurd (none_frees f)) (since_begin c b)
    where
      none_frees : FreesIn c (left c (through b)) b.behind → ⊥
      none_frees f =
          let w : World = left_from c (left c (through b)) f.before in
          let caller = caller_of w.now f.event.seat (freer_has_free c w f.event.seat f.event.step f.frees) in
          let one : es ≡ (through b ++ f.before) ++ f.event ∷ f.behind = grind (arith, whole, append_assoc) in
          let meets = (before_it c es (through b ++ f.before) f.event f.behind h one).1 in
          let lt : caller.0 < c.callers = grind (arith, ltb-true) in
          let others = subst (λ (xs : List Event). AreOfOthers (Caller caller.0 ∷ []) xs) f.is
          (last b.before b.event b.behind b.is b.of_kind seat caller.0 lt) in
          let other = others_at (Caller caller.0 ∷ []) f.before f.event f.behind others in
          true≢false (sym (eq-eqb caller.0 caller.0 refl) ∙ (or_parts (is_same_seat (Caller caller.0) (Caller caller.0))
          false (subst (λ (s : Seat). is_one_of (Caller caller.0 ∷ []) s ≡ false) caller.1 other)).0)

  stale_where_late : HostBeginsLast c es → fresh_after c es ≡ 0
  stale_where_late last = by b.event.seat refl
    where
      by : (s : Seat) → b.event.seat ≡ s → fresh_after c es ≡ 0
      by (Caller k) is = absurd (by_caller k is)
      by (Marker k) is =
          absurd (subst (λ (s : Seat). HoldsTurn c (view_of (left c b.before).now) s) is (beginner_holds b h))
      by Host is = by_host last is

pub fresh_is_quarter_of_held : {c : Config} {es : List Event} → IsHistory c es → CallersAreExact false c es
    → HostBeginsLast c es → (left c es).now.words.turn ≡ 0 → FreshIsQuarterOfHeld c es
fresh_is_quarter_of_held {c} {es} h exact last free =
    ⊎_elim (λ (quarter : IsQuarter c (left c es) 0). omega arith)
    (λ (l : IsLate es). (let stale = stale_where_late h exact l last in omega arith))
    (quarter_or_late false h exact free)
