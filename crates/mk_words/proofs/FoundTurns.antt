-- What a `take` finds: another holder, and then all is as it was; or a free turn, and then the tallies are those of the
-- counts.
use Rattle.mk_laws.proofs.Vocabulary.{Bool, Caller, Config, Event, Holding, IsEnabled, IsTidy, List, Moment, Op, Option}
use Rattle.mk_laws.proofs.Vocabulary.{Seat, Step, TalliesAreTidy, World, ℕ, ap, arith, at_rest, flight_of, group_of}
use Rattle.mk_laws.proofs.Vocabulary.{holder_number, if◌then◌else◌, is_open_to, left, ne_eqb, nothing_done, refl}
use Rattle.mk_laws.proofs.Vocabulary.{set-get_or, slice_set, subst, sym, true, [], ◌++◌, ◌+◌, ◌∙◌, ◌∷◌, ◌≡◌, ◌≢◌}
use Rattle.mk_laws.proofs.{Tallies.{counts_tidy_more, exact_more, tallies_tell}, NextSteps.at_no_take, SameWords.Behind}
use Rattle.mk_laws.proofs.TallySteps.{others_count_nothing}
use Rattle.mk_core.proofs.Conditions.{meets_enabled}
use Rattle.mk_core.specs.{Counts.TalliesAreExact, Effects.begins_where_free, Conditions.is_in_order}
use Rattle.mk_words.proofs.{CallSteps.waits, Made.made, Tidy.tidy_part}
use Rattle.mk_words.specs.{States.{PassState, call_of, event_of, now_of}, Steps.{IsEnabledTo, Tells, moment_of}}

-- a `take` that finds another holder leaves all as it was

same_flights : (c : Config) (m : Moment) (k : ℕ) (o : Op) (n : ℕ) → n ≢ 0
    → slice_set m.seats.flights k (begins_where_free (flight_of m (Caller k)) o n).flight ≡ m.seats.flights
same_flights c m k o n some = cc (waits (flight_of m (Caller k)) o n n refl some, set-get_or m.seats.flights k at_rest)

missed : (c : Config) (m : Moment) (seat : Seat) (o : Option Op) → is_open_to seat (group_of (Step.Take o)) ≡ true
    → is_in_order c m seat (Step.Take o) ≡ true → m.words.turn ≢ 0 → Behind c m seat (Step.Take o) ≡ m
missed c m seat o kind order some =
    ap (λ (t : ℕ). record {
      words = record m.words { turn = t };
      seats = (Behind c m seat (Step.Take o)).seats;
      fresh_words = m.fresh_words;
    }) (ap (λ (b : Bool). if b then 1 + holder_number c seat else m.words.turn) (ne_eqb m.words.turn 0 some))
    ∙ ap (λ (h : Holding). record {
      words = m.words;
      seats = record (Behind c m seat (Step.Take o)).seats { holding = h };
      fresh_words = m.fresh_words;
    }) (ap (λ (b : Bool). if b then nothing_done else m.seats.holding) (ne_eqb m.words.turn 0 some))
    ∙ by seat o kind order
  where
    by : (seat : Seat) (o : Option Op) → is_open_to seat (group_of (Step.Take o)) ≡ true
        → is_in_order c m seat (Step.Take o) ≡ true → record {
          words = m.words;
          seats = record
              (Behind c m seat (Step.Take o)).seats { holding = m.seats.holding };
          fresh_words = m.fresh_words;
        } ≡ m
    by x0 o kind order = grind (arith, same_flights, at_no_take)

pub take_waits : (p : PassState) (o : Option Op) (n : ℕ) (q : PassState) → Tells p (Step.Take o) n q → n ≢ 0
    → (call_of q ≡ call_of p) × IsEnabledTo q (Step.Take o)
take_waits p o n q t some =
    let c : Config = p.table.config in
    let x = made p (Step.Take o) q t.makes in
    let m : Moment = moment_of t.makes in
    let other : m.words.turn ≢ 0 = λ z. some (t.tells ∙ z) in
    let same : now_of q ≡ m = ap (λ (w : World). w.now) x.world
    ∙ missed c m p.seat o x.meets.kind x.meets.order other in (
      ap (λ (s : Seat). flight_of (now_of q) s) x.seat ∙ ap (λ (y : Moment). flight_of y p.seat) same
          ∙ x.frame.own.flight,
      subst (λ (r : PassState). IsEnabled r.table.config (now_of q) (event_of r (Step.Take o))) (sym t.makes.is)
          (subst (λ (y : Moment). IsEnabled c y (event_of p (Step.Take o))) (sym same)
          (meets_enabled c m (event_of p (Step.Take o)) x.meets)),
    )

-- where the turn is taken, the tallies are those of the counts
pub take_counts : (p : PassState) (o : Option Op) (n : ℕ) (q : PassState) → Tells p (Step.Take o) n q
    → IsTidy q.table.config q.seen → n ≡ 0
    → TalliesAreExact q.table.config q.seen × TalliesAreTidy q.table.config q.seen
take_counts p o n q t tidy none =
    let c : Config = p.table.config in
    let es : List Event = p.seen ++ t.makes.others in
    let e : Event = event_of p (Step.Take o) in
    let x = made p (Step.Take o) q t.makes in
    let free : (left c es).now.words.turn ≡ 0 = sym t.tells ∙ none in
    let told = tallies_tell c es x.history free in
    let nothing = others_count_nothing c (left c es) e x.known x.meets free in
    let whole_tidy : IsTidy c (es ++ e ∷ []) =
    subst (λ (r : PassState). IsTidy r.table.config r.seen) t.makes.is tidy in
    subst (λ (r : PassState). TalliesAreExact r.table.config r.seen × TalliesAreTidy r.table.config r.seen)
    (sym t.makes.is)
    (exact_more c es e nothing told.0, counts_tidy_more c es e nothing (told.1 (tidy_part c es (e ∷ []) whole_tidy)))
