-- A Free that has freed its object, and whose turn was given back: what that turn did.
use Rattle.mk_caller.proofs.Below.Laws.Vocabulary.{undecided_free}
use Rattle.mk_alloc.proofs.QuarantineVocabulary.{Bool, Caller, CallIsExact, Config, EndsExactly, Event, GivesNone}
use Rattle.mk_alloc.proofs.QuarantineVocabulary.{IsHistory, List, Meets, Moment, Next, Op, Option, Seat, Some, Step}
use Rattle.mk_alloc.proofs.QuarantineVocabulary.{TurnOf, TurnsOfAreExact, ℕ, and-false, ap, append_assoc, arith}
use Rattle.mk_alloc.proofs.QuarantineVocabulary.{before_it, decides_freed, earlier_part_is_history, false, flight_of}
use Rattle.mk_alloc.proofs.QuarantineVocabulary.{free_has_turn, is_give, is_undecided_free, known_left, left, ltb-true}
use Rattle.mk_alloc.proofs.QuarantineVocabulary.{or_from, own_give, seat_exists, subst, sym, taken, true, turn_of}
use Rattle.mk_alloc.proofs.QuarantineVocabulary.{view_of, [], ◌++◌, ◌+◌, ◌<◌, ◌∙◌, ◌∷◌, ◌≡◌}
use Rattle.mk_alloc.proofs.HeldTurns.{IsSameTurn, first_giver, lacks_own, next_of, one_turn, turn_stays_held}
use Rattle.mk_alloc.proofs.OpenFrees.{FreesNoneFrom, OpenFree, freer_has_free, open_frees_have_turns, undecided_is_open}
use Rattle.mk_alloc.proofs.{Vocabulary.FreeIsExact, OwnGives.gives_append}

-- the callers' turns are exact
abbrev pub CallersAreExact : Bool → Config → List Event → Type 0
CallersAreExact on c es = (k : ℕ) → k < c.callers → TurnsOfAreExact on c (Caller k) es

-- The event frees an object in a turn that goes on with these events and is then given back. What came in the turn
-- before it freed nothing.
pub record EndedFree (on : Bool) (c : Config) (before : List Event) (e : Event) (behind : List Event) : Type 0 where
  pub caller : ℕ
  pub more : List Event
  pub rest : List Event
  pub is : behind ≡ more ++ rest
  pub turn : TurnOf c (Caller caller) (before ++ e ∷ more)
  pub exact : FreeIsExact on turn
  pub done : List Event
  pub first : before ≡ turn.before ++ taken turn ∷ done
  pub parts : turn.behind ≡ done ++ e ∷ more
  pub none : FreesNoneFrom c (left c (turn.before ++ taken turn ∷ [])) done

pub caller_of : (m : Moment) (s : Seat) → is_undecided_free (flight_of m s) ≡ true → (k : ℕ) × (s ≡ Caller k)
caller_of m x2 h = grind arith

-- the turn of an open Free, longer
module _ {c : Config} {before : List Event} {k : ℕ} (o : OpenFree c before (left c before) k) (e : Event)
    (more : List Event) (none : GivesNone (Caller k) (e ∷ more)) where
  abbrev longer : TurnOf c (Caller k) (before ++ e ∷ more)
  longer = record {
    before = o.turn.before;
    op = o.turn.op;
    behind = o.turn.behind ++ e ∷ more;
    is = cc (o.turn.is, append_assoc o.turn.before (taken o.turn ∷ o.turn.behind) (e ∷ more));
    took = o.turn.took;
    goes_on = gives_append (Caller k) o.turn.behind (e ∷ more) o.turn.goes_on none;
  }

  -- whatever turn it is after these
  ends_free : {on : Bool} (behind rest : List Event) → behind ≡ more ++ rest → IsHistory c (before ++ e ∷ more)
      → is_undecided_free (flight_of (left c before).now (Caller k)) ≡ true
      → EndsExactly on c (Caller k) (before ++ e ∷ more) → EndedFree on c before e behind
  ends_free {on} behind rest is h undecided ends =
      let same : IsSameTurn c k (before ++ e ∷ more) longer ends.turn = one_turn longer ends.turn h in
      let free = undecided_free (flight_of (left c before).now (Caller k)) undecided in
      let op : ends.turn.op ≡ Some (Op.Free free.p) = same.op ∙ o.op ∙ ap Some free.op in
      let take : taken ends.turn ≡ taken o.turn =
      ap (λ (x : Option Op). record { seat = Caller k; step = Step.Take x }) same.op in
      let start : ends.turn.before ++ taken ends.turn ∷ [] ≡ o.turn.before ++ taken o.turn ∷ [] =
      cc (same.before, take) in
      record {
        caller = k;
        more = more;
        rest = rest;
        is = is;
        turn = ends.turn;
        exact = subst (λ (x : Option Op). CallIsExact on ends.turn x) op ends.exact;
        done = o.turn.behind;
        first = cc (o.turn.is, same.before, take);
        parts = same.behind;
        none = subst (λ (l : List Event). FreesNoneFrom c (left c l) o.turn.behind) (sym start) o.none;
      }

module _ (on : Bool) (c : Config) (es before : List Event) (e : Event) (behind : List Event) (h : IsHistory c es)
    (exact : CallersAreExact on c es) (free : (left c es).now.words.turn ≡ 0) (is : es ≡ before ++ e ∷ behind)
    (frees : decides_freed c (left c before).now (flight_of (left c before).now e.seat) e.step ≡ true) where
  module _ (k : ℕ) (seat : e.seat ≡ Caller k) where
    here : IsHistory c before × Meets c (left c before).now e.seat e.step
    here = before_it c es before e behind h is

    exists : seat_exists c (Caller k) ≡ true
    exists = subst (λ (s : Seat). seat_exists c s ≡ true) seat here.1.seat

    lt : k < c.callers
    lt = ltb-true k c.callers exists

    undecided : is_undecided_free (flight_of (left c before).now (Caller k)) ≡ true
    undecided = cc (seat, freer_has_free c (left c before) e.seat e.step frees)

    not_given : own_give (Caller k) e ≡ false
    not_given = grind (arith, and-false)

    parts : es ≡ (before ++ e ∷ []) ++ behind
    parts = is ∙ sym (append_assoc before (e ∷ []) behind)

    whole : IsHistory c ((before ++ e ∷ []) ++ behind)
    whole = subst (λ (l : List Event). IsHistory c l) parts h

    turn_behind : (left c (before ++ e ∷ [])).now.words.turn ≡ 1 + k
    turn_behind =
        search (
          turn_stays_held,
          earlier_part_is_history,
          whole,
          lt,
          turn_of c (view_of (left c before).now) (Caller k) (known_left c before here.0.within_limits
              here.0.enabled).orderly (free_has_turn c (left c before).now (Caller k) exists undecided),
          or_from,
          own_give,
          not_given,
        )

    -- the next `give` is its own
    given : Next is_give behind
    given =
        next_of is_give behind (λ lacks.
        let kept = turn_stays_held _ behind k whole lt turn_behind (lacks_own (Caller k) behind lacks) in
        grind (arith, parts))

    by_caller : EndedFree on c before e behind
    by_caller =
        let giver = first_giver c (before ++ e ∷ []) k whole lt turn_behind given in
        let split : es ≡ (before ++ e ∷ given.at.before) ++ given.at.event ∷ given.at.behind =
        grind (arith, given, append_assoc) in
        let f = flight_of (left c before).now (Caller k) in
        let open_free = open_frees_have_turns c before here.0 k lt (undecided_is_open f.stage f.op undecided) in
        ends_free open_free e given.at.before (grind (arith, or_from, own_give, given, not_given, lacks_own)) behind
        (given.at.event ∷ given.at.behind) given.at.is
        (before_it c es (before ++ e ∷ given.at.before) given.at.event given.at.behind h split).0 undecided
        (exact k lt (before ++ e ∷ given.at.before) given.at.event given.at.behind split giver.0 giver.1)

  -- Where the turn is free in the end, it was given back.
  pub ended_free : EndedFree on c before e behind
  ended_free =
      let caller = caller_of (left c before).now e.seat (freer_has_free c (left c before) e.seat e.step frees) in
      by_caller caller.0 caller.1
