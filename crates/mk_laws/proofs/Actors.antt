-- What the conditions on gates, phases and markers say, and whose step an event is: a caller's in its call, a marker's,
-- one that takes the turn, or the holder's.
use Rattle.mk_laws.proofs.Vocabulary.{Bool, Caller, Config, Flight, Group, Host, List, Marker, MarkerState, MeetsAll}
use Rattle.mk_laws.proofs.Vocabulary.{Moment, None, Op, Seat, Some, Stage, Step, Words, ℕ, all_below-at, and_parts, ap}
use Rattle.mk_laws.proofs.Vocabulary.{arith, cases_Bool, eqb-false, eqb-true, false, flight_of, group_of, holder_number}
use Rattle.mk_laws.proofs.Vocabulary.{host_has_turn, inl, inr, is_attending, is_held, is_number_of, is_of_turn}
use Rattle.mk_laws.proofs.Vocabulary.{is_open_to, is_undecided_new, is_under_turn, ltb-true, nat_lt, none_attends, not}
use Rattle.mk_laws.proofs.Vocabulary.{not-true, or_cases, others_are_held, outside, refl, slice_index, slice_index_or}
use Rattle.mk_laws.proofs.Vocabulary.{suc, sym, true, true≢false, zero, [], ◌&&◌, ◌+◌, ◌<◌, ◌==◌, ◌||◌, ◌∙◌, ◌∷◌, ◌≡◌}
use Rattle.mk_laws.proofs.{Vocabulary.{◌≢◌, ◌≤◌, ◌⊎◌}, NextSteps.{at_no_take, at_take, is_take, of_turn}}
use Rattle.mk_laws.proofs.{Standings.{is_astray, standing}, ProtocolMoves.OthersAreHeld, Stages.turns_stand}
use Rattle.mk_laws.proofs.Views.{HoldsTurn, view_of}
use Rattle.mk_core.specs.{Moments.none_is_held, Conditions.comes_next_to_host, MarkingConditions.may_close}

pub none_held : (c : Config) (w : Words) → none_is_held c.callers w ≡ true → (j : ℕ) → j < c.callers
    → slice_index w.gates j ≢ 2
none_held c w h j lt = eqb-false _ 2 (not-true (is_held w j) (all_below-at c.callers j (λ i. not (is_held w i)) h lt))

number_is : (c : Config) (seat : Seat) (j : ℕ) → is_number_of seat j ≡ true → holder_number c seat ≡ j
number_is c (Caller k) j h = eqb-true k j h
number_is c _ j h = cc

pub others_held : (c : Config) (m : Moment) (seat : Seat) → others_are_held c.callers m.words seat ≡ true
    → OthersAreHeld c (view_of m) seat
others_held c m seat h j lt ne = elim (or_cases _ _
    (all_below-at c.callers j (λ i. is_number_of seat i || is_held m.words i) h lt)) [
      | inl own ↦ absurd (ne (number_is c seat j own))
      | inr held ↦ eqb-true _ 2 held
    ]

pub other_caller : (c : Config) (seat : Seat) (j : ℕ) → (nat_lt j c.callers && not (is_number_of seat j)) ≡ true
    → (j < c.callers) × (holder_number c seat ≢ j)
other_caller c seat j h = grind (arith, ltb-true, and_parts, not-true, eqb-false)

pub give_phase : (n : ℕ) → ((n == 0) || (n == 1) || (n == 5)) ≡ true → (n ≤ 1) ⊎ (n ≡ 5)
give_phase n h = grind (arith, or_cases, eqb-true)

pub none_at : (xs : List MarkerState) (k : ℕ) → none_attends xs ≡ true
    → is_attending (slice_index_or xs k outside).presence ≡ false
none_at [] k h = refl
none_at (x ∷ xs) zero h = not-true _ (and_parts _ _ h).0
none_at (x ∷ xs) (suc k) h = none_at xs k (and_parts _ _ h).1

pub closing_alone : (c : Config) (m : Moment) → may_close c m ≡ true → none_attends m.seats.markers ≡ true
closing_alone c m h = (and_parts _ _ (and_parts _ _ h).0).0

abbrev pub Meets : Config → Moment → Seat → Step → Type 0
Meets c m seat x = MeetsAll c m (record { seat = seat; step = x })

-- the kinds of the turn's holder
abbrev pub is_holders : Step → Bool
is_holders (Step.Take o) = false
is_holders Step.Over = true
is_holders x = is_of_turn (group_of x)

-- whose step it is
pub data Actor (c : Config) (m : Moment) : Seat → Step → Type 0 where
  InCallOf : (k : ℕ) (x : Step) → k < c.callers → group_of x ≡ Group.Callers → Actor c m (Caller k) x
  AsMarker : (k : ℕ) (x : Step) → k < 8 → group_of x ≡ Group.Markers → Actor c m (Marker k) x
  CallTakes : (k : ℕ) (o : Op) → k < c.callers → (flight_of m (Caller k)).stage ≡ Stage.Idle → is_under_turn o ≡ true
      → Actor c m (Caller k) (Step.Take (Some o))
  HostTakes : m.words.turn ≢ 1 + c.callers → Actor c m Host (Step.Take None)
  AsHolder : (seat : Seat) (x : Step) → HoldsTurn c (view_of m) seat → is_holders x ≡ true → Actor c m seat x

turns_kind : (x : Step) → group_of x ≡ Group.Turn → is_take x ≡ false → is_holders x ≡ true
turns_kind x g t = grind arith

caller_takes : (c : Config) (m : Moment) (k : ℕ) (x : Step) → Meets c m (Caller k) x → is_take x ≡ true
    → Actor c m (Caller k) x
caller_takes c m k (Step.Take (Some o)) h t =
    let s = at_take _ _ o h.order in
    CallTakes k o (ltb-true k c.callers h.seat) s.0 s.1
caller_takes c m k x4 h t = grind (arith, at_no_take)

-- the host: `take` with no operation, `over`, and what any holder does

host_may : (c : Config) (m : Moment) (x : Step) → group_of x ≡ Group.Turn → is_take x ≡ false
    → comes_next_to_host (host_has_turn c m) x ≡ true → host_has_turn c m ≡ true
host_may c m x g t h = grind (arith, is_take)

host_takes : (c : Config) (m : Moment) (x : Step) → Meets c m Host x → is_take x ≡ true → Actor c m Host x
host_takes c m (Step.Take None) h t = HostTakes (eqb-false m.words.turn (1 + c.callers) (not-true _ h.order))
host_takes c m x3 h t = grind (arith, and_parts)

-- if no caller is astray, each event that meets the conditions is one of these
pub acts : (c : Config) (m : Moment) (seat : Seat) (x : Step)
    → ((k : ℕ) → k < c.callers → is_astray (standing (flight_of m (Caller k))) ≡ false)
    → Meets c m seat x → Actor c m seat x
acts c m (Caller k) x a h = by (group_of x) refl
  where
    lt : k < c.callers
    lt = ltb-true k c.callers h.seat

    f : Flight
    f = flight_of m (Caller k)

    by : (g : Group) → group_of x ≡ g → Actor c m (Caller k) x
    by Group.Callers g = InCallOf k x lt g
    by Group.Turn g = elim (cases_Bool (is_take x)) [
      | inl t ↦ caller_takes c m k x h t
      | inr t ↦
          AsHolder (Caller k) x (lt, turns_stand _ f.op (of_turn _ f.op x g t h.order) (a k lt)) (turns_kind x g t)
    ]
    by _ g = let e : false ≡ true = ap (is_open_to (Caller k)) (sym g) ∙ h.kind in cc
acts c m (Marker k) x a h = by (group_of x) refl
  where
    by : (g : Group) → group_of x ≡ g → Actor c m (Marker k) x
    by Group.Markers g = AsMarker k x (ltb-true k 8 h.seat) g
    by _ g = let e : false ≡ true = ap (is_open_to (Marker k)) (sym g) ∙ h.kind in cc
acts c m Host x a h = by (group_of x) refl
  where
    by : (g : Group) → group_of x ≡ g → Actor c m Host x
    by Group.Host g = over_alone x g h
      where
        over_alone : (x : Step) → group_of x ≡ Group.Host → Meets c m Host x → Actor c m Host x
        over_alone Step.Over g h =
            AsHolder Host Step.Over (eqb-true m.words.turn (1 + c.callers) (and_parts _ _ h.holder).0) refl
        over_alone _ g h = cc
    by Group.Turn g = elim (cases_Bool (is_take x)) [
      | inl t ↦ host_takes c m x h t
      | inr t ↦ AsHolder Host x (eqb-true m.words.turn (1 + c.callers) (host_may c m x g t h.order)) (turns_kind x g t)
    ]
    by _ g = let e : false ≡ true = ap (is_open_to Host) (sym g) ∙ h.kind in cc

-- only its own caller decides a New

pub grants_new : (c : Config) (m : Moment) (seat : Seat) → Meets c m seat Step.Grant
    → is_undecided_new (flight_of m seat) ≡ true
grants_new c m (Caller k) h = grind arith
grants_new c m (Marker k) h = let kind = h.kind in cc
grants_new c m Host h = absurd (true≢false (sym (and_parts _ false h.order).1))

pub fills_new : (c : Config) (m : Moment) (seat : Seat) → Meets c m seat Step.Full
    → is_undecided_new (flight_of m seat) ≡ true
fills_new c m (Caller k) h = grind arith
fills_new c m (Marker k) h = let kind = h.kind in cc
fills_new c m Host h = absurd (true≢false (sym (and_parts _ false h.order).1))
