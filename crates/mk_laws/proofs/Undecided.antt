-- Where an undecided New comes from: its call was so before the event, or the event is its `take`.
use Rattle.mk_laws.proofs.Vocabulary.{Bool, Caller, Config, None, Object, Op, Option, Seat, Some, Step, World, ℕ, ap}
use Rattle.mk_laws.proofs.Vocabulary.{arith, at_rest, cases_eq, eq-eqb, flight_of, get_or-set_other, if◌then◌else◌, inl}
use Rattle.mk_laws.proofs.Vocabulary.{inr, is_undecided_new, nothing_done, object_made, refl, subst, sym, true, ◌+◌}
use Rattle.mk_laws.proofs.Vocabulary.{◌<◌, ◌≡◌}
use Rattle.mk_laws.proofs.Basics.{HoldsTurn, Known, Meets, WorldBehind, at_no_take, reg_leaves, tally_keeps, view_of}
use Rattle.mk_laws.proofs.{NewPlace.new_from, OrderlyLists.event_moves, Stages.new_stands}

-- The caller has an undecided New,
abbrev pub HasNew : World → ℕ → Type 0
HasNew w k = is_undecided_new (flight_of w.now (Caller k)) ≡ true

-- and so the turn; and what it makes.
pub new_holds_turn : (c : Config) (w : World) (k : ℕ) → k < c.callers → HasNew w k
    → HoldsTurn c (view_of w.now) (Caller k)
new_holds_turn c w k lt new = (lt, new_stands _ _ new)

abbrev pub new_object : Config → World → ℕ → Object
new_object c w k = object_made c (flight_of w.now (Caller k)).op

-- only a `take` takes a free turn

record IsTake (x : Step) : Type 0 where
  op : Option Op
  is : x ≡ Step.Take op

taken_by_take : (c : Config) (w : World) (seat : Seat) (x : Step) (n : ℕ) → w.now.words.turn ≡ 0
    → (WorldBehind c w seat x).now.words.turn ≡ 1 + n → IsTake x
taken_by_take c w seat x n free now = grind (arith, reg_leaves, tally_keeps)

-- where an undecided New comes from
pub data NewCame (c : Config) (w : World) (seat : Seat) (x : Step) (k : ℕ) : Type 0 where
  WasNew : flight_of (WorldBehind c w seat x).now (Caller k) ≡ flight_of w.now (Caller k) → NewCame c w seat x k
  IsTaken : (o : Op) → seat ≡ Caller k → x ≡ Step.Take (Some o) → w.now.words.turn ≡ 0
      → (WorldBehind c w seat x).now.seats.holding ≡ nothing_done → NewCame c w seat x k

own_came : {c : Config} (w : World) (k : ℕ) (x : Step) → Known c w.now → Meets c w.now (Caller k) x
    → HasNew (WorldBehind c w (Caller k) x) k → NewCame c w (Caller k) x k
own_came {c} w k x known h new =
    let v : World = WorldBehind c w (Caller k) x in
    let move = event_moves c w.now (Caller k) x known.orderly h in
    elim (new_from k move new) [
      | inl same ↦ WasNew same
      | inr free ↦
          let take = taken_by_take c w (Caller k) x k free.0 free.1 in
          subst (λ (y : Step). NewCame c w (Caller k) y k) (sym take.is)
          (taken take.op free.0 (subst (λ (y : Step). Meets c w.now (Caller k) y) take.is h))
    ]
  where
    taken : (o : Option Op) → w.now.words.turn ≡ 0 → Meets c w.now (Caller k) (Step.Take o)
        → NewCame c w (Caller k) (Step.Take o) k
    taken (Some o) free h = IsTaken o refl refl free
        (ap (λ (b : Bool). if b then nothing_done else w.now.seats.holding) (eq-eqb w.now.words.turn 0 free))
    taken None free h = absurd (at_no_take _ _ h.order)

pub new_came : {c : Config} (w : World) (seat : Seat) (x : Step) (k : ℕ) → Known c w.now → Meets c w.now seat x
    → HasNew (WorldBehind c w seat x) k → NewCame c w seat x k
new_came {c} w (Caller j) x k known h new = elim (cases_eq k j) [
  | inr ne ↦ WasNew (get_or-set_other w.now.seats.flights j k _ at_rest ne)
  | inl own ↦
      subst (λ i. Meets c w.now (Caller i) x → HasNew (WorldBehind c w (Caller i) x) k → NewCame c w (Caller i) x k) own
      (own_came w k x known) h new
]
new_came w _ x k known h new = WasNew refl
