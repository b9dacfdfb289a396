-- What events leave to the tallies, and to the allocations that they count.
use Rattle.mk_laws.proofs.Vocabulary.{Bool, Config, Event, Moment, Seat, Step, World, ℕ, answer_decided, ap, arith}
use Rattle.mk_laws.proofs.Vocabulary.{false, group_of, is_end, is_of_turn, refl, true, world_behind, ◌≡◌, ◌≢◌}
use Rattle.mk_core.proofs.RegisterAccesses.{LeavesTallies, register_leaves_tallies}
use Rattle.mk_laws.proofs.Basics.{Actor, AsHolder, AsMarker, HoldsTurn, InCallOf, Known, Meets, WorldBehind, actor_of}
use Rattle.mk_laws.proofs.Basics.{reg_leaves, tally_keeps, turn_of, view_of}
use Rattle.mk_laws.proofs.OthersCounts.{answers_full, counts_nothing}

-- The step changes no tally, and no allocation.
abbrev pub counts_alike : Step → Bool
counts_alike (Step.Tally n v) = false
counts_alike (Step.Quar p n) = false
counts_alike Step.Grant = false
counts_alike Step.Begin = false
counts_alike Step.Release = false
counts_alike _ = true

pub record CountsAlike (w v : World) : Type 0 where
  pub tallies : LeavesTallies w.now.words v.now.words
  pub allocations : v.allocations ≡ w.allocations

alike : (c : Config) (w : World) (seat : Seat) (x : Step) → counts_alike x ≡ true
    → CountsAlike w (WorldBehind c w seat x)
alike c w seat x is = grind (arith, register_leaves_tallies)

-- What an event does to the turn: it takes one that is free, gives it back, or leaves it.
pub data TurnStep (x : Step) (turn now : ℕ) : Type 0 where
  Takes : now ≢ 0 → TurnStep x turn now
  Gives : x ≡ Step.Give → TurnStep x turn now
  Leaves : now ≡ turn → TurnStep x turn now

pub turn_step : (c : Config) (w : World) (seat : Seat) (x : Step)
    → TurnStep x w.now.words.turn (WorldBehind c w seat x).now.words.turn
turn_step c w seat x = grind (arith, reg_leaves, tally_keeps)

-- A seat that doesn't hold the turn leaves them, and so does `give`.

of_no_turn : (x : Step) → is_of_turn (group_of x) ≡ false → counts_alike x ≡ true
of_no_turn x g = grind arith

outside_alike : {c : Config} {m : Moment} {seat : Seat} {x : Step} → (HoldsTurn c (view_of m) seat → ⊥)
    → Actor c m seat x → counts_alike x ≡ true
outside_alike out (InCallOf k y lt g) = of_no_turn y (ap is_of_turn g)
outside_alike out (AsMarker k y lt g) = of_no_turn y (ap is_of_turn g)
outside_alike out (AsHolder s y holds n) = absurd (out holds)
outside_alike out _ = refl

-- the event counts nothing: no tally changes and no allocation, no cycle ends, and no call is answered Full
pub record CountsNothing (c : Config) (w : World) (e : Event) : Type 0 where
  pub alike : CountsAlike w (world_behind c w e)
  pub no_end : is_end e.step ≡ false
  pub no_full : answers_full (answer_decided c w.now e) ≡ false

pub give_counts_nothing : (c : Config) (w : World) (e : Event) → e.step ≡ Step.Give → CountsNothing c w e
give_counts_nothing c w e is = grind (arith, alike, counts_alike)

pub others_count_nothing : (c : Config) (w : World) (e : Event) → Known c w.now → Meets c w.now e.seat e.step
    → w.now.words.turn ≡ 0 → CountsNothing c w e
others_count_nothing c w e known h free =
    let actor = actor_of c w.now e.seat e.step known.orderly h in
    let none = counts_nothing c w.now e.seat e.step out actor in
    record {
      alike = alike c w e.seat e.step (outside_alike out actor);
      no_end = none.0;
      no_full = none.1;
    }
  where
    out : HoldsTurn c (view_of w.now) e.seat → ⊥
    out t = let turn = turn_of c (view_of w.now) e.seat known.orderly t in omega arith
