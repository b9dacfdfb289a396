-- The kinds of steps in the parts of a sweeping cycle; and what is swept where values and allocations are the same.
use Rattle.mk_cycle.proofs.Below.Laws.Vocabulary.{Bool, List, ℕ, ap, arith, false, is_close, is_release, slice_index}
use Rattle.mk_cycle.proofs.Below.Laws.{Vocabulary.{subst, sym, true, ◌∙◌, ◌≡◌}, Actors.is_holders}
use Rattle.mk_sweep.proofs.Vocabulary.{Config, InGlobal, InRegister, InWord, IsScannedWord, IsSwept, IsSweptValue}
use Rattle.mk_sweep.proofs.Vocabulary.{PlacedAllocation, Step, World, is_tracing}
use Rattle.mk_sweep.proofs.BesideTurn.{LeaveTheMarks, LeaveTheTurn}
use Rattle.mk_core.specs.Cycles.{PointsIntoAllocation}
use Rattle.mk_cycle.specs.TurnKeeps.{holds_gates}

-- What is swept in one world is swept in another with the same values and allocations.

value_alike : {c : Config} {w : World} (v : World) {u : ℕ} → v.now.words.registers ≡ w.now.words.registers
    → v.now.words.globals ≡ w.now.words.globals → v.now.words.heap ≡ w.now.words.heap
    → v.allocations ≡ w.allocations → IsSweptValue c w u → IsSweptValue c v u
value_alike v registers globals heap allocations (InRegister i is) =
    InRegister i (ap (λ (xs : List ℕ). slice_index xs i) registers ∙ is)
value_alike v registers globals heap allocations (InGlobal g is) =
    InGlobal g (ap (λ (xs : List ℕ). slice_index xs g) globals ∙ is)
value_alike {c} v registers globals heap allocations (InWord n scanned is) =
    InWord n (subst (λ (xs : List PlacedAllocation). IsScannedWord c xs n) (sym allocations) scanned)
    (ap (λ (xs : List ℕ). slice_index xs n) heap ∙ is)

pub swept_alike : {c : Config} {w : World} (v : World) {i : ℕ} → v.now.words.registers ≡ w.now.words.registers
    → v.now.words.globals ≡ w.now.words.globals → v.now.words.heap ≡ w.now.words.heap
    → v.allocations ≡ w.allocations → IsSwept c w i → IsSwept c v i
swept_alike {c} {w} v {i} registers globals heap allocations x = record {
  value = x.value;
  found = value_alike v registers globals heap allocations x.found;
  points = subst (λ (xs : List PlacedAllocation). PointsIntoAllocation c (record w { allocations = xs }) x.value i)
      (sym allocations) x.points;
}

-- the kinds of the parts of the turn

abbrev pub no_kind : Step → Bool
no_kind x = false

-- it is a look
abbrev pub only_looks : Step → Bool
only_looks (Step.Look x) = true
only_looks _ = false

pub looking_leaves_turn : LeaveTheTurn only_looks
looking_leaves_turn c w seat x3 is = grind arith

pub looking_leaves_marks : LeaveTheMarks only_looks
looking_leaves_marks c w seat x3 is = grind arith

pub holding_leaves_turn : LeaveTheTurn holds_gates
holding_leaves_turn c w seat x3 is = grind arith

pub holding_leaves_marks : LeaveTheMarks holds_gates
holding_leaves_marks c w seat x3 is = grind arith

pub tracing_leaves_turn : LeaveTheTurn is_tracing
tracing_leaves_turn c w seat x3 is = grind arith

pub nothing_leaves_turn : LeaveTheTurn no_kind
nothing_leaves_turn c w seat x is = cc

pub nothing_leaves_marks : LeaveTheMarks no_kind
nothing_leaves_marks c w seat x is = cc

pub close_of_holder : (x : Step) → is_close x ≡ true → is_holders x ≡ true
close_of_holder x0 is = grind arith

pub release_of_holder : (x : Step) → is_release x ≡ true → is_holders x ≡ true
release_of_holder x0 is = grind arith

-- kinds without a `close`, and without a `release`

pub close_apart : (kinds : Step → Bool) → kinds Step.Close ≡ false → (x : Step) → kinds x ≡ true → is_close x ≡ false
close_apart kinds none x2 is = grind arith

pub release_apart : (kinds : Step → Bool) → kinds Step.Release ≡ false → (x : Step) → kinds x ≡ true
    → is_release x ≡ false
release_apart kinds none x2 is = grind arith
