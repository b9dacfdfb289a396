-- A register that the object doesn't use stays as it is.
use Rattle.mk_heap.proofs.Below.Laws.Vocabulary.{Null, Value, arith, flagged, get_or-set_other, register_at, false}
use Rattle.mk_heap.proofs.Below.Laws.Vocabulary.{with_register}
use Rattle.mk_heap.proofs.Below.Laws.Vocabulary.{ℕ, ◌*◌, ◌+◌, ◌<◌, ◌≡◌, ◌≢◌}
use Rattle.mk_never.{proofs.Edits.{if_by, left_at_by}, specs.declared.values.Target.{Target}}
use Rattle.mk_never.specs.{NeverHeap.{NeverState, after_free, after_op, left_at}, declared.operations.Op.Op}
use Rattle.mk_core.specs.declared.events.Answer.{Answer}
use Rattle.mk_jobs.proofs.Vocabulary.{Hold, IfSome, IsTypedStep, List, Plan, Step, and_parts, may_set, op_of, ◌≤◌}
use Rattle.mk_jobs.proofs.Stepping.{set_used}
use Rattle.mk_jobs.specs.declared.steps.Step.TheVariants as step

-- The caller's registers from b on are the same in both.
abbrev pub KeepsFrom : ℕ → ℕ → NeverState → NeverState → Type 0
KeepsFrom k b n m = (r : ℕ) → b ≤ r → register_at m k r ≡ register_at n k r

-- The register that it sets is below this one.
abbrev pub SetsBelow : ℕ → Op → Type 0
SetsBelow b (Op.New d ty full) = d < b
SetsBelow b (Op.GetPtr d q i) = d < b
SetsBelow b (Op.Lea d q i) = d < b
SetsBelow b (Op.Move d q) = d < b
SetsBelow b (Op.Clear d) = d < b
SetsBelow b (Op.GetGlobal d g) = d < b
SetsBelow b _ = Unit {0}

other_stays : (n : NeverState) (k b d : ℕ) (v : Value) → d < b → KeepsFrom k b n (with_register n k d v)
other_stays n k b d v lt r ge =
    let apart : 8 * k + r ≢ 8 * k + d = λ e. omega (arith, e, lt, ge) in get_or-set_other n.registers _ _ v Null apart

free_stays : (n : NeverState) (k b : ℕ) (v : Value) → KeepsFrom k b n (after_free n v)
free_stays n k b x3 r ge = grind arith

access_stays : (n : NeverState) (k b : ℕ) (t : Target) (refused : NeverState) (at : ℕ → ℕ → NeverState)
    → KeepsFrom k b n refused → ((number place : ℕ) → KeepsFrom k b n (at number place))
    → KeepsFrom k b n (left_at t refused at)
access_stays n k b t refused at kept reached = grind (arith, left_at_by)

pub from_stays : (n : NeverState) (k b : ℕ) (o : Op) → SetsBelow b o → KeepsFrom k b n (after_op n k o)
from_stays n k b x3 sets = grind (arith, if_by, other_stays, free_stays, access_stays)

new_sets : (b d ty : ℕ) (a : Answer) → d < b → SetsBelow b (flagged (Op.New d ty false) a)
new_sets b d ty Answer.Full lt = lt
new_sets b d ty _ lt = lt

-- What a step sets is a register that the object uses.
pub used_only : {Job Done Point : Type 0} (p : Plan Job Done Point) (hs : List Hold) (st : Step Point Done)
    → IsTypedStep p hs st → IfSome (op_of st) (λ o. (a : Answer) → SetsBelow p.registers (flagged o a))
used_only p hs (step.New d ty to full) typed = λ a.
    new_sets p.registers d ty a (set_used p.registers hs d (and_parts (may_set p.registers hs d) _ typed).0)
used_only p hs (step.GetPtr d q i to) typed = λ a.
    set_used p.registers hs d (and_parts (may_set p.registers hs d) _ typed).0
used_only p hs (step.GetGlobal d g to) typed = λ a.
    set_used p.registers hs d (and_parts (may_set p.registers hs d) _ typed).0
used_only p hs (step.Clear d to) typed = λ a.
    set_used p.registers hs d (and_parts (may_set p.registers hs d) _ typed).0
used_only p hs (step.End done) typed = tt
used_only p hs _ typed = λ a. tt
