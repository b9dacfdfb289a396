-- The calls of others leave a caller's registers.
use Rattle.std.proofs.Common.{List, ℕ, arith, get_or-set_other, refl, [], ◌*◌, ◌+◌, ◌<◌, ◌∙◌, ◌∷◌, ◌≢◌}
use Rattle.mk_never.{proofs.Edits.{if_by, left_at_by}, specs.NeverHeap.{after_free, after_op, left_at, with_register}}
use Rattle.mk_never.specs.{Admitted.{AreAdmitted, IsAdmitted, OperandsAreInRange}, Laws.{AreByOthers, AreNotBy}}
use Rattle.mk_never.specs.{Laws.{DestinationIsInRange, KeepsRegisters}, NeverHeap.{Call, NeverState, after_calls}}
use Rattle.mk_never.specs.{declared.values.Value.TheVariants.Null, declared.operations.Op.Op}
use Rattle.mk_never.specs.{declared.values.Target.Target, declared.values.Value.Value}

-- a register of another caller
other_register : (n : NeverState) (caller c d : ℕ) (v : Value) → c ≢ caller → d < 8
    → KeepsRegisters caller n (with_register n c d v)
other_register n caller c d v other in_range r below =
    let apart : 8 * caller + r ≢ 8 * c + d = λ e. other (omega arith) in get_or-set_other n.registers _ _ v Null apart

free_keeps : (n : NeverState) (caller : ℕ) (v : Value) → KeepsRegisters caller n (after_free n v)
free_keeps n caller x2 r below = grind arith

access_keeps : (n : NeverState) (caller : ℕ) (t : Target) (refused : NeverState) (at : ℕ → ℕ → NeverState)
    → KeepsRegisters caller n refused → ((number place : ℕ) → KeepsRegisters caller n (at number place))
    → KeepsRegisters caller n (left_at t refused at)
access_keeps n caller t refused at kept reached = grind (arith, left_at_by)

pub op_keeps : (n : NeverState) (caller c : ℕ) (op : Op) → c ≢ caller → DestinationIsInRange op
    → KeepsRegisters caller n (after_op n c op)
op_keeps n caller c x3 other in_range = grind (arith, if_by, other_register, free_keeps, access_keeps)

pub calls_keep : (n : NeverState) (caller : ℕ) (calls : List Call) → AreByOthers caller calls
    → KeepsRegisters caller n (after_calls n calls)
calls_keep n caller [] others = λ r below. refl
calls_keep n caller (x ∷ xs) others = λ r below. calls_keep (after_op n x.caller x.op) caller xs others.2 r below
    ∙ op_keeps n caller x.caller x.op others.0 others.1 r below

-- operands in range: so is the register that is set
pub destination : (n : NeverState) (op : Op) → OperandsAreInRange n op → DestinationIsInRange op
destination n x1 h = grind arith

-- admitted calls set registers of their own callers
pub by_others : (globals : List ℕ) (n : NeverState) (caller : ℕ) (calls : List Call) → AreAdmitted globals n calls
    → AreNotBy caller calls → AreByOthers caller calls
by_others globals n caller [] admitted others = tt
by_others globals n caller (x ∷ xs) admitted others =
    let first : IsAdmitted globals n x.caller x.op = admitted.0 in (
      others.0,
      destination n x.op first.in_range,
      by_others globals (after_op n x.caller x.op) caller xs admitted.1 others.1,
    )

pub admitted_keep : (globals : List ℕ) (n : NeverState) (caller : ℕ) (calls : List Call) → AreAdmitted globals n calls
    → AreNotBy caller calls → KeepsRegisters caller n (after_calls n calls)
admitted_keep globals n caller calls admitted others = grind (arith, calls_keep, by_others)
