-- Which stage of a call each step comes at.
use Rattle.mk_laws.proofs.Vocabulary.{Bool, Group, None, Op, Some, Stage, Step, arith, comes_next, false, group_of}
use Rattle.mk_laws.proofs.{Vocabulary.{is_under_turn, not, not-true, true, ◌≡◌}, Stages.{is_reg_stage, is_turn_stage}}
use Rattle.mk_core.specs.{Calls.is_same_stage, Conditions.{is_of_any_holder, may_decide_new}}

abbrev pub is_take : Step → Bool
is_take (Step.Take o) = true
is_take _ = false

-- what comes at a stage of the turn is of the turn, and no `take`

holders_kind : (x : Step) → is_of_any_holder x ≡ true → (group_of x ≡ Group.Turn) × (is_take x ≡ false)
holders_kind x0 h = grind arith

deciding_kind : (o : Op) (x : Step) → may_decide_new o x ≡ true → (group_of x ≡ Group.Turn) × (is_take x ≡ false)
deciding_kind o x h = grind (arith, holders_kind)

-- what is of the turn, and no `take`, comes at a stage of the turn
pub of_turn : (s : Stage) (o : Op) (x : Step) → group_of x ≡ Group.Turn → is_take x ≡ false → comes_next s o x ≡ true
    → is_turn_stage s ≡ true
of_turn x0 o x g t h = grind arith

-- the stage of a caller's kinds

abbrev pub stage_of : Step → Stage
stage_of Step.Leave = Stage.Leave
stage_of Step.Probe = Stage.Probe
stage_of Step.Read = Stage.Read
stage_of Step.Write = Stage.Write
stage_of Step.Cas = Stage.Cas
stage_of Step.Getg = Stage.Getg
stage_of Step.Setg = Stage.Setg
stage_of Step.Dirty = Stage.Dirty
stage_of _ = Stage.Idle

abbrev pub has_stage_of_its_own : Step → Bool
has_stage_of_its_own x = not (is_same_stage (stage_of x) Stage.Idle)

not_of_turn : (x : Step) → has_stage_of_its_own x ≡ true → group_of x ≡ Group.Turn → ⊥
not_of_turn Step.Leave own turn = cc
not_of_turn _ own turn = cc

pub at_its_stage : (s : Stage) (o : Op) (x : Step) → has_stage_of_its_own x ≡ true → comes_next s o x ≡ true
    → s ≡ stage_of x
at_its_stage x0 o x i h = grind (arith, not_of_turn, deciding_kind)

pub at_reg : (s : Stage) (o : Op) → comes_next s o Step.Reg ≡ true → is_reg_stage s ≡ true
at_reg Stage.Turn o h = let e = (deciding_kind o Step.Reg h).0 in cc
at_reg _ o h = cc

pub at_enter : (s : Stage) (o next : Op) → comes_next s o (Step.Enter next) ≡ true
    → (s ≡ Stage.Idle) × (is_under_turn next ≡ false)
at_enter x0 o next h = grind (arith, not-true, deciding_kind)

pub at_take : (s : Stage) (o next : Op) → comes_next s o (Step.Take (Some next)) ≡ true
    → (s ≡ Stage.Idle) × (is_under_turn next ≡ true)
at_take x0 o next h = grind (arith, deciding_kind)

pub at_no_take : (s : Stage) (o : Op) → comes_next s o (Step.Take None) ≡ true → ⊥
at_no_take Stage.Turn o h = let e = (deciding_kind o (Step.Take None) h).1 in cc
at_no_take _ o h = cc
