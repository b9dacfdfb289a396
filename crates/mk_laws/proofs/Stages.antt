-- How the stages of a call follow one another.
use Rattle.mk_laws.proofs.Vocabulary.{Bool, Flight, Op, Progress, Stage, ℕ, arith, begun, false, if◌then◌else◌}
use Rattle.mk_laws.proofs.Vocabulary.{is_new_at, is_undecided_new, is_under_turn, list_any, not, progress_read}
use Rattle.mk_laws.proofs.Vocabulary.{progress_reg, stage_behind, stage_refused, steps_of, true, [], ◌∷◌, ◌≡◌}
use Rattle.mk_core.specs.Calls.{is_same_stage}
use Rattle.mk_laws.proofs.Standings.{InCall, Resting, Standing, UnderTurn, is_astray, standing, standing_at}

-- the stages of calls outside the turn, those of the turn's steps, and those of `reg`

abbrev pub is_call_stage : Stage → Bool
is_call_stage s = not (list_any (is_same_stage s) (Stage.Idle ∷ Stage.LoadP ∷ Stage.Turn ∷ Stage.Give ∷ []))

abbrev pub is_turn_stage : Stage → Bool
is_turn_stage s = list_any (is_same_stage s) (Stage.Turn ∷ Stage.Give ∷ [])

abbrev pub is_reg_stage : Stage → Bool
is_reg_stage s =
    list_any (is_same_stage s) (Stage.LoadQ ∷ Stage.LoadP ∷ Stage.LoadR ∷ Stage.Store ∷ Stage.Put ∷ [])

-- `leave` ends a call, and `reg` at the last store goes to it at once
abbrev pub goes_on : Stage → Bool
goes_on s = not (list_any (is_same_stage s) (Stage.Leave ∷ Stage.Put ∷ []))

-- what a stage says of the standing, if the call isn't astray

pub calls_stand : (s : Stage) (o : Op) → is_call_stage s ≡ true → is_astray (standing_at s o) ≡ false
    → standing_at s o ≡ InCall
calls_stand s o c h = grind arith

pub turns_stand : (s : Stage) (o : Op) → is_turn_stage s ≡ true → is_astray (standing_at s o) ≡ false
    → standing_at s o ≡ UnderTurn
turns_stand s o c h = grind arith

pub gives_stand : (s : Stage) (o : Op) → standing_at s o ≡ UnderTurn → standing_at Stage.Give o ≡ UnderTurn
gives_stand s o h = grind arith

-- a stage of `reg` is in a call
pub regs_work : (s : Stage) (o : Op) → is_reg_stage s ≡ true → standing_at s o ≡ Resting → ⊥
regs_work s o c h = grind arith

-- under the turn it is the load of a Free's register
pub loads_under_turn : (s : Stage) (o : Op) → is_reg_stage s ≡ true → standing_at s o ≡ UnderTurn → s ≡ Stage.LoadP
loads_under_turn s o c h = grind arith

-- what follows a stage of a call stands in the call, before its end

pub onward_stands : (s : Stage) (o : Op) → standing_at s o ≡ InCall → goes_on s ≡ true
    → standing_at (stage_behind s (steps_of o)) o ≡ InCall
onward_stands s o h g = grind arith

pub refused_stands : (s : Stage) (o : Op) → standing_at s o ≡ InCall → standing_at (stage_refused o) o ≡ InCall
refused_stands s o h = grind arith

pub begun_in_call : (o : Op) → is_under_turn o ≡ false → standing (begun o) ≡ InCall
begun_in_call o h = grind arith

pub begun_under_turn : (o : Op) → is_under_turn o ≡ true → standing (begun o) ≡ UnderTurn
begun_under_turn o h = grind arith

pub read_stands : (f : Flight) (o : Op) (x : ℕ)
    → standing (progress_read f o x).flight ≡ standing_at (stage_behind f.stage (steps_of f.op)) f.op
read_stands f o x = grind arith

-- `reg` leaves the standing of a call

pub either_stands : (b : Bool) (p q : Progress) (t : Standing) → standing p.flight ≡ t → standing q.flight ≡ t
    → standing ((if b then p else q).flight) ≡ t
either_stands true p q t hp hq = hp
either_stands false p q t hp hq = hq

abbrev pub behind_reg : Stage → Op → ℕ → ℕ → ℕ → ℕ → ℕ → Flight
behind_reg s o q p r l x = (progress_reg (record { stage = s; op = o; q = q; p = p; r = r; loaded = l }) s x).flight

pub reg_stands : (s : Stage) (o : Op) (q p r l x : ℕ) → is_reg_stage s ≡ true → is_astray (standing_at s o) ≡ false
    → standing (behind_reg s o q p r l x) ≡ standing_at s o
reg_stands s o q p r l x c h = grind arith

-- and makes no New

pub reg_no_new : (s : Stage) (o : Op) (q p r l x : ℕ) → is_reg_stage s ≡ true → standing_at s o ≡ UnderTurn
    → is_undecided_new (behind_reg s o q p r l x) ≡ false
reg_no_new s o q p r l x c h = grind arith

-- the standing of a New
pub new_stands : (s : Stage) (o : Op) → is_new_at s o ≡ true → standing_at s o ≡ UnderTurn
new_stands s o h = grind arith
