-- A caller's call goes on by its own steps, to its end.
use Rattle.mk_laws.proofs.Vocabulary.{Answer, Bool, Config, Flight, Group, Progress, header_of, if◌then◌else◌}
use Rattle.mk_laws.proofs.Vocabulary.{is_unmapped_header, onward, refused, Moment, None, Op, Option, Stage, Step, ℕ}
use Rattle.mk_laws.proofs.Vocabulary.{arith, comes_next, false, found, group_of, is_under_turn, not, progress, true}
use Rattle.mk_laws.proofs.Vocabulary.{◌&&◌, ◌+◌, and_parts, not-true, ◌↔◌, ◌≡◌, ◌≤◌, at_rest}
use Rattle.mk_core.specs.{Calls.is_same_stage, Readings.is_idle}
use Rattle.mk_laws.proofs.Protocol.{has_stage}
use Rattle.mk_laws.specs.Waiting.{is_undecided}

-- The step at a stage of a call.
abbrev pub next_at : Stage → Step
next_at Stage.Probe = Step.Probe
next_at Stage.Read = Step.Read
next_at Stage.Write = Step.Write
next_at Stage.Cas = Step.Cas
next_at Stage.Getg = Step.Getg
next_at Stage.Setg = Step.Setg
next_at Stage.Dirty = Step.Dirty
next_at Stage.Leave = Step.Leave
next_at _ = Step.Reg

-- how many steps there are at most from a stage on
abbrev pub steps_left : Stage → Op → ℕ
steps_left Stage.LoadQ (Op.Same p q) = 2
steps_left Stage.LoadQ o = 7
steps_left Stage.LoadP o = 6
steps_left Stage.LoadR o = 5
steps_left Stage.Probe o = 4
steps_left Stage.Read o = 3
steps_left Stage.Write o = 3
steps_left Stage.Cas o = 3
steps_left Stage.Getg o = 3
steps_left Stage.Setg o = 2
steps_left Stage.Store o = 2
steps_left Stage.Put o = 2
steps_left Stage.Dirty o = 2
steps_left Stage.Leave o = 1
steps_left _ o = 0

-- The stage is one of a call of the operation, outside the turn.
pub record InCallAt (s : Stage) (o : Op) : Type 0 where
  pub busy : is_idle s ≡ false
  pub outside : is_under_turn o ≡ false
  pub stage : has_stage o s ≡ true

pub in_call_at : (s : Stage) (o : Op) → has_stage o s ≡ true → (not (is_idle s) && not (is_under_turn o)) ≡ true
    → InCallAt s o
in_call_at s o stage h = grind (arith, and_parts, not-true, InCallAt)

pub some_left : (s : Stage) (o : Op) → InCallAt s o → 1 ≤ steps_left s o
some_left s o h = grind arith

pub seven_left : (s : Stage) (o : Op) → steps_left s o ≤ 7
seven_left s o = grind arith

-- the step is the next one, and a caller's
pub next_comes : (s : Stage) (o : Op) → InCallAt s o → comes_next s o (next_at s) ≡ true
next_comes s o h = grind arith

pub next_kind : (s : Stage) → group_of (next_at s) ≡ Group.Callers
next_kind s = grind arith

-- A call after a step that isn't its last: it is at a later stage, and is decided if it was
-- or the step decides it.
pub record IsFurther (s : Stage) (o : Op) (g : Flight) (a : Option Answer) : Type 0 where
  pub at : InCallAt g.stage g.op
  pub same : g.op ≡ o
  pub fewer : steps_left g.stage g.op + 1 ≤ steps_left s o
  pub undecided : (is_undecided g.stage ≡ true) ↔ ((is_undecided s ≡ true) × (a ≡ None))

abbrev at : Stage → Op → ℕ → ℕ → ℕ → ℕ → Flight
at s o q p r l = record { stage = s; op = o; q = q; p = p; r = r; loaded = l }

abbrev FurtherFrom : Config → Moment → Flight → ℕ → Type 0
FurtherFrom c m f x = IsFurther f.stage f.op (progress c m f x (next_at f.stage)).flight
    (progress c m f x (next_at f.stage)).answer

from_q : (c : Config) (m : Moment) (o : Op) (q p r l x : ℕ) → InCallAt Stage.LoadQ o
    → FurtherFrom c m (at Stage.LoadQ o q p r l) x
from_q c m (Op.Move d a) q p r l x h = grind (arith, IsFurther, InCallAt)
from_q c m _ q p r l x h = grind (arith, IsFurther, InCallAt)

from_p : (c : Config) (m : Moment) (o : Op) (q p r l x : ℕ) → InCallAt Stage.LoadP o
    → FurtherFrom c m (at Stage.LoadP o q p r l) x
from_p c m (Op.IsNull p') q p r l x h = grind (arith, IsFurther, InCallAt)
from_p c m _ q p r l x h = grind (arith, IsFurther, InCallAt)

-- an access goes on if its page is mapped, and is refused if it isn't
abbrev probed : Bool → Flight → Progress
probed b f = if b then refused f Answer.Fault else onward f None

from_probe : (b : Bool) (o : Op) (q p r l : ℕ) → InCallAt Stage.Probe o → IsFurther Stage.Probe o
    (probed b (at Stage.Probe o q p r l)).flight (probed b (at Stage.Probe o q p r l)).answer
from_probe true (Op.GetPtr d a i) q p r l h = grind (arith, IsFurther, InCallAt)
from_probe true _ q p r l h = grind (arith, IsFurther, InCallAt)
from_probe false (Op.GetPtr d a i) q p r l h = grind (arith, IsFurther, InCallAt)
from_probe false _ q p r l h = grind (arith, IsFurther, InCallAt)

further_at : (c : Config) (m : Moment) (s : Stage) (o : Op) (q p r l x : ℕ) → InCallAt s o
    → is_same_stage s Stage.Leave ≡ false → FurtherFrom c m (at s o q p r l) x
further_at c m Stage.Idle o q p r l x h on = absurd (grind arith)
further_at c m Stage.LoadQ o q p r l x h on = from_q c m o q p r l x h
further_at c m Stage.LoadP o q p r l x h on = from_p c m o q p r l x h
further_at c m Stage.LoadR (Op.CasPtr a i b d) q p r l x h on = grind (arith, IsFurther, InCallAt)
further_at c m Stage.LoadR _ q p r l x h on = grind (arith, IsFurther, InCallAt)
further_at c m Stage.Probe o q p r l x h on = from_probe (is_unmapped_header (header_of x)) o q p r l h
further_at c m Stage.Read (Op.GetPtr d a i) q p r l x h on = grind (arith, IsFurther, InCallAt)
further_at c m Stage.Read _ q p r l x h on = grind (arith, IsFurther, InCallAt)
further_at c m Stage.Write (Op.SetPtr a i b) q p r l x h on = grind (arith, IsFurther, InCallAt)
further_at c m Stage.Write _ q p r l x h on = grind (arith, IsFurther, InCallAt)
further_at c m Stage.Cas (Op.CasPtr a i b d) q p r l x h on = grind (arith, IsFurther, InCallAt)
further_at c m Stage.Cas _ q p r l x h on = grind (arith, IsFurther, InCallAt)
further_at c m Stage.Getg (Op.GetGlobal d g) q p r l x h on = grind (arith, IsFurther, InCallAt)
further_at c m Stage.Getg _ q p r l x h on = grind (arith, IsFurther, InCallAt)
further_at c m Stage.Setg (Op.SetGlobal g a) q p r l x h on = grind (arith, IsFurther, InCallAt)
further_at c m Stage.Setg _ q p r l x h on = grind (arith, IsFurther, InCallAt)
further_at c m Stage.Store (Op.Clear d) q p r l x h on = grind (arith, IsFurther, InCallAt)
further_at c m Stage.Store _ q p r l x h on = grind (arith, IsFurther, InCallAt)
further_at c m Stage.Put (Op.GetPtr d a i) q p r l x h on = grind (arith, IsFurther, InCallAt)
further_at c m Stage.Put _ q p r l x h on = grind (arith, IsFurther, InCallAt)
further_at c m Stage.Dirty (Op.CasPtr a i b d) q p r l x h on = grind (arith, IsFurther, InCallAt)
further_at c m Stage.Dirty _ q p r l x h on = grind (arith, IsFurther, InCallAt)
further_at c m _ o q p r l x h on = absurd (grind arith)

pub further : (c : Config) (m : Moment) (f : Flight) (x : ℕ) → InCallAt f.stage f.op
    → is_same_stage f.stage Stage.Leave ≡ false → FurtherFrom c m f x
further c m f x h on = further_at c m f.stage f.op f.q f.p f.r f.loaded x h on

pub leaves : (c : Config) (m : Moment) (f : Flight) (found : ℕ) → is_same_stage f.stage Stage.Leave ≡ true
    → (progress c m f found (next_at f.stage)).flight ≡ at_rest
leaves c m f found on = grind arith

-- what is decided is answered no more
pub decided_once : (c : Config) (m : Moment) (f : Flight) (found : ℕ) → InCallAt f.stage f.op
    → is_undecided f.stage ≡ false → (progress c m f found (next_at f.stage)).answer ≡ None
decided_once c m f found h on = grind arith

-- no other step comes
pub next_is : (s : Stage) (o : Op) (x : Step) → InCallAt s o → comes_next s o x ≡ true → x ≡ next_at s
next_is s o x h on = grind arith
