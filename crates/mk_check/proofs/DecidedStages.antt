-- A caller's call is decided once, before its last step.
use Rattle.std.specs.List.{list_any}
use Rattle.mk_check.proofs.Vocabulary.{Answer, Bool, Config, None, Op, Option, Some, ℕ, and_parts, arith, false}
use Rattle.mk_check.proofs.Vocabulary.{if◌then◌else◌, not, refl, true, [], ◌+◌, ◌==◌, ◌∷◌, ◌≡◌}
use Rattle.mk_geom.specs.Addresses.{header_of}
use Rattle.mk_core.specs.Effects.{decided, progress, progress_freed, sees_double}
use Rattle.mk_core.specs.Calls.{begun, is_same_stage, onward, progress_q, progress_reg}
use Rattle.mk_core.specs.{Calls.{refused, stage_behind, steps_of, still}, Cells.is_unmapped_header}
use Rattle.mk_core.specs.{Enabled.holder_may, Moments.Moment, Conditions.{comes_next, is_of_any_holder}}
use Rattle.mk_core.specs.{Conditions.may_decide_new, Words.Words, declared.events.{Step.Step, Word.Word}}
use Rattle.mk_core.specs.declared.seats.{Flight.Flight, Progress.Progress, Stage.Stage}
use Rattle.mk_check.specs.Feed.{ends_call}

-- The operation has a stage. A refused Lea stores null, at a stage that it hasn't else.
abbrev pub has_stage : Op → Stage → Bool
has_stage o Stage.Idle = true
has_stage (Op.Lea d q i) Stage.Put = true
has_stage o s = list_any (is_same_stage s) (steps_of o)

-- how many answers of the call in flight are decided
abbrev pub pending : Stage → ℕ
pending s = if list_any (is_same_stage s) (Stage.Put ∷ Stage.Dirty ∷ Stage.Leave ∷ Stage.Give ∷ []) then 1 else 0

abbrev pub count : Option Answer → ℕ
count (Some a) = 1
count None = 0

-- A step that isn't its call's last one leaves the call at a stage that it has, with the answer that the step decided,
-- if any.
pub record Goes (was : Flight) (p : Progress) : Type 0 where
  pub stage : has_stage p.flight.op p.flight.stage ≡ true
  pub pending : pending p.flight.stage ≡ pending was.stage + count p.answer

abbrev flight : Stage → Op → ℕ → ℕ → ℕ → ℕ → Flight
flight s o q p r l = record { stage = s; op = o; q = q; p = p; r = r; loaded = l }

either : (b : Bool) {f : Flight} {x y : Progress} → Goes f x → Goes f y → Goes f (if b then x else y)
either x0 h k = grind arith

still_goes : (s : Stage) (o : Op) (q p r l : ℕ) → has_stage o s ≡ true
    → Goes (flight s o q p r l) (still (flight s o q p r l))
still_goes s o q p r l h = record { stage = h; pending = omega arith }

-- the next stage

abbrev goes_on : Stage → Bool
goes_on s = not (list_any (is_same_stage s) (Stage.Idle ∷ Stage.Put ∷ Stage.Leave ∷ Stage.Turn ∷ Stage.Give ∷ []))

-- whether the step at this stage decides, where it isn't refused
abbrev decides : Stage → Op → ℕ
decides Stage.LoadQ (Op.Same p q) = 1
decides Stage.LoadP (Op.IsNull p) = 1
decides s o =
    if list_any (is_same_stage s)
    (Stage.Read ∷ Stage.Write ∷ Stage.Cas ∷ Stage.Getg ∷ Stage.Setg ∷ Stage.Store ∷ []) then 1 else 0

next_stage : (s : Stage) (o : Op) → has_stage o s ≡ true → has_stage o (stage_behind s (steps_of o)) ≡ true
next_stage x0 x1 h = grind arith

onward_goes : (s : Stage) (o : Op) (q p r l q' p' r' l' : ℕ) (a : Option Answer) → goes_on s ≡ true
    → has_stage o s ≡ true → count a ≡ decides s o → Goes (flight s o q p r l) (onward (flight s o q' p' r' l') a)
onward_goes s o q p r l q' p' r' l' a g h e = grind (arith, next_stage, pending)

abbrev may_refuse : Stage → Bool
may_refuse s = list_any (is_same_stage s) (Stage.LoadQ ∷ Stage.Probe ∷ [])

refused_goes : (s : Stage) (o : Op) (q p r l q' p' r' l' : ℕ) (a : Answer) → may_refuse s ≡ true → has_stage o s ≡ true
    → Goes (flight s o q p r l) (refused (flight s o q' p' r' l') a)
refused_goes s o q p r l q' p' r' l' a m h = record { stage = grind arith; pending = (grind arith) }

-- `reg`

q_goes : (o : Op) (q p r l found : ℕ) → has_stage o Stage.LoadQ ≡ true
    → Goes (flight Stage.LoadQ o q p r l) (progress_q (flight Stage.LoadQ o q p r l) o found)
q_goes o q p r l found h = grind (arith, onward_goes, either, refused_goes)

-- after a `put` comes `leave`
leave_stage : (o : Op) → has_stage o Stage.Put ≡ true → has_stage o Stage.Leave ≡ true
leave_stage x0 h = grind arith

reg_goes : (s : Stage) (o : Op) (q p r l found : ℕ) → has_stage o s ≡ true → comes_next s o Step.Reg ≡ true
    → Goes (flight s o q p r l) (progress_reg (flight s o q p r l) s found)
reg_goes s o q p r l found h n = grind (arith, q_goes, onward_goes, leave_stage, pending, still_goes, either)

-- the stage of a step that has one of its own

abbrev stage_of : Step → Option Stage
stage_of (Step.Enter o) = Some Stage.Idle
stage_of (Step.Take o) = Some Stage.Idle
stage_of Step.Leave = Some Stage.Leave
stage_of Step.Probe = Some Stage.Probe
stage_of Step.Read = Some Stage.Read
stage_of Step.Write = Some Stage.Write
stage_of Step.Cas = Some Stage.Cas
stage_of Step.Getg = Some Stage.Getg
stage_of Step.Setg = Some Stage.Setg
stage_of Step.Dirty = Some Stage.Dirty
stage_of _ = None

not_holders : (x : Step) (t : Stage) → stage_of x ≡ Some t → is_of_any_holder x ≡ true → ⊥
not_holders x0 t k h = grind arith

not_deciding : (o : Op) (x : Step) (t : Stage) → stage_of x ≡ Some t → may_decide_new o x ≡ true → ⊥
not_deciding o x t k h = grind (arith, not_holders)

own_stage : (s : Stage) (o : Op) (x : Step) (t : Stage) → stage_of x ≡ Some t → comes_next s o x ≡ true → s ≡ t
own_stage x0 o x t k h = grind (arith, not_deciding, not_holders)

begun_goes : (o y : Op) (q p r l : ℕ) → Goes (flight Stage.Idle o q p r l) (record { flight = begun y; answer = None })
begun_goes o x1 q p r l = grind (arith, pending)

probe_goes : (o : Op) (q p r l : ℕ) (b : Bool) → has_stage o Stage.Probe ≡ true → Goes (flight Stage.Probe o q p r l)
    (if b then refused (flight Stage.Probe o q p r l) Answer.Fault else onward (flight Stage.Probe o q p r l) None)
probe_goes o q p r l b h = grind (arith, either, refused_goes, onward_goes)

-- the turn's steps

decided_goes : (o : Op) (q p r l : ℕ) (a : Answer) → has_stage o Stage.Turn ≡ true
    → Goes (flight Stage.Turn o q p r l) (decided (flight Stage.Turn o q p r l) a)
decided_goes o q p r l a h = record { stage = grind arith; pending = refl }

sees_none : (w : Words) (x : Word) → sees_double w None x ≡ false
sees_none w x1 = grind arith

-- nothing is freed where the Free is decided
freed_none : (b : Bool) (f : Flight) → progress_freed f (if b then None else None) ≡ still f
freed_none x0 f = grind arith

-- a New is granted, or refused, while it is undecided

abbrev pub At : Config → Moment → Op → ℕ → ℕ → ℕ → ℕ → ℕ → Step → Stage → Type 0
At c m o q p r l found x s = Goes (flight s o q p r l) (progress c m (flight s o q p r l) found x)

own : (c : Config) (m : Moment) (s : Stage) (o : Op) (q p r l found : ℕ) (x : Step) {t : Stage} → stage_of x ≡ Some t
    → has_stage o s ≡ true → comes_next s o x ≡ true
    → (has_stage o t ≡ true → At c m o q p r l found x t) → At c m o q p r l found x s
own c m s o q p r l found x {t} k h n f = grind (arith, own_stage, has_stage)

pub goes : (c : Config) (m : Moment) (s : Stage) (o : Op) (q p r l found : ℕ) (x : Step)
    → has_stage o s ≡ true → comes_next s o x ≡ true → ends_call x ≡ false → At c m o q p r l found x s
goes c m s o q p r l found (Step.Enter y) h n e =
    own c m s o q p r l found (Step.Enter y) refl h n
    (λ i. either (found == 0) (begun_goes o y q p r l) (still_goes Stage.Idle o q p r l i))
goes c m s o q p r l found (Step.Take (Some y)) h n e =
    own c m s o q p r l found (Step.Take (Some y)) refl h n
    (λ i. either (found == 0) (begun_goes o y q p r l) (still_goes Stage.Idle o q p r l i))
goes c m s o q p r l found Step.Leave h n e = cc
goes c m s o q p r l found Step.Give h n e = cc
goes c m s o q p r l found Step.Reg h n e = reg_goes s o q p r l found h n
goes c m s o q p r l found Step.Probe h n e =
    own c m s o q p r l found Step.Probe refl h n (λ i. probe_goes o q p r l (is_unmapped_header (header_of found)) i)
goes c m s o q p r l found Step.Read h n e =
    own c m s o q p r l found Step.Read refl h n (λ i. grind (arith, onward_goes))
goes c m s o q p r l found Step.Write h n e =
    own c m s o q p r l found Step.Write refl h n (λ i. onward_goes Stage.Write o q p r l q p r l _ refl i refl)
goes c m s o q p r l found Step.Cas h n e =
    own c m s o q p r l found Step.Cas refl h n (λ i. onward_goes Stage.Cas o q p r l q p r l _ refl i refl)
goes c m s o q p r l found Step.Getg h n e =
    own c m s o q p r l found Step.Getg refl h n (λ i. onward_goes Stage.Getg o q p r l q p r found _ refl i refl)
goes c m s o q p r l found Step.Setg h n e =
    own c m s o q p r l found Step.Setg refl h n (λ i. onward_goes Stage.Setg o q p r l q p r l _ refl i refl)
goes c m s o q p r l found Step.Dirty h n e =
    own c m s o q p r l found Step.Dirty refl h n (λ i. onward_goes Stage.Dirty o q p r l q p r l None refl i refl)
goes c m s o q p r l found (Step.Look x) h n e = grind (arith, either, flight, decided_goes, still_goes, sees_none)
goes c m s o q p r l found (Step.Quar page v) h n e = grind (arith, flight, freed_none, still_goes, decided_goes)
goes c m s o q p r l found Step.Grant h n e = grind (arith, decided_goes, has_stage)
goes c m s o q p r l found Step.Full h n e = grind (arith, decided_goes, has_stage)
goes c m s o q p r l found _ h n e = still_goes s o q p r l h

pub ends : (c : Config) (m : Moment) (f : Flight) (x : Step) → comes_next f.stage f.op x ≡ true
    → holder_may c m f x ≡ true → ends_call x ≡ true → pending f.stage ≡ 1
ends c m f x3 n h e = grind (arith, pending, own_stage, and_parts)
