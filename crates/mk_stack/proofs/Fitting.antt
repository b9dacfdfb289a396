-- A push ends as a push may, and a pop as a pop. The heap of a stack is within the limits.
use Rattle.mk_heap.proofs.Below.Laws.Vocabulary.{Bool, IsWithinLimits, Op, arith, false, sym, true, ℕ, ◌≡◌, ◌≢◌, ◌≤◌}
use Rattle.mk_core.specs.Moments.{IsBetween}
use Rattle.mk_never.specs.declared.operations.Reply.{Reply}
use Rattle.mk_jobs.specs.{Jobs.Asks, declared.steps.Step.Step}
use Rattle.mk_jobs.specs.Runs.{object_config}
use Rattle.mk_stack.specs.{Stack.{stack_plan, step_of, with_number}, declared.jobs.Done.Done}
use Rattle.mk_stack.specs.declared.{jobs.Job.Job, points.Point.Point}

-- It is a point of a push.
abbrev pub pushes : Point → Bool
pushes (Point.Starting (Job.Push n)) = true
pushes (Point.Checking (Job.Push n)) = true
pushes (Point.Making n) = true
pushes (Point.Filling n) = true
pushes (Point.Looking n) = true
pushes (Point.Linking n) = true
pushes (Point.Publishing n) = true
pushes (Point.Ended Done.Pushed) = true
pushes (Point.Ended Done.Full) = true
pushes _ = false

pub pushes_on : (s t : Point) (o : Op) (r : Reply) → Asks with_number (step_of s) o r t → pushes t ≡ pushes s
pushes_on x0 t o r asks = grind arith

-- A push that didn't end as pushed was full, and a pop that took no number found none.
abbrev pub Fits : Bool → Done → Type 0
Fits true d = d ≢ Done.Pushed → d ≡ Done.Full
Fits false d = ((n : ℕ) → d ≢ Done.Popped n) → d ≡ Done.Empty

pub ends_fit : (s : Point) (d : Done) → step_of s ≡ Step.End d → Fits (pushes s) d
ends_fit (Point.Ended Done.Pushed) d is = λ other. absurd (other (let e : Done.Pushed ≡ d = cc is in sym e))
ends_fit (Point.Ended Done.Full) d is = λ other. (let e : Done.Full ≡ d = cc is in sym e)
ends_fit (Point.Ended (Done.Popped n)) d is =
    λ other. absurd (other n (let e : Done.Popped n ≡ d = cc is in sym e))
ends_fit (Point.Ended Done.Empty) d is = λ other. (let e : Done.Empty ≡ d = cc is in sym e)
ends_fit Point.Founded d is = λ other. (let e : Done.Empty ≡ d = cc is in sym e)
ends_fit (Point.Checking (Job.Push m)) d is = absurd (cc is)
ends_fit (Point.Checking Job.Pop) d is = absurd (cc is)
ends_fit _ d is = absurd (cc is)

pub is_within_limits : (pages resident callers markers : ℕ) → IsBetween 1 4096 pages → IsBetween 1 pages resident
    → IsBetween 1 16 callers → markers ≤ 8 → IsWithinLimits (object_config stack_plan pages resident callers markers)
is_within_limits pages resident callers markers p r c m = grind arith
