-- An enqueue ends as one, and a dequeue as one.
use Rattle.mk_heap.proofs.Below.Laws.Vocabulary.{Bool, Op, Option, Some, arith, false, true, ℕ, ◌≡◌, ◌≢◌}
use Rattle.mk_never.specs.declared.operations.Reply.{Reply}
use Rattle.mk_jobs.specs.{Jobs.Asks, declared.steps.Step.Step}
use Rattle.mk_queue.specs.{Queue.{step_of, with_number}, declared.jobs.{Done.Done, Job.Job}}
use Rattle.mk_queue.{specs.declared.points.Point.{Point}, proofs.Invariant.{job_at}}

abbrev is_enqueue : Option Job → Bool
is_enqueue (Some (Job.Enqueue n)) = true
is_enqueue _ = false

-- It is a point of an enqueue, decided or not yet.
abbrev pub enqueues : Point → Bool
enqueues Point.Swinging = true
enqueues (Point.Ended Done.Enqueued) = true
enqueues (Point.Ended Done.Full) = true
enqueues s = is_enqueue (job_at s)

pub enqueues_on : (s t : Point) (o : Op) (r : Reply) → Asks with_number (step_of s) o r t → enqueues t ≡ enqueues s
enqueues_on x0 t o r asks = grind arith

-- An enqueue that didn't end as enqueued was full, and a dequeue that took no number found none.
abbrev pub Fits : Bool → Done → Type 0
Fits true d = d ≢ Done.Enqueued → d ≡ Done.Full
Fits false d = ((n : ℕ) → d ≢ Done.Dequeued n) → d ≡ Done.Empty

pub ends_fit : (s : Point) (d : Done) → step_of s ≡ Step.End d → Fits (enqueues s) d
ends_fit (Point.Ended Done.Enqueued) d is = λ other. absurd (other (cc is))
ends_fit (Point.Ended Done.Full) d is = λ other. cc is
ends_fit (Point.Ended (Done.Dequeued n)) d is = λ other. absurd (other n (cc is))
ends_fit (Point.Ended Done.Empty) d is = λ other. cc is
ends_fit Point.Founded d is = λ other. cc is
ends_fit (Point.Checking (Job.Enqueue m)) d is = absurd (cc is)
ends_fit (Point.Checking Job.Dequeue) d is = absurd (cc is)
ends_fit _ d is = absurd (cc is)
