-- The queue is always explained: what its operations keep.
use Rattle.mk_heap.proofs.Below.Laws.Vocabulary.{List, None, Option, Some, inl, inr, refl, word_at, ℕ, [], ◌∙◌, ◌∷◌}
use Rattle.mk_heap.proofs.Below.Laws.Vocabulary.{◌≡◌}
use Rattle.mk_jobs.specs.{Keeping.{Keeps, Public, World}, Laws.{IsAlwaysExplained, IsOneOf}, declared.steps.Step.Step}
use Rattle.mk_jobs.proofs.{Chains.linked, Explained.explained, Roots.unshared, Rows.part_role}
use Rattle.mk_queue.specs.Queue.{queue_is_typed, queue_plan, step_of, HasNumbers, left_by}
use Rattle.mk_queue.specs.declared.{jobs.{Done.Done, Job.Job}, points.Point.Point}
use Rattle.mk_queue.proofs.{Invariant.{Local, Rely, Shared, job_at}, Changing.covered, Moving.moves, Staying.stays}

ends : (w : World) (k : ℕ) (s : Point) (u : Option Done) (d : Done) (j : Job) → Local w k s u → step_of s ≡ Step.End d
    → (u ≡ None → job_at s ≡ Some j) → u ≡ Some d
ends w k (Point.Ended e) u d j local is at = local ∙ (cc is)
ends w k Point.Founded u d j local is at = absurd (cc (at local))
ends w k (Point.Checking (Job.Enqueue m)) u d j local is at = absurd (cc is)
ends w k (Point.Checking Job.Dequeue) u d j local is at = absurd (cc is)
ends w k _ u d j local is at = absurd (cc is)

contains : (w : World) (x : List ℕ) → Shared w x → (parts : List ℕ) × HasNumbers w.n parts x
    × ((a : ℕ) → w.role a ≡ Public → IsOneOf a parts) × ((a : ℕ) → IsOneOf a parts → w.role a ≡ Public)
contains w x (inl none) =
    ([], inl (none.global, refl, none.none_left), (λ a e. absurd (none.none_shared a e)), (λ a one. absurd one))
contains w x (inr q) = (
  q.t ∷ q.is.dummy ∷ q.is.nodes,
  inr (record {
    ends = q.t;
    dummy = q.is.dummy;
    nodes = q.is.nodes;
    global = q.global;
    linked = linked w 0 1 (word_at w.n q.t 0) (q.is.dummy ∷ q.is.nodes) q.is.row.chain;
    are_parts = refl;
    numbers = (let y = q.is.row.numbers in cc y);
  }),
  q.is.row.all,
  part_role q.is.row,
)

pub queue_keeps : Keeps queue_plan left_by [] HasNumbers Shared Local Rely job_at
queue_keeps = record {
  founding = λ callers. (
    unshared queue_plan.types callers,
    record { undecided = refl; first = refl; none = refl },
    refl,
  );
  begins = λ w k j. (refl, refl);
  ends = ends;
  waits = λ callers j k s u w w' other there waits rely local. stays other waits rely s u local;
  covers = λ j x w w' covers shared. covered x j covers shared;
  moves = λ callers w k s u x. moves s;
  contains = contains;
}

pub queue_explained : IsAlwaysExplained queue_plan [] left_by HasNumbers
queue_explained = explained queue_is_typed queue_keeps
