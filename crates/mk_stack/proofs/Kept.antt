-- The stack is always explained: what its operations keep.
use Rattle.mk_heap.proofs.Below.Laws.Vocabulary.{List, None, Option, Some, inl, inr, refl, word_at, ℕ, [], ◌∙◌, ◌∷◌}
use Rattle.mk_heap.proofs.Below.Laws.Vocabulary.{◌≡◌}
use Rattle.mk_jobs.specs.{Keeping.{Keeps, Public, World}, Laws.{IsAlwaysExplained, IsOneOf}, declared.steps.Step.Step}
use Rattle.mk_jobs.proofs.{Chains.linked, Explained.explained, Roots.unshared, Rows.part_role}
use Rattle.mk_stack.specs.Stack.{stack_is_typed, stack_plan, step_of, HasNumbers, left_by}
use Rattle.mk_stack.specs.declared.{jobs.{Done.Done, Job.Job}, points.Point.Point}
use Rattle.mk_stack.proofs.{Invariant.{Local, Rely, Shared, job_at}, Moving.moves, Staying.{covered, stays}}

ends : (w : World) (k : ℕ) (s : Point) (u : Option Done) (d : Done) (j : Job) → Local w k s u → step_of s ≡ Step.End d
    → (u ≡ None → job_at s ≡ Some j) → u ≡ Some d
ends w k (Point.Ended e) u d j local is at = local ∙ (cc is)
ends w k Point.Founded u d j local is at = absurd (let x : None ≡ Some j = at local in cc x)
ends w k (Point.Checking (Job.Push m)) u d j local is at = absurd (cc is)
ends w k (Point.Checking Job.Pop) u d j local is at = absurd (cc is)
ends w k _ u d j local is at = absurd (cc is)

contains : (w : World) (x : List ℕ) → Shared w x → (parts : List ℕ) × HasNumbers w.n parts x
    × ((a : ℕ) → w.role a ≡ Public → IsOneOf a parts) × ((a : ℕ) → IsOneOf a parts → w.role a ≡ Public)
contains w x (inl none) =
    ([], inl (none.global, refl, none.none_left), (λ a e. absurd (none.none_shared a e)), (λ a one. absurd one))
contains w x (inr q) = (
  q.t ∷ q.is.nodes,
  inr (record {
    top = q.t;
    nodes = q.is.nodes;
    global = q.global;
    linked = linked w 0 1 (word_at w.n q.t 0) q.is.nodes q.is.row.chain;
    are_parts = refl;
    numbers = q.is.row.numbers;
  }),
  q.is.row.all,
  part_role q.is.row,
)

pub stack_keeps : Keeps stack_plan left_by [] HasNumbers Shared Local Rely job_at
stack_keeps = record {
  founding = λ callers. (
    unshared stack_plan.types callers,
    record { undecided = refl; first = refl; none = refl },
    refl,
  );
  begins = λ w k j. (refl, refl);
  ends = ends;
  waits = λ callers j k s u w w' other there waits rely local. stays other waits rely s u local;
  covers = λ j x w w' covers shared. covered x j covers shared;
  moves = λ callers w k s u x. moves s;
  contains = contains;
}

-- However jobs on the stack are interleaved, they are explained.
pub stack_is_explained : IsAlwaysExplained stack_plan [] left_by HasNumbers
stack_is_explained = explained stack_is_typed stack_keeps
