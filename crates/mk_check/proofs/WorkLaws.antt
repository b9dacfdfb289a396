-- What a run leaves is no more work than it began with, and an answer leaves less.
use Rattle.mk_check.proofs.Vocabulary.{Answer, Bool, Instruction, IsTree, KeptState, List, Node, Place, PlaceIsWithin}
use Rattle.mk_check.proofs.Vocabulary.{Steps, Stopped, ℕ, after_answer, after_line, arith, if◌then◌else◌, is_some}
use Rattle.mk_check.proofs.Vocabulary.{kept_in, left_in, length, max, node_at, op_asked, refusal_line, refusal_text}
use Rattle.mk_check.proofs.Vocabulary.{slice_index, stop_behind, stop_of, stop_of_rounds, stop_on_answer, stopped_in}
use Rattle.mk_check.proofs.Vocabulary.{subst, suc, sym, then_steps, with_text, zero, ◌*◌, ◌+◌, ◌<◌, ◌==◌, ◌≡◌, ◌≤◌}
use Rattle.mk_check.proofs.{Moves.unfolded_line, Moves.work_of-then_steps, TreeNodes.is_at}
use Rattle.mk_check.specs.{Steps.Choice, Steps.Done, Steps.Line, Steps.Rounds, Steps.none_left, Trees.work_of}

work_of-stop_behind : (stopped : Stopped) (go : KeptState → Stopped) (rest : Steps)
    → ((k : KeptState) → work_of (go k).left ≤ work_of rest)
    → work_of (stop_behind stopped go rest).left ≤ work_of stopped.left + work_of rest
work_of-stop_behind stopped go rest goes = by_test (none_left stopped.left)
  where
    by_test : (t : Bool) → work_of (if t then go stopped.kept else record stopped
        { left = then_steps stopped.left rest }).left ≤ work_of stopped.left + work_of rest
    by_test x0 = grind (arith, work_of-then_steps)

work_of-stop_of_rounds : (rounds : ℕ) (body : Steps) (go : KeptState → Stopped)
    → ((k : KeptState) → work_of (go k).left ≤ work_of body)
    → (k : KeptState) → work_of (stop_of_rounds rounds body go k).left ≤ rounds * (1 + work_of body)
work_of-stop_of_rounds zero body go goes k = omega arith
work_of-stop_of_rounds (suc more) body go goes k =
    let others : (j : KeptState) → work_of (stop_of_rounds more body go j).left ≤ work_of (Rounds more body Done) =
    λ j. omega (arith, work_of-stop_of_rounds more body go goes j) in
    omega (arith, work_of-stop_behind (go k) (stop_of_rounds more body go) (Rounds more body Done) others, goes k)

-- A run leaves no more work than there was.
pub work_of-stop_of : (steps : Steps) (k : KeptState) → work_of (stop_of steps k).left ≤ work_of steps
work_of-stop_of Done k = omega arith
work_of-stop_of (Line line instruction rest) k =
    by_test (is_some (op_asked k.numbers instruction)) (work_of-stop_of rest (after_line instruction k))
  where
    by_test : (t : Bool) → work_of (stop_of rest (after_line instruction k)).left ≤ work_of rest
        → work_of (if t then record { left = Line line instruction rest; kept = k }
        else stop_of rest (after_line instruction k)).left ≤ 1 + work_of rest
    by_test x0 h = grind arith
work_of-stop_of (Rounds rounds body rest) k =
    omega (
      arith,
      work_of-stop_behind (stop_of_rounds rounds body (stop_of body) k) (stop_of rest) rest (work_of-stop_of rest),
      work_of-stop_of_rounds rounds body (stop_of body) (work_of-stop_of body) k,
    )
work_of-stop_of (Choice number first second rest) k =
    let chosen : Stopped = if slice_index k.numbers number == 0 then stop_of second k else stop_of first k in
    omega (
      arith,
      work_of-stop_behind chosen (stop_of rest) rest (work_of-stop_of rest),
      by_test (slice_index k.numbers number == 0) (work_of-stop_of first k) (work_of-stop_of second k),
    )
  where
    by_test : (t : Bool) → work_of (stop_of first k).left ≤ work_of first
        → work_of (stop_of second k).left ≤ work_of second
        → work_of (if t then stop_of second k else stop_of first k).left ≤ max (work_of first) (work_of second)
    by_test x0 f g = grind arith

-- A place that was answered has less work left.
pub answer_nearer : (nodes : List Node) {p : Place} (t : Place) (line : ℕ) (instruction : Instruction) (next : ℕ)
    (a : Answer)
    → IsTree nodes → PlaceIsWithin (length nodes) p → node_at nodes p.at ≡ Node.Line line instruction next
    → stopped_in nodes t ≡ stop_on_answer (left_in nodes p) a (kept_in p)
    → work_of (left_in nodes t) < work_of (left_in nodes p)
answer_nearer nodes {p = p} t line instruction next a tree w here stop =
    let rest = left_in nodes (record p { at = next }) in
    let unfolded = unfolded_line nodes (is_at tree w here) in
    let less : work_of (stop_on_answer (left_in nodes p) a (kept_in p)).left < work_of (left_in nodes p) = subst
    (λ (s : Steps). work_of (stop_on_answer s a (kept_in p)).left < work_of s) (sym unfolded) (omega (
      arith,
      work_of-stop_of rest (after_answer instruction a (with_text (kept_in p) (refusal_line line (refusal_text a)))),
    )) in
    subst (λ (s : Stopped). work_of s.left < work_of (left_in nodes p)) (sym stop) less
