-- A place that moves on keeps where its steps stop, and comes nearer to it.
use Rattle.mk_check.proofs.Vocabulary.{Bool, Frame, FrameIsWithin, FramesAreWithin, HasStopped, Instruction, IsBelow}
use Rattle.mk_check.proofs.Vocabulary.{List, MovesOn, Node, Place, PlaceFits, PlaceIsWithin, Steps, Stopped, StopsAt, ℕ}
use Rattle.mk_check.proofs.Vocabulary.{after_line, ap, arith, depth_of, false, false≢true, fold_push, if◌then◌else◌}
use Rattle.mk_check.proofs.Vocabulary.{is_some, kept_in, left_in, length, length_push, max, op_asked, refl, slice_index}
use Rattle.mk_check.proofs.Vocabulary.{steps_at, steps_from, stop_of, subst, suc, sym, then_steps, trees, true}
use Rattle.mk_check.proofs.Vocabulary.{with_kept, work_in, zero, [], ◌*◌, ◌++◌, ◌+◌, ◌<◌, ◌==◌, ◌∙◌, ◌∷◌, ◌≡◌, ◌≤◌}
use Rattle.mk_check.proofs.StepLaws.{stop_of-choice_other, stop_of-choice_zero, stop_of-round}
use Rattle.mk_check.{proofs.TreeNodes.{IsAt, IsAtBlock, steps_at-trees}, specs.Steps.{Line, Rounds}}
use Rattle.mk_check.specs.Trees.{FrameFits, FramesFit, LeavesBlock, behind_frames, frame_steps, place_behind_block}
use Rattle.mk_check.specs.{Trees.{place_in_block, place_in_branch, place_in_rounds, work_of}, Steps.{Choice, Done}}

pub behind_frames_push : (built : List Steps) (frames : List Frame) (f : Frame)
    → behind_frames built (frames ++ f ∷ []) ≡ frame_steps built (behind_frames built frames) f
behind_frames_push built frames f = fold_push (frame_steps built) Done frames f

pub FramesAreWithin_push : (count : ℕ) (frames : List Frame) (f : Frame) → FramesAreWithin count frames
    → FrameIsWithin count f → FramesAreWithin count (frames ++ f ∷ [])
FramesAreWithin_push count [] f w here = (here, tt)
FramesAreWithin_push count (g ∷ frames) f w here = (w.0, FramesAreWithin_push count frames f w.1 here)

pub FramesAreWithin_pop : (count : ℕ) (frames : List Frame) (f : Frame) → FramesAreWithin count (frames ++ f ∷ [])
    → FramesAreWithin count frames × FrameIsWithin count f
FramesAreWithin_pop count [] f w = (tt, w.0)
FramesAreWithin_pop count (g ∷ frames) f w = let rest =
    FramesAreWithin_pop count frames f w.1 in ((w.0, rest.0), rest.1)

FramesFit-append : (built : List Steps) (around : ℕ) (frames : List Frame) (f : Frame) → FramesFit built around frames
    → FrameFits built (around + length frames) f → FramesFit built around (frames ++ f ∷ [])
FramesFit-append built around [] f w here = (subst (λ (n : ℕ). FrameFits built n f) (omega arith) here, tt)
FramesFit-append built around (g ∷ frames) f w here = (
  w.0,
  FramesFit-append built (around + 1) frames f w.1 (subst (λ (n : ℕ). FrameFits built n f) (omega arith) here),
)

FramesFit_push : (built : List Steps) (frames : List Frame) (f : Frame) → FramesFit built 0 frames
    → FrameFits built (length frames) f → FramesFit built 0 (frames ++ f ∷ [])
FramesFit_push built frames f w here =
    FramesFit-append built 0 frames f w (subst (λ (n : ℕ). FrameFits built n f) (omega arith) here)

FramesFit-split : (built : List Steps) (around : ℕ) (frames : List Frame) (f : Frame) → FramesFit built around
    (frames ++ f ∷ []) → FramesFit built around frames × FrameFits built (around + length frames) f
FramesFit-split built around [] f w = (tt, subst (λ (n : ℕ). FrameFits built n f) (omega arith) w.0)
FramesFit-split built around (g ∷ frames) f w =
    let rest = FramesFit-split built (around + 1) frames f w.1 in
    ((w.0, rest.0), subst (λ (n : ℕ). FrameFits built n f) (omega arith) rest.1)

pub work_of-then_steps : (a b : Steps) → work_of (then_steps a b) ≡ work_of a + work_of b
work_of-then_steps Done b = omega arith
work_of-then_steps (Line line instruction rest) b = omega (arith, work_of-then_steps rest b)
work_of-then_steps (Rounds rounds body rest) b = omega (arith, work_of-then_steps rest b)
work_of-then_steps (Choice number first second rest) b = omega (arith, work_of-then_steps rest b)

module _ (nodes : List Node) where
  -- the steps that are left once a `repeat` is entered
  entered_runs : (p : Place) (rounds body next : ℕ) → stop_of (left_in nodes (place_in_rounds p rounds body next))
      (kept_in (place_in_rounds p rounds body next)) ≡ stop_of (Rounds rounds (steps_at (trees nodes) body)
      (then_steps (steps_at (trees nodes) next) (behind_frames (trees nodes) p.frames))) (kept_in p)
  entered_runs p x1 body next = grind (arith, behind_frames_push, stop_of-round)

  entered_nearer : (p : Place) (rounds body next : ℕ) → work_in nodes (place_in_rounds p rounds body next)
      < 2 * work_of (Rounds rounds (steps_at (trees nodes) body)
      (then_steps (steps_at (trees nodes) next) (behind_frames (trees nodes) p.frames))) + length p.frames
  entered_nearer p zero body next = omega arith
  entered_nearer p (suc more) body next = grind (arith, behind_frames_push, work_of-then_steps, length_push)

  entered_within : (p : Place) (rounds body next : ℕ) → FramesAreWithin (length nodes) p.frames → body < length nodes
      → next < length nodes → PlaceIsWithin (length nodes) (place_in_rounds p rounds body next)
  entered_within p zero body next w b n = record { at = n; frames = w }
  entered_within p (suc more) body next w b n =
      record { at = b; frames = FramesAreWithin_push (length nodes) p.frames (Frame.Rounds more body next) w (b, n) }

  entered_fits : (p : Place) (rounds body next : ℕ) → FramesFit (trees nodes) 0 p.frames → FrameFits (trees nodes)
      (length p.frames) (Frame.Rounds rounds body next) → PlaceFits nodes (place_in_rounds p rounds body next)
  entered_fits p zero body next w f = record { here = f.1; frames = w }
  entered_fits p (suc more) body next w f =
      let longer = length_push p.frames (Frame.Rounds more body next) in
      let deep = f.0 in
      record { here = omega arith; frames = FramesFit_push (trees nodes) p.frames (Frame.Rounds more body next) w f }

  -- a node's steps are as deep as they are
  depth_here : {p : Place} {n : Node} → IsAt nodes p n
      → depth_of (steps_at (trees nodes) p.at) ≡ depth_of (steps_from (trees nodes) n)
  depth_here {p} at = grind (arith, steps_at-trees)

  -- a block that begins finds room
  pub block_finds_room : {p : Place} {n : Node} → IsAtBlock nodes p n → PlaceFits nodes p → length p.frames < 32
  block_finds_room {p} {n} block fits =
      let deep = depth_here block.at in
      let here = fits.here in
      let begins = block.begins in
      grind arith

  -- the line after a line
  pub line_fits : {p : Place} {line : ℕ} {instruction : Instruction} {next : ℕ}
      → IsAt nodes p (Node.Line line instruction next) → PlaceFits nodes p → PlaceFits nodes (record p { at = next })
  line_fits at fits =
      let deep = depth_here at in
      let here = fits.here in
      record { here = omega arith; frames = fits.frames }

  -- a node's steps are first among those that are left
  unfolded : {p : Place} {n : Node} → IsAt nodes p n
      → left_in nodes p ≡ then_steps (steps_from (trees nodes) n) (behind_frames (trees nodes) p.frames)
  unfolded {p} at = grind (arith, steps_at-trees)

  pub unfolded_line : {p : Place} {line : ℕ} {instruction : Instruction} {next : ℕ}
      → IsAt nodes p (Node.Line line instruction next)
      → left_in nodes p ≡ Line line instruction (left_in nodes (record p { at = next }))
  unfolded_line at = unfolded at

  pub unfolded_done : {p : Place} → IsAt nodes p Node.Done → p.frames ≡ [] → left_in nodes p ≡ Done
  unfolded_done at none = unfolded at ∙ ap (behind_frames (trees nodes)) none

  pub below_length : {p : Place} {n : Node} → IsAt nodes p n → IsBelow (length nodes) n
  below_length {p} at = grind arith

  pub line_goes_on : {p : Place} {line : ℕ} {instruction : Instruction} {next : ℕ}
      → IsAt nodes p (Node.Line line instruction next) → is_some (op_asked p.numbers instruction) ≡ false
      → MovesOn nodes p (with_kept (record p { at = next }) (after_line instruction (kept_in p)))
  line_goes_on {p} {line} {instruction} {next} at none =
      let here = unfolded at in
      grind (arith, below_length, line_fits, Line)

  rounds_go_on : {p : Place} {rounds body next : ℕ} → IsAt nodes p (Node.Rounds rounds body next)
      → MovesOn nodes p (place_in_rounds p rounds body next)
  rounds_go_on {p} {rounds} {body} {next} at =
      let here = unfolded at in
      let below = below_length at in
      record {
        within = entered_within p rounds body next at.within.frames below.0 below.1;
        run = entered_runs p rounds body next ∙ sym (ap (λ (s : Steps). stop_of s (kept_in p)) here);
        nearer = omega (arith, ap work_of here, entered_nearer p rounds body next);
        fits = λ f.
            let deep = depth_here at in
            let around = f.here in
            entered_fits p rounds body next f.frames (omega arith, omega arith);
      }

  -- the branch that a choice takes
  branch_goes_on : {p : Place} {number first second next : ℕ} (branch : ℕ) → IsAt nodes p
      (Node.Choice number first second next) → branch < length nodes → work_of (steps_at (trees nodes) branch) ≤ max
      (work_of (steps_at (trees nodes) first)) (work_of (steps_at (trees nodes) second)) → depth_of (steps_at
      (trees nodes) branch) ≤ max (depth_of (steps_at (trees nodes) first)) (depth_of (steps_at (trees nodes) second))
      → ((rest : Steps) → stop_of (Choice number (steps_at (trees nodes) first) (steps_at (trees nodes) second) rest)
      (kept_in p) ≡ stop_of (then_steps (steps_at (trees nodes) branch) rest) (kept_in p))
      → MovesOn nodes p (record p { at = branch; frames = p.frames ++ Frame.Branch next ∷ [] })
  branch_goes_on {p} {next} branch at below work depth stops =
      let here = unfolded at in
      let rest = then_steps (steps_at (trees nodes) next) (behind_frames (trees nodes) p.frames) in
      let behind = behind_frames_push (trees nodes) p.frames (Frame.Branch next) in
      record {
        within = record {
          at = below;
          frames = FramesAreWithin_push (length nodes) p.frames (Frame.Branch next) at.within.frames
              (below_length at).2;
        };
        run = cc (behind, stops rest, here);
        nearer = omega (
          arith,
          ap work_of here,
          length_push p.frames (Frame.Branch next),
          ap work_of (ap (then_steps (steps_at (trees nodes) branch)) behind),
          work_of-then_steps (steps_at (trees nodes) branch) rest,
        );
        fits = λ f.
            let deep = depth_here at in
            let around = f.here in
            let longer = length_push p.frames (Frame.Branch next) in
            record {
              here = omega arith;
              frames = FramesFit_push (trees nodes) p.frames (Frame.Branch next) f.frames (omega arith);
            };
      }

  choice_goes_on : {p : Place} {number first second next : ℕ} → IsAt nodes p (Node.Choice number first second next)
      → MovesOn nodes p (place_in_branch p number first second next)
  choice_goes_on {p} {number} {first} {second} {next} at = by_test (slice_index p.numbers number == 0) refl
    where
      by_test : (b : Bool) → (slice_index p.numbers number == 0) ≡ b
          → MovesOn nodes p (record p { at = if b then second else first; frames = p.frames ++ Frame.Branch next ∷ [] })
      by_test true t =
          branch_goes_on second at (below_length at).1 (omega arith) (omega arith) (λ rest. stop_of-choice_zero number
          (steps_at (trees nodes) first) (steps_at (trees nodes) second) rest (kept_in p) t)
      by_test false t =
          branch_goes_on first at (below_length at).0 (omega arith) (omega arith) (λ rest. stop_of-choice_other number
          (steps_at (trees nodes) first) (steps_at (trees nodes) second) rest (kept_in p) t)

  block_begins : {p : Place} {n : Node} → IsAtBlock nodes p n → MovesOn nodes p (place_in_block p n)
  block_begins {n = Node.Rounds rounds body next} block = rounds_go_on block.at
  block_begins {n = Node.Choice number first second next} block = choice_goes_on block.at
  block_begins {n = n} block = absurd (false≢true block.begins)

  pub begun_block : {p q : Place} {n : Node} → IsAtBlock nodes p n → q ≡ place_in_block p n → MovesOn nodes p q
  begun_block {p} block is = subst (λ (x : Place). MovesOn nodes p x) (sym is) (block_begins block)

  frames_before : {p : Place} (frames : List Frame) (f : Frame) → p.frames ≡ frames ++ f ∷ [] → PlaceFits nodes p
      → FramesFit (trees nodes) 0 frames × FrameFits (trees nodes) (length frames) f
  frames_before frames f was w =
      let left = FramesFit-split (trees nodes) 0 frames f
      (subst (λ (fs : List Frame). FramesFit (trees nodes) 0 fs) was w.frames) in
      (left.0, subst (λ (n : ℕ). FrameFits (trees nodes) n f) (omega arith) left.1)

  -- the end of an open block
  block_goes_on : (p : Place) (frames : List Frame) (f : Frame) → p.frames ≡ frames ++ f ∷ []
      → left_in nodes p ≡ frame_steps (trees nodes) (behind_frames (trees nodes) frames) f
      → FramesAreWithin (length nodes) frames × FrameIsWithin (length nodes) f
      → MovesOn nodes p (place_behind_block (record p { frames = frames }) f)
  block_goes_on p frames (Frame.Branch next) was here w = record {
    within = record { at = w.1; frames = w.0 };
    run = sym (ap (λ (s : Steps). stop_of s (kept_in p)) here);
    nearer = omega (
      arith,
      ap work_of here,
      ap (λ (fs : List Frame). length fs) was,
      length_push frames (Frame.Branch next),
    );
    fits = λ w.
        let left = frames_before frames (Frame.Branch next) was w in
        record { here = left.1; frames = left.0 };
  }
  block_goes_on p frames (Frame.Rounds rounds body next) was here w = record {
    within = entered_within (record p { frames = frames }) rounds body next w.0 w.1.0 w.1.1;
    run = cc (entered_runs (record p { frames = frames }) rounds body next, here);
    nearer = omega (
      arith,
      ap work_of here,
      ap (λ (fs : List Frame). length fs) was,
      length_push frames (Frame.Rounds rounds body next),
      entered_nearer (record p { frames = frames }) rounds body next,
    );
    fits = λ w.
        let left = frames_before frames (Frame.Rounds rounds body next) was w in
        entered_fits (record p { frames = frames }) rounds body next left.0 left.1;
  }

  pub end_goes_on : {p q : Place} → IsAt nodes p Node.Done → LeavesBlock p q → MovesOn nodes p q
  end_goes_on {p} at leaves =
      let here : left_in nodes p ≡ frame_steps (trees nodes) (behind_frames (trees nodes) leaves.frames) leaves.frame =
      cc (unfolded at, leaves.was, behind_frames_push (trees nodes) leaves.frames leaves.frame) in
      let fs = FramesAreWithin_pop (length nodes) leaves.frames leaves.frame
      (subst (λ (xs : List Frame). FramesAreWithin (length nodes) xs) leaves.was at.within.frames) in
      subst (λ (x : Place). MovesOn nodes p x) (sym leaves.is)
      (block_goes_on p leaves.frames leaves.frame leaves.was here fs)

  -- A place where the steps stop.

  pub ends_at : {p : Place} → IsAt nodes p Node.Done → p.frames ≡ [] → HasStopped nodes p p
  ends_at {p} here none = grind (arith, unfolded_done)

  pub asks_at : {p : Place} {line : ℕ} {instruction : Instruction} {next : ℕ} → IsAt nodes p
      (Node.Line line instruction next) → is_some (op_asked p.numbers instruction) ≡ true → HasStopped nodes p p
  asks_at {p} {line} {instruction} {next} at some =
      let rest = then_steps (steps_at (trees nodes) next) (behind_frames (trees nodes) p.frames) in
      let stop : Stopped = record { left = Line line instruction rest; kept = kept_in p } in
      let here = unfolded at in
      record {
        within = at.within;
        at = subst (λ (m : Node). StopsAt m p) (sym at.node) some;
        run = cc (here, some);
        fits = λ f. f;
      }
