-- Steps that come to an operation before anything is printed, and before a block ends.
use Rattle.std.proofs.{lemmas.Option.{get_or_from_slice_get, slice_get-get_or}, Common.{IsTrue, slice_set, ◌||◌}}
use Rattle.std.proofs.lemmas.List.{drop_all, set_split}
use Rattle.mk_check.proofs.Vocabulary.{Bool, Frame, FrameIsWithin, FramesAreWithin, HasStopped, Instruction, List}
use Rattle.mk_check.proofs.Vocabulary.{MovesOn, Node, None, Option, Place, PlaceIsWithin, Some, ℕ, after_line}
use Rattle.mk_check.proofs.Vocabulary.{and_parts, ap, arith, asks_first, false, false≢true, innermost, is_asking}
use Rattle.mk_check.proofs.Vocabulary.{is_print, is_some, kept_in, length, length_push, node_at, not, op_asked, refl}
use Rattle.mk_check.proofs.Vocabulary.{slice_get, slice_get_within, steps_at, steps_from, subst, suc, sym, take}
use Rattle.mk_check.proofs.Vocabulary.{take_all, take_more, trees, true, with_kept, zero, [], ◌&&◌, ◌++◌, ◌+◌, ◌-◌, ◌<◌}
use Rattle.mk_check.proofs.{Vocabulary.{◌∙◌, ◌∷◌, ◌≡◌}, Moves.{FramesAreWithin_pop, asks_at, block_finds_room}}
use Rattle.mk_check.proofs.{Moves.{end_goes_on, line_goes_on}, TreeNodes.{IsAt, IsAtBlock, found_block, steps_at-trees}}
use Rattle.mk_check.specs.Trees.{LeavesBlock, MovesToOp, node_after, node_to_go_on, place_in_block, resumed_node}

pub asked_so : (numbers : List ℕ) (instruction : Instruction)
    → is_some (op_asked numbers instruction) ≡ is_asking instruction
asked_so numbers x1 = grind arith

pub asks_here : (a b c : Bool) → a ≡ true → (a || (not b && c)) ≡ true
asks_here x0 b c e = grind arith

no_print : (a b c : Bool) → a ≡ false → (a || (not b && c)) ≡ true → b ≡ false
no_print x0 x1 c e h = grind arith

-- The innermost block.

get_last : (frames : List Frame) (f : Frame) → slice_get (frames ++ f ∷ []) (length frames) ≡ Some f
get_last [] f = refl
get_last (g ∷ frames) f = get_last frames f

pub innermost_push : (frames : List Frame) (f : Frame) → innermost (frames ++ f ∷ []) ≡ Some f
innermost_push frames f =
    let e : length (frames ++ f ∷ []) - 1 ≡ length frames = omega (arith, length_push frames f) in
    ap (λ (n : ℕ). slice_get (frames ++ f ∷ []) n) e ∙ get_last frames f

pub none_open : (frames : List Frame) → innermost frames ≡ None → frames ≡ []
none_open [] e = refl
none_open (f ∷ frames) e =
    let some = slice_get-get_or (f ∷ frames) (length (f ∷ frames) - 1) f (omega arith) in cc

pub split_last : (frames : List Frame) (f : Frame) → innermost frames ≡ Some f
    → frames ≡ take (length frames - 1) frames ++ f ∷ []
split_last frames f e =
    let last = length frames - 1 in
    let within : last < length frames = slice_get_within frames last f e in
    let all : take (last + 1) frames ≡ frames = take_all (last + 1) frames (omega arith) in
    cc (all, take_more frames last f within, get_or_from_slice_get frames last f f e)

set_last : (frames : List Frame) (f g : Frame) → innermost frames ≡ Some f
    → slice_set frames (length frames - 1) g ≡ take (length frames - 1) frames ++ g ∷ []
set_last frames f g e =
    let last = length frames - 1 in
    let within : last < length frames = slice_get_within frames last f e in
    cc (set_split frames last g within, drop_all (suc last) frames (omega arith))

-- another round of a `repeat`
pub round_left : (p q : Place) (rounds less body next : ℕ)
    → innermost p.frames ≡ Some (Frame.Rounds rounds body next) → 0 < rounds → less ≡ rounds - 1
    → q ≡ record p { at = body; frames = slice_set p.frames (length p.frames - 1) (Frame.Rounds less body next) }
    → LeavesBlock p q
round_left p q zero less body next e some one is = absurd (omega arith)
round_left p q (suc more) less body next e some one is =
    let same : less ≡ more = omega arith in
    record {
      frame = Frame.Rounds (suc more) body next;
      frames = take (length p.frames - 1) p.frames;
      was = split_last p.frames (Frame.Rounds (suc more) body next) e;
      is = cc (is, same, set_last p.frames (Frame.Rounds (suc more) body next) (Frame.Rounds more body next) e);
    }

-- no round is left
pub repeat_left : (p q : Place) (rounds body next : ℕ) → innermost p.frames ≡ Some (Frame.Rounds rounds body next)
    → rounds ≡ 0 → q ≡ record p { at = next; frames = take (length p.frames - 1) p.frames } → LeavesBlock p q
repeat_left p q zero body next e none is = record {
  frame = Frame.Rounds 0 body next;
  frames = take (length p.frames - 1) p.frames;
  was = split_last p.frames (Frame.Rounds 0 body next) e;
  is = is;
}
repeat_left p q (suc more) body next e none is = absurd (omega arith)

pub branch_left : (p q : Place) (next : ℕ) → innermost p.frames ≡ Some (Frame.Branch next)
    → q ≡ record p { at = next; frames = take (length p.frames - 1) p.frames } → LeavesBlock p q
branch_left p q next e is = record {
  frame = Frame.Branch next;
  frames = take (length p.frames - 1) p.frames;
  was = split_last p.frames (Frame.Branch next) e;
  is = is;
}

node_after_within : (count : ℕ) (f : Frame) → FrameIsWithin count f → node_after f < count
node_after_within count x1 w = grind arith

to_go_on_within : (count : ℕ) (n : Node) (at : ℕ) (block : Option Frame) → at < count
    → ((f : Frame) → block ≡ Some f → FrameIsWithin count f) → node_to_go_on n at block < count
to_go_on_within count x1 at x3 h w = grind (arith, node_after_within)

pub resumed_within : (nodes : List Node) {p : Place} → PlaceIsWithin (length nodes) p
    → resumed_node nodes p < length nodes
resumed_within nodes {p = p} w =
    to_go_on_within (length nodes) (node_at nodes p.at) p.at (innermost p.frames) w.at
    (λ f e. (FramesAreWithin_pop (length nodes) (take (length p.frames - 1) p.frames) f
    (subst (λ (xs : List Frame). FramesAreWithin (length nodes) xs) (split_last p.frames f e) w.frames)).1)

module _ (nodes : List Node) where
  first_from : {p : Place} {n : Node} → IsAt nodes p n
      → asks_first (steps_at (trees nodes) p.at) ≡ asks_first (steps_from (trees nodes) n)
  first_from {p} at = grind (arith, steps_at-trees)

  pub first_later : {p : Place} {line : ℕ} {instruction : Instruction} {next : ℕ}
      → IsAt nodes p (Node.Line line instruction next) → is_asking instruction ≡ false → is_print instruction ≡ false
      → asks_first (steps_at (trees nodes) p.at) ≡ asks_first (steps_at (trees nodes) next)
  first_later {instruction} {next} at asks prints =
      first_from at
      ∙ (grind arith)

  pub first_done : {p : Place} → IsAt nodes p Node.Done → asks_first (steps_at (trees nodes) p.at) ≡ false
  first_done at = first_from at

  -- so do those of a block that begins
  first_inside : {p : Place} {n : Node} → IsAtBlock nodes p n → asks_first (steps_at (trees nodes) p.at) ≡ true
      → asks_first (steps_at (trees nodes) (place_in_block p n).at) ≡ true
  first_inside {n = Node.Rounds zero body next} block first = sym (first_from block.at) ∙ first
  first_inside {n = Node.Rounds (suc more) body next} block first = sym (first_from block.at) ∙ first
  first_inside {n = Node.Choice number first second next} block asks =
      let both = and_parts (asks_first (steps_at (trees nodes) first)) (asks_first (steps_at (trees nodes) second))
      (sym (first_from block.at) ∙ asks) in
      grind arith
  first_inside {n = n} block first = absurd (false≢true block.begins)

  pub first_in_block : {p q : Place} {n : Node} → IsAtBlock nodes p n → q ≡ place_in_block p n
      → asks_first (steps_at (trees nodes) p.at) ≡ true → asks_first (steps_at (trees nodes) q.at) ≡ true
  first_in_block block is first =
      ap (λ (x : Place). asks_first (steps_at (trees nodes) x.at)) is ∙ first_inside block first

  pub no_print_here : {p : Place} {line : ℕ} {instruction : Instruction} {next : ℕ}
      → IsAt nodes p (Node.Line line instruction next) → is_asking instruction ≡ false
      → asks_first (steps_at (trees nodes) p.at) ≡ true → is_print instruction ≡ false
  no_print_here {instruction} {next} at asks first =
      no_print (is_asking instruction) (is_print instruction) (asks_first (steps_at (trees nodes) next)) asks
      (sym (first_from at) ∙ first)

  -- A place moves on through lines that print nothing.

  pub line_to_op : {p : Place} {line : ℕ} {instruction : Instruction} {next : ℕ}
      → IsAt nodes p (Node.Line line instruction next) → is_asking instruction ≡ false
      → MovesOn nodes p (with_kept (record p { at = next }) (after_line instruction (kept_in p)))
  line_to_op {p} {instruction} at asks = line_goes_on nodes at (asked_so p.numbers instruction ∙ asks)

  pub stops_at_op : {p : Place} {line : ℕ} {instruction : Instruction} {next : ℕ}
      → IsAt nodes p (Node.Line line instruction next) → is_asking instruction ≡ true → HasStopped nodes p p
  stops_at_op {p} {instruction} at asks = asks_at nodes at (asked_so p.numbers instruction ∙ asks)

  -- the end of a block, after which an operation comes first
  pub left_to_op : {p : Place} (q : Place) (left : Bool) → IsAt nodes p Node.Done
      → asks_first (steps_at (trees nodes) (resumed_node nodes p)) ≡ true
      → (IsTrue left → LeavesBlock p q) → (left ≡ false → (p.frames ≡ []) × (q ≡ p)) → MovesToOp nodes p q
  left_to_op {p} q true at first leaves none =
      let block = leaves refl in
      let moves = end_goes_on nodes at block in
      let last : innermost p.frames ≡ Some block.frame = grind (arith, innermost_push) in
      let resumed : resumed_node nodes p ≡ node_after block.frame = grind arith in
      let here : q.at ≡ node_after block.frame = grind arith in
      record {
        within = moves.within;
        run = moves.run;
        first = ap (λ (k : ℕ). asks_first (steps_at (trees nodes) k)) (here ∙ sym resumed) ∙ first;
        fits = moves.fits;
      }
  left_to_op {p} q false at first leaves none = grind arith

pub ruleset step_to_op_facts = (found_block, block_finds_room, first_in_block)
