-- What the nodes of a tree stand for, what comes after each, and where a script is in it.
use Rattle.std.specs.Prelude.{◌≡◌, ℕ, zero, suc, ◌+◌, ◌*◌, ◌<◌, ◌≤◌, ◌++◌, ◌==◌, max, true, List, [], ◌∷◌, length, fold}
use Rattle.std.specs.Prelude.{slice_index, slice_index_or, slice_get, ◌-◌, if◌then◌else◌, Option, Some, None, is_some}
use Rattle.std.specs.Prelude.{Bool, false, map}
use Rattle.mk_check.specs.{declared.feeding.tree.{Node.Node, Frame.Frame}, Steps.{Steps, Done}}
use Rattle.mk_check.specs.Steps.{Line, Rounds, Choice, then_steps, KeptState, Stopped, op_asked, asks_first, stop_of}
use Rattle.mk_check.specs.Steps.{is_asking, is_show, keeping_register}
use Rattle.mk_check.specs.declared.feeding.instructions.Instruction.{Instruction}
use Rattle.mk_check.specs.declared.feeding.instructions.Instruction.TheVariants.{Nothing}
use Rattle.mk_check.specs.declared.feeding.tree.{Sequel.Sequel, Sequels.Sequels}
use Rattle.mk_check.specs.declared.feeding.tree.Spot.{Spot}

-- the steps from a node; from one that isn't there, none
abbrev pub steps_at : List Steps → ℕ → Steps
steps_at built at = slice_index_or built at Done

-- the steps of a node, where these are built of the nodes before it
abbrev pub steps_from : List Steps → Node → Steps
steps_from built Node.Done = Done
steps_from built (Node.Line line instruction next) = Line line instruction (steps_at built next)
steps_from built (Node.Rounds rounds body next) = Rounds rounds (steps_at built body) (steps_at built next)
steps_from built (Node.Choice number first second next) =
    Choice number (steps_at built first) (steps_at built second) (steps_at built next)

-- the trees of the nodes, with one more
abbrev pub with_node : List Steps → Node → List Steps
with_node built n = built ++ steps_from built n ∷ []

-- the steps from each node
abbrev pub trees : List Node → List Steps
trees nodes = fold with_node [] nodes

-- the node names nodes before this place alone
abbrev pub IsBelow : ℕ → Node → Type 0
IsBelow place Node.Done = Unit {0}
IsBelow place (Node.Line line instruction next) = next < place
IsBelow place (Node.Rounds rounds body next) = (body < place) × (next < place)
IsBelow place (Node.Choice number first second next) = (first < place) × (second < place) × (next < place)

-- the node at this place
abbrev pub node_at : List Node → ℕ → Node
node_at nodes at = slice_index_or nodes at Node.Done

-- each node names those before it alone
abbrev pub IsTree : List Node → Type 0
IsTree nodes = (at : ℕ) → at < length nodes → IsBelow at (node_at nodes at)

-- A script's node, its open blocks, the outermost first, its number registers, and its text so far.
pub record Place : Type 0 where
  pub at : ℕ
  pub frames : List Frame
  pub numbers : List ℕ
  pub text : List ℕ

-- the steps of an open block, before those after it
abbrev pub frame_steps : List Steps → Steps → Frame → Steps
frame_steps built behind (Frame.Rounds rounds body next) =
    Rounds rounds (steps_at built body) (then_steps (steps_at built next) behind)
frame_steps built behind (Frame.Branch next) = then_steps (steps_at built next) behind

-- the steps after the innermost block
abbrev pub behind_frames : List Steps → List Frame → Steps
behind_frames built frames = fold (frame_steps built) Done frames

-- what is left to run
abbrev pub left_in : List Node → Place → Steps
left_in nodes p = then_steps (steps_at (trees nodes) p.at) (behind_frames (trees nodes) p.frames)

-- the registers and the text of a place
abbrev pub kept_in : Place → KeptState
kept_in p = record { numbers = p.numbers; text = p.text }

-- the place, with these
abbrev pub with_kept : Place → KeptState → Place
with_kept p kept = record p { numbers = kept.numbers; text = kept.text }

-- what is left to run, and what is kept
abbrev pub stopped_in : List Node → Place → Stopped
stopped_in nodes p = record { left = left_in nodes p; kept = kept_in p }

-- The open block names nodes that are there.
abbrev pub FrameIsWithin : ℕ → Frame → Type 0
FrameIsWithin count (Frame.Rounds rounds body next) = (body < count) × (next < count)
FrameIsWithin count (Frame.Branch next) = next < count

-- So do all open blocks.
abbrev pub FramesAreWithin : ℕ → List Frame → Type 0
FramesAreWithin count [] = Unit {0}
FramesAreWithin count (f ∷ frames) = FrameIsWithin count f × FramesAreWithin count frames

-- it names nodes of this many alone
pub record PlaceIsWithin (count : ℕ) (p : Place) : Type 0 where
  pub at : p.at < count
  pub frames : FramesAreWithin count p.frames

-- how many of its blocks stand in one another
abbrev pub depth_of : Steps → ℕ
depth_of Done = 0
depth_of (Line line instruction rest) = depth_of rest
depth_of (Rounds rounds body rest) = max (1 + depth_of body) (depth_of rest)
depth_of (Choice number first second rest) = max (1 + max (depth_of first) (depth_of second)) (depth_of rest)

-- As many open blocks are around this one: no more than 32 are ever open in it, nor after it.
abbrev pub FrameFits : List Steps → ℕ → Frame → Type 0
FrameFits built around (Frame.Rounds rounds body next) =
    (around + 1 + depth_of (steps_at built body) ≤ 32) × (around + depth_of (steps_at built next) ≤ 32)
FrameFits built around (Frame.Branch next) = around + depth_of (steps_at built next) ≤ 32

-- The open blocks fit the trees in which they are.
abbrev pub FramesFit : List Steps → ℕ → List Frame → Type 0
FramesFit built around [] = Unit {0}
FramesFit built around (f ∷ frames) = FrameFits built around f × FramesFit built (around + 1) frames

-- No more than 32 blocks are ever open from here on.
pub record PlaceFits (nodes : List Node) (p : Place) : Type 0 where
  pub here : length p.frames + depth_of (steps_at (trees nodes) p.at) ≤ 32
  pub frames : FramesFit (trees nodes) 0 p.frames

-- the script stops at the node: at an operation, or at its end
abbrev pub StopsAt : Node → Place → Type 0
StopsAt Node.Done p = p.frames ≡ []
StopsAt (Node.Line line instruction next) p = is_some (op_asked p.numbers instruction) ≡ true
StopsAt _ p = ⊥

-- a `repeat` begins, or goes on, with this many rounds left
abbrev pub place_in_rounds : Place → ℕ → ℕ → ℕ → Place
place_in_rounds p zero body next = record p { at = next }
place_in_rounds p (suc more) body next = record p { at = body; frames = p.frames ++ Frame.Rounds more body next ∷ [] }

-- an open block ends, which is no longer among the frames
abbrev pub place_behind_block : Place → Frame → Place
place_behind_block p (Frame.Rounds rounds body next) = place_in_rounds p rounds body next
place_behind_block p (Frame.Branch next) = record p { at = next }

-- an `if` begins
abbrev pub place_in_branch : Place → ℕ → ℕ → ℕ → ℕ → Place
place_in_branch p number first second next =
    record p
    { at = if slice_index p.numbers number == 0 then second else first; frames = p.frames ++ Frame.Branch next ∷ [] }

-- the block of a node begins, if there is one
abbrev pub place_in_block : Place → Node → Place
place_in_block p (Node.Rounds rounds body next) = place_in_rounds p rounds body next
place_in_block p (Node.Choice number first second next) = place_in_branch p number first second next
place_in_block p n = p

-- the innermost block is left
pub record LeavesBlock (old new : Place) : Type 0 where
  pub frame : Frame
  pub frames : List Frame
  pub was : old.frames ≡ frames ++ frame ∷ []
  pub is : new ≡ place_behind_block (record old { frames = frames }) frame

-- the node where a script goes on once the end of an open block is reached
abbrev pub node_after : Frame → ℕ
node_after (Frame.Rounds zero body next) = next
node_after (Frame.Rounds (suc more) body next) = body
node_after (Frame.Branch next) = next

-- the innermost open block
abbrev pub innermost : List Frame → Option Frame
innermost frames = slice_get frames (length frames - 1)

-- the node where a script goes on that is at this one: after the end of a block it has left that
abbrev pub node_to_go_on : Node → ℕ → Option Frame → ℕ
node_to_go_on Node.Done at (Some f) = node_after f
node_to_go_on _ at block = at

-- the node with which a block goes on
abbrev pub resumed_node : List Node → Place → ℕ
resumed_node nodes p = node_to_go_on (node_at nodes p.at) p.at (innermost p.frames)

-- no fewer than the moves that are left
abbrev pub work_of : Steps → ℕ
work_of Done = 0
work_of (Line line instruction rest) = 1 + work_of rest
work_of (Rounds rounds body rest) = 1 + (rounds * (1 + work_of body) + work_of rest)
work_of (Choice number first second rest) = 1 + (max (work_of first) (work_of second) + work_of rest)

-- what is left to do from this place on, as a number
abbrev pub work_in : List Node → Place → ℕ
work_in nodes p = 2 * work_of (left_in nodes p) + length p.frames

-- The place moves on, and stops where it would have stopped.
pub record MovesOn (nodes : List Node) (old new : Place) : Type 0 where
  pub within : PlaceIsWithin (length nodes) new
  pub run : stop_of (left_in nodes new) (kept_in new) ≡ stop_of (left_in nodes old) (kept_in old)
  pub nearer : work_in nodes new < work_in nodes old
  pub fits : PlaceFits nodes old → PlaceFits nodes new

-- The place is the same or moves on, and its node's steps come to an operation first.
pub record MovesToOp (nodes : List Node) (old new : Place) : Type 0 where
  pub within : PlaceIsWithin (length nodes) new
  pub run : stop_of (left_in nodes new) (kept_in new) ≡ stop_of (left_in nodes old) (kept_in old)
  pub first : asks_first (steps_at (trees nodes) new.at) ≡ true
  pub fits : PlaceFits nodes old → PlaceFits nodes new

-- The place is where the steps stop.
pub record HasStopped (nodes : List Node) (old new : Place) : Type 0 where
  pub within : PlaceIsWithin (length nodes) new
  pub at : StopsAt (node_at nodes new.at) new
  pub run : stopped_in nodes new ≡ stop_of (left_in nodes old) (kept_in old)
  pub fits : PlaceFits nodes old → PlaceFits nodes new

-- A script's tree with what comes after each node. Private functions alone cite these words.

-- the nodes of these spots
abbrev pub nodes_of : List Spot → List Node
nodes_of spots = map (λ (s : Spot). s.node) spots

-- the node is a line that asks for an operation
abbrev pub asks_at : Node → Bool
asks_at (Node.Line line instruction next) = is_asking instruction
asks_at _ = false

-- the instruction of a line; of another node, one that asks for nothing
abbrev pub instruction_of_node : Node → Instruction
instruction_of_node (Node.Line line instruction next) = instruction
instruction_of_node _ = Nothing

-- what comes where this node is the next one
abbrev pub sequel_to : Node → Sequel
sequel_to Node.Done = Sequel.Ends
sequel_to (Node.Line line instruction next) = if is_asking instruction then Sequel.Asks else Sequel.Other
sequel_to (Node.Rounds rounds body next) = Sequel.Begins
sequel_to (Node.Choice number first second next) = Sequel.Other

-- nothing is known of what comes next
abbrev pub no_sequels : Sequels
no_sequels = record { next = 0; register = 0; unkept = Sequel.Other; kept = Sequel.Other }

-- this comes at the next node, after an answer that is shown, or not, and that this register keeps, if any does
abbrev pub sequels_by : ℕ → Bool → Option ℕ → Sequel → Sequels
sequels_by next true kept s = no_sequels
sequels_by next false None s = record { next = next; register = 0; unkept = s; kept = Sequel.Other }
sequels_by next false (Some number) s = record { next = next; register = number; unkept = Sequel.Other; kept = s }

-- what comes after an instruction before this node
abbrev pub sequels_before : ℕ → Node → Instruction → Sequels
sequels_before next n instruction =
    sequels_by next (is_show instruction) (keeping_register instruction) (sequel_to n)

-- what comes after a node
abbrev pub sequels_of : List Node → Node → Sequels
sequels_of nodes (Node.Line line instruction next) = sequels_before next (node_at nodes next) instruction
sequels_of nodes _ = no_sequels

-- what is known of the end of a block
abbrev pub end_spot : Spot
end_spot = record { instruction = Nothing; node = Node.Done; sequels = no_sequels; asks_first = false }

-- what is known at this place; where there is none, of the end of a block
abbrev pub spot_at : List Spot → ℕ → Spot
spot_at spots at = slice_index_or spots at end_spot

-- it has the node's instruction, what comes after the node, and whether its steps come to an operation first
pub record IsMarked (nodes : List Node) (s : Spot) : Type 0 where
  pub instruction : s.instruction ≡ instruction_of_node s.node
  pub sequels : s.sequels ≡ sequels_of nodes s.node
  pub first : s.asks_first ≡ asks_first (steps_from (trees nodes) s.node)

-- The nodes are a tree, and each is marked.
pub record IsMarkedTree (spots : List Spot) : Type 0 where
  pub tree : IsTree (nodes_of spots)
  pub marks : (at : ℕ) → at < length spots → IsMarked (nodes_of spots) (spot_at spots at)
