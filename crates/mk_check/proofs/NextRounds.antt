-- The end of a block, or the beginning of a `repeat`, after which an operation comes: the script stops there.
use Rattle.mk_check.proofs.Vocabulary.{Frame, FrameIsWithin, FramesAreWithin, HasStopped, IsTree, KeptState, List}
use Rattle.mk_check.proofs.Vocabulary.{MovesOn, Node, Place, PlaceIsWithin, Some, ℕ, ap, arith, asks_at, innermost}
use Rattle.mk_check.proofs.Vocabulary.{kept_in, length, node_at, refl, subst, suc, take, true, with_kept, zero, ◌-◌}
use Rattle.mk_check.proofs.{Vocabulary.{◌<◌, ◌∙◌, ◌≡◌}, Moves.{FramesAreWithin_pop, begun_block, end_goes_on}}
use Rattle.mk_check.proofs.{AsksFirst.split_last, AtOnce.{asks_so, stopped_here}, TreeNodes.{IsAt, is_at}}
use Rattle.mk_check.specs.Trees.{LeavesBlock, place_in_rounds}

pub innermost_within : (count : ℕ) (frames : List Frame) (f : Frame) → FramesAreWithin count frames
    → innermost frames ≡ Some f → FrameIsWithin count f
innermost_within count frames f w e =
    (FramesAreWithin_pop count (take (length frames - 1) frames) f
    (subst (λ (xs : List Frame). FramesAreWithin count xs) (split_last frames f e) w)).1

-- a place that moved on to an operation
stops_after : (nodes : List Node) {p t : Place} → IsTree nodes → MovesOn nodes p t
    → asks_at (node_at nodes t.at) ≡ true → HasStopped nodes p t
stops_after nodes {t = t} tree moves asks =
    let stopped = stopped_here nodes t (node_at nodes t.at) tree moves.within refl
    (asks_so t.numbers (node_at nodes t.at) asks) in
    record {
      within = stopped.within;
      at = stopped.at;
      run = stopped.run ∙ moves.run;
      fits = λ f. stopped.fits (moves.fits f);
    }

pub stops_behind_block : (nodes : List Node) {p t : Place} → IsTree nodes → PlaceIsWithin (length nodes) p
    → node_at nodes p.at ≡ Node.Done → LeavesBlock p t → asks_at (node_at nodes t.at) ≡ true → HasStopped nodes p t
stops_behind_block nodes tree w e leaves asks = stops_after nodes tree (end_goes_on nodes (is_at tree w e) leaves) asks

-- a `repeat` whose first round begins with an operation
pub stops_in_round : (nodes : List Node) (p : Place) {t : Place} (at rounds body next : ℕ)
    → IsAt nodes (record p { at = at }) (Node.Rounds rounds body next) → 0 < rounds
    → asks_at (node_at nodes body) ≡ true → t ≡ place_in_rounds p rounds body next
    → HasStopped nodes (record p { at = at }) t
stops_in_round nodes p at zero body next here some asks is = absurd (omega arith)
stops_in_round nodes p at (suc more) body next here some asks is =
    stops_after nodes here.tree (begun_block nodes (record { at = here; begins = refl }) is)
    (ap (λ (q : Place). asks_at (node_at nodes q.at)) is ∙ asks)

-- what is kept stays where a block is left

pub kept_left : {p q : Place} → LeavesBlock p q → kept_in q ≡ kept_in p
kept_left {p} l = ap kept_in l.is ∙ (grind arith)

-- nor does it matter to how a block is left
pub left_with : {p q : Place} (next : ℕ) (k : KeptState) → LeavesBlock p q
    → LeavesBlock (with_kept (record p { at = next }) k) (with_kept q k)
left_with {p} next k l = grind arith
