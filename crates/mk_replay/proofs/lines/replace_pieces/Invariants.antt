use Rattle.mk_replay.{proofs.Vocabulary.{texts_of}, specs.Schedules.{pieces_of}}
use Rattle.mk_laws.proofs.Vocabulary.{length, ◌++◌, ◌≡◌, ◌≤◌}
use Rattle.mk_replay.proofs.lines.replace_pieces.Given as goal

-- the pieces so far stand before those of the rest
abbrev pub invariant-loop-end : goal.invariant-loop-end
invariant-loop-end l = record {
  pieces : pieces_of l.text ≡ texts_of l.pieces.items ++ pieces_of l.rest;
  within : length l.rest ≤ length l.text;
}

abbrev pub decreases-loop-end : goal.decreases-loop-end
decreases-loop-end l = length l.rest
