use Rattle.mk_laws.proofs.Vocabulary.{drop, take, ◌≡◌}
use Rattle.mk_replay.{proofs.Pieces.glue, specs.Schedules.pieces_of}
use Rattle.mk_replay.proofs.lines.end_of_piece.Given as goal

-- no piece ends in the bytes so far
abbrev pub invariant-loop-end : goal.invariant-loop-end
invariant-loop-end l = pieces_of l.text ≡ glue (take l.end l.text) (pieces_of (drop l.end l.text))
