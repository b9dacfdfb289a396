use Rattle.std.specs.List.{flat_map}
use Rattle.mk_run.proofs.Below.Laws.Vocabulary.{drop, ◌++◌, ◌≡◌}
use Rattle.mk_outputs.proofs.pieces.push_pieces.Given as goal

-- what stands so far, and the pieces that are left
abbrev pub invariant-loop-piece : goal.invariant-loop-piece
invariant-loop-piece l =
    l.text.items ++ flat_map (λ piece. piece.now) (drop l.piece-index l.pieces)
    ≡ l.initial.text.items ++ flat_map (λ piece. piece.now) l.pieces
