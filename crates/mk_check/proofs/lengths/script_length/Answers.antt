use Rattle.std.proofs.lemmas.List.{reverse-append}
use Rattle.mk_check.proofs.Vocabulary.{map-append, ◌+◌}
use Rattle.mk_check.proofs.lengths.script_length.Goals as goal

pub loop-item-preserved : goal.loop-item-preserved
loop-item-preserved c line =
    rw (map-append, reverse-append) (c.in_ok-read.ensures line _ (c.loop-item.invariant (line + 1)))
