use Rattle.mk_script.proofs.Vocabulary.{canonical_text, take, ◌≡◌}
use Rattle.mk_script.proofs.printing.print.Given as goal

abbrev pub invariant-loop-item : goal.invariant-loop-item
invariant-loop-item l = l.printer ≡ canonical_text (take l.item-index l.item-items)
