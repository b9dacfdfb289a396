use Rattle.mk_script.proofs.Vocabulary.{arith}
use Rattle.mk_script.proofs.{Spacing.drop_next, Spacing.pointer_behind, printer.Printer.fields.Goals.in-Number}
use Rattle.mk_script.proofs.printer.Printer.fields.Goals as goal

pub loop-word-preserved : goal.loop-word-preserved
loop-word-preserved c = grind (arith, drop_next, in-Number, pointer_behind)
