use Rattle.mk_script.proofs.{FirstAndOperands.first_and_operands, Spacing.then_same}
use Rattle.mk_script.proofs.printer.Printer.words.Goals as goal

pub returns : goal.returns
returns c = then_same c.operands.result c.operands.new.self _ _ c.operands.ensures (rw (
  c.in_ok-piece.ensures,
  c.first_word-length.ensures.word,
) (first_and_operands c.args.self.now c.args.item.now))
