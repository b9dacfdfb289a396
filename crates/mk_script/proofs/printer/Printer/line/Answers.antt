use Rattle.mk_script.proofs.{Vocabulary.{append_assoc, words_of_item}, Spacing.{line_text-joined, then_same}}
use Rattle.mk_script.proofs.printer.Printer.line.Goals as goal

pub returns : goal.returns
returns c = then_same c.piece.result c.piece.new.self _ _ c.piece.ensures
    (rw (line_text-joined (words_of_item c.args.item.now), c.in_ok-words.ensures) (simp append_assoc))
