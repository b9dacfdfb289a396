use Rattle.mk_script.proofs.{Vocabulary.arith, LastPiece.{with_last, without_last}}
use Rattle.mk_script.proofs.splitting.split_lines.Goals.{else-is_empty, then-is_empty}
use Rattle.mk_script.proofs.splitting.split_lines.Goals as goal

pub returns : goal.returns
returns c = grind (arith, then-is_empty, without_last, else-is_empty, with_last)
