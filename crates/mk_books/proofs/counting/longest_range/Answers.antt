use Rattle.std.proofs.Common.{arith}
use Rattle.mk_books.proofs.FreeRangeLemmas.{longest_with-free, longest_with-start, longest_with-taken}
use Rattle.mk_books.proofs.counting.longest_range.Goals.{else-is_free, then-is_free}
use Rattle.mk_books.proofs.counting.longest_range.Goals as goal

pub loop-page-init : goal.loop-page-init
loop-page-init c = grind (arith, longest_with-start)

pub loop-page-preserved : goal.loop-page-preserved
loop-page-preserved c = grind (arith, then-is_free, longest_with-free, else-is_free, longest_with-taken)
