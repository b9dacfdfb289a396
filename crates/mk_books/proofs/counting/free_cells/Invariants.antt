use Rattle.std.proofs.Common.{take, ◌≡◌}
use Rattle.mk_geom.specs.PageUses.{uses_of_pages}
use Rattle.mk_books.specs.Cells.{free_cells_by_class}
use Rattle.mk_books.proofs.counting.free_cells.Given as goal

abbrev pub invariant-loop-page : goal.invariant-loop-page
invariant-loop-page l = l.counts ≡ free_cells_by_class (uses_of_pages (take l.page-index l.pages))
