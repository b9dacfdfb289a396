use Rattle.std.proofs.Common.{drop, ◌≡◌, ◌≤◌}
use Rattle.mk_geom.specs.PageUses.{longest_free_range, uses_of_pages}
use Rattle.mk_books.proofs.FreeRangeLemmas.{longest_with}
use Rattle.mk_books.proofs.counting.longest_range.Given as goal

abbrev pub invariant-loop-page : goal.invariant-loop-page
invariant-loop-page l = record {
  below : l.range ≤ l.longest;
  counted : l.longest ≤ l.page-index;
  rest : longest_with l.longest l.range (uses_of_pages (drop l.page-index l.pages))
      ≡ longest_free_range (uses_of_pages l.pages);
}
