use Rattle.std.proofs.Common.{◌+◌, ◌≡◌, ◌≤◌}
use Rattle.mk_geom.specs.PageUses.{resident_pages, uses_of_pages}
use Rattle.mk_books.proofs.{FreeRangeLemmas.SeesRanges, PlaceLemmas.resident_from}
use Rattle.mk_books.proofs.fitting.large_fit.Given as goal

abbrev pub invariant-loop-number : goal.invariant-loop-number
invariant-loop-number l = record {
  few : l.resident ≤ l.number;
  resident : l.resident + resident_from l.number l.pages ≡ resident_pages (uses_of_pages l.pages);
  ranges : SeesRanges l.first l.range l.number l.count l.pages;
}
