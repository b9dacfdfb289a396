use Rattle.std.{proofs.Common.{◌+◌, ◌≡◌, ◌≤◌}, specs.Option.{option_or}}
use Rattle.mk_geom.specs.PageUses.{cell_place, first_where, is_free_page, resident_pages, uses_of_pages}
use Rattle.mk_books.proofs.PlaceLemmas.{cell_from, free_page_from, resident_from}
use Rattle.mk_books.proofs.fitting.small_fit.Given as goal

abbrev pub invariant-loop-number : goal.invariant-loop-number
invariant-loop-number l = record {
  few : l.resident ≤ l.number;
  cells : cell_from l.number l.class l.leaf l.pages ≡ cell_place l.class l.leaf (uses_of_pages l.pages);
  resident : l.resident + resident_from l.number l.pages ≡ resident_pages (uses_of_pages l.pages);
  free : option_or l.first_free (free_page_from l.number l.pages) ≡ first_where is_free_page (uses_of_pages l.pages);
}
