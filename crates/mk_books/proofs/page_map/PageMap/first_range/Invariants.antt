use Rattle.mk_books.proofs.page_map.PageMap.first_range.Given as goal
use Rattle.mk_books.proofs.Vocabulary.{range_start, range_start_from, uses_of_pages, ◌-◌, ◌≡◌, ◌≤◌}

abbrev pub invariant-loop-start : goal.invariant-loop-start
invariant-loop-start l = record {
  begun : l.from ≤ l.pages;
  rest : range_start_from l.from l.count l.self.pages ≡ range_start l.count (uses_of_pages l.self.pages);
}

abbrev pub decreases-loop-start : goal.decreases-loop-start
decreases-loop-start l = l.pages - l.from
