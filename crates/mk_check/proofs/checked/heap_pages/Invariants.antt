use Rattle.mk_check.proofs.Vocabulary.{drop, pages_of, resident_of, ◌≡◌}
use Rattle.mk_check.proofs.checked.heap_pages.Given as goal

abbrev pub invariant-loop-item : goal.invariant-loop-item
invariant-loop-item l = record {
  pages : pages_of l.items ≡ pages_of (drop l.item-index l.items);
  resident : resident_of l.items ≡ resident_of (drop l.item-index l.items);
}
