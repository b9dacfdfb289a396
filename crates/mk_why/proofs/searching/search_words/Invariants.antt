use Rattle.mk_why.proofs.Vocabulary.{IsNoted, SearchesOn, view_by}
use Rattle.mk_sweep.proofs.Below.Laws.Vocabulary.{ℕ, slice_index, ◌+◌, ◌<◌}
use Rattle.mk_why.proofs.searching.search_words.Given as goal

abbrev pub invariant-loop-i : goal.invariant-loop-i
invariant-loop-i l = record {
  on : SearchesOn l.words.config l.fn.stop l.stop l.fn.tables l.tables (l.links + 1);
  noted : (i : ℕ) → i < l.i → IsNoted l.words.config (view_by l.fn.stop.pass) l.tables.found.items
      (slice_index (view_by l.fn.stop.pass).words.heap (l.base + i)) (l.links + 1);
}
