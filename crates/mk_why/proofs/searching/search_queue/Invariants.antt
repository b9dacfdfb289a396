use Rattle.mk_why.proofs.Vocabulary.{FindsMore, IsSearch, IsSearched, LooksWhileStill, links_of, view_by}
use Rattle.mk_sweep.proofs.Below.Laws.Vocabulary.{ℕ, slice_index, ◌*◌, ◌+◌, ◌-◌, ◌<◌, ◌≤◌}
use Rattle.mk_why.proofs.searching.search_queue.Given as goal

abbrev pub invariant-loop-place : goal.invariant-loop-place
invariant-loop-place l = record {
  on : LooksWhileStill l.fn.stop l.stop;
  limit : ℕ;
  search : IsSearch l.words.config (view_by l.fn.stop.pass) l.tables limit;
  grows : FindsMore l.fn.tables l.tables;
  near : l.place < l.tables.count → (i : ℕ) → i < l.tables.count → links_of l.tables i ≤ links_of l.tables l.place + 1;
  done : (i : ℕ) → i < l.place → IsSearched l.words.config (view_by l.fn.stop.pass) l.tables.found.items
      (slice_index l.tables.queue.items i);
}

abbrev pub decreases-loop-place : goal.decreases-loop-place
decreases-loop-place l = 64 * l.words.config.pages - l.place
