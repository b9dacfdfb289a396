use Rattle.mk_why.proofs.Vocabulary.{IsListed, ListsOn, base_at, cell_of_allocation, is_kept, placed_at, view_by}
use Rattle.mk_why.proofs.Vocabulary.{world_in}
use Rattle.mk_sweep.proofs.Below.Laws.Vocabulary.{ℕ, true, ◌<◌, ◌≡◌}
use Rattle.mk_why.proofs.listing.list_cells.Given as goal

abbrev pub invariant-loop-index : goal.invariant-loop-index
invariant-loop-index l = record {
  on : ListsOn l.words.config (view_by l.stop.pass) l.fn.tables l.tables;
  listed : (b : ℕ) → is_kept l.words.config (world_in (view_by l.stop.pass)) b ≡ true
      → (cell_of_allocation l.words.config (placed_at (view_by l.stop.pass).allocations b)).page ≡ l.page
      → (cell_of_allocation l.words.config (placed_at (view_by l.stop.pass).allocations b)).index < l.index
      → IsListed l.tables.kept.items (base_at (view_by l.stop.pass) b);
}
