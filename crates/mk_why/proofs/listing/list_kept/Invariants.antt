use Rattle.mk_why.proofs.Vocabulary.{IsListed, ListsOn, LooksWhileStill, base_at, cell_of_allocation, is_kept}
use Rattle.mk_why.proofs.Vocabulary.{placed_at, view_by, world_in}
use Rattle.mk_sweep.proofs.Below.Laws.Vocabulary.{ℕ, true, ◌<◌, ◌≡◌}
use Rattle.mk_why.proofs.listing.list_kept.Given as goal

abbrev pub invariant-loop-page : goal.invariant-loop-page
invariant-loop-page l = record {
  looks : LooksWhileStill l.fn.stop l.stop;
  on : ListsOn l.words.config (view_by l.fn.stop.pass) l.fn.tables l.tables;
  listed : (b : ℕ) → is_kept l.words.config (world_in (view_by l.fn.stop.pass)) b ≡ true
      → (cell_of_allocation l.words.config (placed_at (view_by l.fn.stop.pass).allocations b)).page < l.page
      → IsListed l.tables.kept.items (base_at (view_by l.fn.stop.pass) b);
}
