use Rattle.mk_sweep.proofs.Vocabulary.{BlacksMore, SweepsOn, has_bit, still_words}
use Rattle.mk_cycle.proofs.Below.Laws.Vocabulary.{ℕ, slice_index, true, [], ◌<◌, ◌≡◌}
use Rattle.mk_sweep.proofs.blackening.blacken_cells.Given as goal

abbrev pub invariant-loop-index : goal.invariant-loop-index
invariant-loop-index l = record {
  on : SweepsOn l.fn.stop l.stop [];
  more : BlacksMore (still_words l.fn.stop.pass) (still_words l.stop.pass);
  black : (k : ℕ) → k < l.index → has_bit l.marks k ≡ true
      → has_bit (slice_index (still_words l.stop.pass).blacks l.page) k ≡ true;
}
