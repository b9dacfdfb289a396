use Rattle.mk_words.proofs.Below.Laws.Vocabulary.{ℕ, slice_index, ◌<◌, ◌≡◌, ◌≤◌}
use Rattle.mk_cycle.specs.{Grays.{IsCleaner, IsUnmarked, MarksOn}, Stops.still_words}
use Rattle.mk_cycle.proofs.dirty.clean_range.Given as goal

abbrev pub invariant-loop-page : goal.invariant-loop-page
invariant-loop-page l = record {
  on : MarksOn l.fn.stop l.stop;
  fewer : IsCleaner (still_words l.fn.stop.pass) (still_words l.stop.pass);
  clean : (p : ℕ) → l.from ≤ p → p < l.page → slice_index (still_words l.stop.pass).dirty p ≡ 0;
  unmarked : l.marks ≡ 0 → (p : ℕ) → l.from ≤ p → p < l.page → IsUnmarked (still_words l.stop.pass) p;
}
