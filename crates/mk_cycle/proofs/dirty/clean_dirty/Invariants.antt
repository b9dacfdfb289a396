use Rattle.mk_words.proofs.Below.Laws.Vocabulary.{ℕ, slice_index, ◌-◌, ◌<◌, ◌≡◌}
use Rattle.mk_cycle.specs.{Grays.{IsUnmarked, MarksOn}, Stops.still_words}
use Rattle.mk_cycle.proofs.dirty.clean_dirty.Given as goal

abbrev pub invariant-loop-page : goal.invariant-loop-page
invariant-loop-page l = record {
  on : MarksOn l.fn.stop l.stop;
  clean : (p : ℕ) → p < l.from → slice_index (still_words l.stop.pass).dirty p ≡ 0;
  unmarked : l.marks ≡ 0 → (p : ℕ) → p < l.from → IsUnmarked (still_words l.stop.pass) p;
}

abbrev pub decreases-loop-page : goal.decreases-loop-page
decreases-loop-page l = l.table.pages - l.from
