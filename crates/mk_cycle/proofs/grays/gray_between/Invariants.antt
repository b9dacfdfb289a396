use Rattle.mk_words.proofs.Below.Laws.Vocabulary.{ℕ, ◌-◌, ◌<◌, ◌≤◌}
use Rattle.mk_cycle.specs.{Grays.{HasNoGray, LooksOn}, Stops.still_words}
use Rattle.mk_cycle.proofs.grays.gray_between.Given as goal

abbrev pub invariant-loop-page : goal.invariant-loop-page
invariant-loop-page l = record {
  looks : LooksOn l.fn.stop l.stop;
  none : (p : ℕ) → l.from ≤ p → p < l.next → HasNoGray (still_words l.fn.stop.pass) p;
}

abbrev pub decreases-loop-page : goal.decreases-loop-page
decreases-loop-page l = l.table.pages - l.next
