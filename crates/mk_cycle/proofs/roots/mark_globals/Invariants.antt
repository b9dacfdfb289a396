use Rattle.mk_words.proofs.Below.Laws.Vocabulary.{ℕ, ◌*◌, ◌<◌}
use Rattle.mk_cycle.specs.Grays.{GlobalIsWell, listed, MarksAndNotes}
use Rattle.mk_cycle.proofs.roots.mark_globals.Given as goal

abbrev pub invariant-loop-group : goal.invariant-loop-group
invariant-loop-group l = record {
  marks : MarksAndNotes l.table.pages l.fn.stop (listed l.fn.work) l.stop (listed l.work);
  well : (g : ℕ) → g < 8 * l.group → GlobalIsWell l.table.words.now.config l.fn.stop.pass l.stop.pass g;
}
