use Rattle.mk_words.proofs.Below.Laws.Vocabulary.{ℕ, ◌<◌}
use Rattle.mk_cycle.specs.Grays.{RegistersAreWell, listed, MarksAndNotes}
use Rattle.mk_cycle.proofs.roots.mark_registers.Given as goal

abbrev pub invariant-loop-caller : goal.invariant-loop-caller
invariant-loop-caller l = record {
  marks : MarksAndNotes l.table.pages l.fn.stop (listed l.fn.work) l.stop (listed l.work);
  well : (k : ℕ) → k < l.caller → RegistersAreWell l.table.words.now.config l.fn.stop.pass l.stop.pass k;
}
