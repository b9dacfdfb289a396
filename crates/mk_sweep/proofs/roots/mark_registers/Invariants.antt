use Rattle.mk_sweep.proofs.Vocabulary.{MarksMore, SweepsOn, still_words}
use Rattle.mk_cycle.{proofs.Below.Laws.Vocabulary.{ℕ, [], ◌<◌}, specs.Grays.{RegistersAreWell}}
use Rattle.mk_sweep.proofs.roots.mark_registers.Given as goal

abbrev pub invariant-loop-caller : goal.invariant-loop-caller
invariant-loop-caller l = record {
  on : SweepsOn l.fn.stop l.stop [];
  more : MarksMore (still_words l.fn.stop.pass) (still_words l.stop.pass);
  well : (k : ℕ) → k < l.caller → RegistersAreWell l.words.config l.fn.stop.pass l.stop.pass k;
}
