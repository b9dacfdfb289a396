use Rattle.mk_sweep.{proofs.Vocabulary.{words_of_cells}, specs.Sweeps.{SweepsWords}}
use Rattle.mk_cycle.proofs.Below.Laws.Vocabulary.{length, ◌*◌, ◌≡◌, ◌≤◌}
use Rattle.mk_sweep.proofs.sweeping.sweep_cells.Given as goal

abbrev pub invariant-loop-index : goal.invariant-loop-index
invariant-loop-index l = record {
  sweeps : SweepsWords l.words.config.pages l.fn.stop l.stop (words_of_cells l.page l.size l.used l.index);
  looks : l.looks ≡ length (words_of_cells l.page l.size l.used l.index);
  few : l.looks ≤ l.index * 4096;
}
