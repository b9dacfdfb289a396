use Rattle.mk_sweep.{proofs.Vocabulary.{still_words, words_below}, specs.Sweeps.{SweepsWords}}
use Rattle.mk_cycle.proofs.Below.Laws.Vocabulary.{length, ◌*◌, ◌≡◌, ◌≤◌}
use Rattle.mk_sweep.proofs.sweeping.sweep_pages.Given as goal

abbrev pub invariant-loop-page : goal.invariant-loop-page
invariant-loop-page l = record {
  sweeps : SweepsWords l.words.config.pages l.fn.stop l.stop (words_below (still_words l.fn.stop.pass) l.page);
  looks : l.looks ≡ length (words_below (still_words l.fn.stop.pass) l.page);
  few : l.looks ≤ l.page * 131072;
}
