use Rattle.mk_cycle.proofs.{CleanedPages.AreReadyFrom, Vocabulary.Cleans}
use Rattle.mk_cycle.proofs.cleaning.clean_range.Given as goal

abbrev pub invariant-loop-page : goal.invariant-loop-page
invariant-loop-page l = record {
  cleans : Cleans l.fn.turn.pass l.turn.pass;
  ready : AreReadyFrom l.fn.turn.pass l.turn.pass l.from l.page;
}
