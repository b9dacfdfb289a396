use Rattle.mk_sweep.proofs.Vocabulary.{BlacksMore, PageIsBlack, SweepsOn, still_words}
use Rattle.mk_cycle.proofs.Below.Laws.Vocabulary.{ℕ, [], ◌<◌}
use Rattle.mk_sweep.proofs.blackening.blacken_all.Given as goal

abbrev pub invariant-loop-page : goal.invariant-loop-page
invariant-loop-page l = record {
  on : SweepsOn l.fn.stop l.stop [];
  more : BlacksMore (still_words l.fn.stop.pass) (still_words l.stop.pass);
  black : (p : ℕ) → p < l.page → PageIsBlack (still_words l.stop.pass) p;
}
