use Rattle.mk_sweep.proofs.Vocabulary.{SweepsOn, still_words}
use Rattle.mk_cycle.{proofs.Below.Laws.Vocabulary.{ℕ, slice_index, [], ◌<◌, ◌≡◌}, specs.Grays.{BlacksFewer}}
use Rattle.mk_sweep.proofs.clearing.unblack_all.Given as goal

abbrev pub invariant-loop-page : goal.invariant-loop-page
invariant-loop-page l = record {
  on : SweepsOn l.fn.stop l.stop [];
  fewer : BlacksFewer (still_words l.fn.stop.pass) (still_words l.stop.pass);
  none : (p : ℕ) → p < l.page → slice_index (still_words l.stop.pass).blacks p ≡ 0;
}
