use Rattle.mk_alloc.proofs.Below.Laws.Vocabulary.{true, ◌≡◌}
use Rattle.mk_heap.specs.Dispatching.{MakesNoCall}
use Rattle.mk_heap.proofs.dispatching.answer_when_open.Given as goal

abbrev pub invariant-held : goal.invariant-held
invariant-held g l = record {
  home : l.caller.home ≡ true;
  none : MakesNoCall l.fn.caller.pass l.caller.pass;
}
