use Rattle.mk_run.proofs.Below.Laws.Vocabulary.{true, ◌≡◌}
use Rattle.mk_heap_tests.specs.HeldObjects.{StaysNull}
use Rattle.mk_heap_tests.proofs.callers.make_rounds.Given as goal

pub record IsUnderWay (l : goal.Live-loop-round) : Type 0 where
  pub home : l.caller.home ≡ true
  pub stays : StaysNull l.fn.caller.pass l.caller.pass

abbrev pub invariant-loop-round : goal.invariant-loop-round
invariant-loop-round l = IsUnderWay l
