use Rattle.mk_core.specs.declared.events.Step.{Step}
use Rattle.mk_words.specs.TurnSteps.{Waits}
use Rattle.mk_words.proofs.taking.wait_for_turn.Given as goal
use Rattle.mk_words.specs.Steps.{IsEnabledTo}

abbrev pub invariant-waiting : goal.invariant-waiting
invariant-waiting g l = record { enabled : IsEnabledTo l.pass (Step.Take l.fn.op); waits : Waits l.fn.home l.pass }
