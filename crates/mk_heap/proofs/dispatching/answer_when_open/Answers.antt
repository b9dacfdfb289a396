use Rattle.mk_heap.proofs.Dispatched.{answered_by_call, makes_none, none_then_answers, none_then_none, waits_not}
use Rattle.mk_heap.proofs.dispatching.answer_when_open.Goals as goal

pub call-requires-clause-admitted : goal.call-requires-clause-admitted
call-requires-clause-admitted g c =
    c.requires.admitted c.held.caller.pass (c.held.caller.in_order c.held.invariant.home).pass.history
    c.held.invariant.none

pub returns-in-Ok-clause-answers : goal.returns-in-Ok-clause-answers
returns-in-Ok-clause-answers g c = λ on. none_then_answers c.held.invariant.none c.requires.entered
    (answered_by_call on (c.held.caller.in_order c.held.invariant.home).pass.own c.requires.entered
    c.in-Ok.ensures.called)

pub held-preserved : goal.held-preserved
held-preserved g c = record {
  home = c.call.ensures.home;
  none = none_then_none c.held.invariant.none (makes_none c.in-Err.ensures.held);
}

pub held-init : goal.held-init
held-init g c = record { home = c.requires.home; none = waits_not c.args.caller.now.pass }
