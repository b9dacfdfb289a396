use Rattle.mk_trace.proofs.{Vocabulary.{HostState, PassState}, ExactPlays.call_stays_exact}
use Rattle.mk_trace.proofs.OneCaller.{joined_home, made_admits, made_alone, made_exists, made_seats}
use Rattle.mk_trace.proofs.{FreedCalls.call_does, JoinedCalls.Joined, calls.call.Goals.After-join_caller}
use Rattle.mk_heap.proofs.Below.Laws.Vocabulary.{ap, arith, ◌∙◌}
use Rattle.mk_trace.proofs.calls.call.Goals as goal

pub answer_to-answer-requires-clause-may : goal.answer_to-answer-requires-clause-may
answer_to-answer-requires-clause-may g c x2 within = record {
  home = c.caller_again-caller.ensures.caller.home;
  exists = grind (arith, made_exists);
  alone = grind (arith, made_alone);
  made_for = grind arith;
}

pub answer_to-answer-requires-clause-admitted : goal.answer_to-answer-requires-clause-admitted
answer_to-answer-requires-clause-admitted g c κs within =
    made_admits c.requires.home c.caller_again-caller.result
    c.caller_again-caller.ensures.caller c.args.op c.requires.admitted

pub returns-clause-home : goal.returns-clause-home
returns-clause-home g c =
    joined_home c.caller_again-caller.new.self c.join_caller.new.self c.finish.result c.requires.home
    c.caller_again-caller.ensures.host c.join_caller.ensures.host (ap (λ (p : PassState). p.seats) c.finish.ensures.pass
    ∙ ap (λ (p : PassState). p.seats) c.answer_to-answer.ensures.answers.is ∙ made_seats c.requires.home
    c.caller_again-caller.result c.caller_again-caller.ensures.caller) c.join_caller.ensures.overs
    c.join_caller.ensures.history

-- The caller was made again, and is joined.
joined : (g : _) (c : After-join_caller g) → Joined g.E.Engine.ways.on c.args.host.now c.args.op
    c.answer_to-answer.result c.answer_to-answer.new.caller.pass c.join_caller.new.self.pass.seen
joined g c = record {
  answers =
      rw c.caller_again-caller.ensures.caller.pass at c.answer_to-answer.ensures.answers;
  own =
      rw c.caller_again-caller.ensures.host at c.join_caller.ensures.own;
  came =
      rw c.finish.ensures.pass at c.join_caller.ensures.came;
  all =
      rw c.requires.home.table c.requires.home.all;
  history =
      rw (ap (λ (x : HostState). x.pass.table) c.join_caller.ensures.host
      ∙ ap (λ (x : HostState). x.pass.table) c.caller_again-caller.ensures.host) at c.join_caller.ensures.history;
}

pub returns-clause-does : goal.returns-clause-does
returns-clause-does g c =
    call_does c.args.heap.now c.requires.home (joined g (goal.at.returns-clause-does g c).After-join_caller)

pub returns-clause-exact : goal.returns-clause-exact
returns-clause-exact g c =
    λ off unswept. rw c.requires.home.table at (call_stays_exact (joined g (goal.at.returns-clause-exact g
    c).After-join_caller) (rw c.caller_again-caller.ensures.caller.pass at
    (c.answer_to-answer.ensures.keeps.reached unswept)) off)
