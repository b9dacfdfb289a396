use Rattle.mk_cycle.proofs.stopping.close_by_tracing.Goals as goal
use Rattle.mk_cycle.proofs.{ReachedMarks.sweepless_rule, TracedMarks.{closes_by_tracing, ready_of}}

pub close_marks-requires-clause-ready : goal.close_marks-requires-clause-ready
close_marks-requires-clause-ready g c = ready_of c.args.stop.now.in_order c.requires.free

pub returns-clause-law : goal.returns-clause-law
returns-clause-law g c =
    closes_by_tracing c.close_marks.ensures.wants c.close_marks.ensures.traces c.close_marks.ensures.wanted
    c.close_marks.ensures.closes c.close_marks.ensures.closed

pub returns-clause-reached : goal.returns-clause-reached
returns-clause-reached g c =
    let traces = c.close_marks.ensures.traces.traces in
    sweepless_rule c.args.stop.now.pass c.close_marks.new.stop.pass traces.does.more traces.does.is traces.keeps
