use Rattle.mk_cycle.proofs.waiting.want_and_wait.Goals as goal
use Rattle.mk_cycle.proofs.Wants.{wants_by, waits_then}

pub loop-preserved : goal.loop-preserved
loop-preserved g c = record {
  goes_on = (tt, tt);
  waits = waits_then c.loop.invariant.waits c.look_at_phase.ensures.waits;
  wants = wants_by c.loop.invariant.wants c.look_at_phase.ensures.waits.traces.traces.does;
}

pub returns-then-look_at_phase-lt8-clause-wants : goal.returns-then-look_at_phase-lt8-clause-wants
returns-then-look_at_phase-lt8-clause-wants g c =
    wants_by c.loop.invariant.wants c.look_at_phase.ensures.waits.traces.traces.does

pub returns-then-look_at_phase-lt8-clause-traces : goal.returns-then-look_at_phase-lt8-clause-traces
returns-then-look_at_phase-lt8-clause-traces g c =
    (waits_then c.loop.invariant.waits c.look_at_phase.ensures.waits).traces
