use Rattle.mk_trace.{proofs.{Vocabulary.{StayExact, ends}, LaterOps.AreCalled}, specs.Calls.{IsBetweenCalls}}
use Rattle.mk_heap.proofs.Below.Laws.Vocabulary.{◌+◌, ◌≤◌}
use Rattle.mk_trace.proofs.calls.refuses.Given as goal

-- the first operation was called, and this many of those after it
abbrev pub invariant-loop-op : goal.invariant-loop-op
invariant-loop-op g l = record {
  between : IsBetweenCalls g.E.Engine.made_for l.heap l.player;
  ends : ends l.player.host.pass.seen ≤ ends l.fn.player.host.pass.seen + 1 + l.op-index;
  exact : StayExact l.heap.config l.fn.player.host.pass.seen l.player.host.pass.seen;
  calls : AreCalled l.heap.config l.fn.player.host.pass.seen l.fn.event l.op-items l.op-index l.refused
      l.player.host.pass.seen;
}
