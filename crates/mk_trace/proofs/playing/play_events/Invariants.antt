use Rattle.mk_trace.{proofs.Vocabulary.{StayExact, ends}, specs.{Calls.HasPlayed, Calls.IsBetweenCalls}}
use Rattle.mk_heap.proofs.Below.Laws.Vocabulary.{take, ◌*◌, ◌≤◌}
use Rattle.mk_trace.proofs.playing.play_events.Given as goal

-- this many events were played
abbrev pub invariant-loop-event : goal.invariant-loop-event
invariant-loop-event g l = record {
  between : IsBetweenCalls g.E.Engine.made_for l.heap l.player;
  exact : StayExact l.heap.config l.fn.player.host.pass.seen l.player.host.pass.seen;
  played : HasPlayed l.trace (take l.event-index l.events) l.refused l.player.host.pass.seen;
  ends : ends l.player.host.pass.seen ≤ 6 * l.event-index;
  few : l.refused ≤ l.event-index;
}
