use Rattle.std.proofs.lemmas.List.{get_or_default}
use Rattle.mk_trace.proofs.{Vocabulary.{A, IsEventOf, IsPlayable}, FewEvents.few_events}
use Rattle.mk_trace.proofs.Played.{event_at, may_be_played, next_played, null_between, one_counted, played_all}
use Rattle.mk_trace.proofs.{Played.{played_first, slot_is_global, still_few}, FreedSlots.frees_its_slot}
use Rattle.mk_trace.proofs.{Playable.is_playable, playing.play_events.Goals.In-loop-event}
use Rattle.mk_heap.proofs.Below.Laws.Vocabulary.{arith, get_or, refl}
use Rattle.mk_trace.proofs.playing.play_events.Goals as goal

-- Before an event: the trace is playable, the event is one of its, and a history came before.

playable : (g : _) (c : In-loop-event g) → IsPlayable c.args.trace.now
playable g c = is_playable c.args.trace.now c.events-events.ensures.of_some_text

here : (g : _) (c : In-loop-event g)
    → IsEventOf c.args.trace.now.slots (get_or c.events-events.result.now c.loop-event.event-index (A 0))
here g c =
    let events = c.events-events.result.now in
    let i = c.loop-event.event-index in
    event_at events i (get_or events i (A 0)) (playable g c) c.events-events.ensures.events
    c.loop-event-test.true (get_or_default events i (A 0) (get_or events i (A 0)) c.loop-event-test.true)

pub loop-event-init : goal.loop-event-init
loop-event-init g c = record {
  between = c.requires.between;
  exact = λ before. before;
  played =
      played_first c.args.trace.now c.args.heap.now.config c.events-events.result.now c.args.player.now.host.pass.seen
      c.requires.config c.requires.no_call;
  ends = (let none = c.requires.none_ended in omega (arith, none));
  few = omega arith;
}

pub refuses-requires-clause-slot : goal.refuses-requires-clause-slot
refuses-requires-clause-slot g c κs within =
    let x = (goal.at.refuses-requires-clause-slot g c).In-loop-event in
    slot_is_global _ (playable g x) (here g x)

pub refuses-requires-clause-frees : goal.refuses-requires-clause-frees
refuses-requires-clause-frees g c κs within =
    let x = (goal.at.refuses-requires-clause-frees g c).In-loop-event in
    frees_its_slot c.loop-event.invariant.between.home.one c.loop-event.invariant.between.home.history _

pub refuses-requires-clause-admitted : goal.refuses-requires-clause-admitted
refuses-requires-clause-admitted g c κs within =
    let x = (goal.at.refuses-requires-clause-admitted g c).In-loop-event in
    may_be_played c.loop-event.player.host.pass.seen _ c.requires.config (playable g x)
    c.loop-event.invariant.between.home.history
    (null_between c.args.heap.now.config c.requires.config c.loop-event.invariant.played) (here g x) refl

pub refuses-requires-clause-few : goal.refuses-requires-clause-few
refuses-requires-clause-few g c κs within = grind (arith, few_events)

pub loop-event-preserved : goal.loop-event-preserved
loop-event-preserved g c =
    let x = (goal.at.loop-event-preserved g c).In-loop-event in
    let events = c.events-events.result.now in
    let i = c.loop-event.event-index in
    let event = get_or events i (A 0) in
    let is_refused = c.in_ok-is_refused.is_refused in
    record {
      between = c.in_ok-is_refused.ensures.between;
      exact = λ before'. c.in_ok-is_refused.ensures.exact (c.loop-event.invariant.exact before');
      played =
          next_played events i c.with_refusal-refused.result c.requires.config (playable g x)
          c.loop-event.invariant.between.home.history c.loop-event-test.true
          (get_or_default events i (A 0) event c.loop-event-test.true)
          (here g x) c.loop-event.invariant.played c.in_ok-is_refused.ensures.plays
          (one_counted is_refused c.loop-event.refused c.with_refusal-refused.result c.with_refusal-refused.ensures);
      ends = (let one = c.in_ok-is_refused.ensures.ends in omega (arith, c.loop-event.invariant.ends, one));
      few =
          still_few is_refused c.loop-event.refused c.with_refusal-refused.result i c.with_refusal-refused.ensures
          c.loop-event.invariant.few;
    }

pub returns-clause-played : goal.returns-clause-played
returns-clause-played g c =
    played_all c.events-events.result.now c.loop-event.event-index c.loop-event-test.false
    c.events-events.ensures.events c.loop-event.invariant.played
