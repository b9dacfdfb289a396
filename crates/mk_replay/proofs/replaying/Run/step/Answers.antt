use Rattle.mk_replay.proofs.RunLaws.{run_goes}
use Rattle.mk_replay.proofs.replaying.Run.step.Goals as goal

pub returns-in_ok-follow-in-Ok-clause-ok : goal.returns-in_ok-follow-in-Ok-clause-ok
returns-in_ok-follow-in-Ok-clause-ok c = λ program es h. run_goes c.args.entry c.follow.new.self c.event-event.result
    c.in-Ok.decided h (c.event-event.ensures.exact program es h) c.event-event.ensures.seat
    c.in-Ok.ensures.config (c.in-Ok.ensures.stands es h.stands) (c.in-Ok.ensures.answer es h.stands)
    c.in_ok-follow-in-Ok.ensures.core c.in_ok-follow-in-Ok.ensures.count c.in_ok-follow-in-Ok.ensures.players
