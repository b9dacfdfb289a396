use Rattle.mk_replay.{proofs.{Vocabulary.{IfOk-weaker, TakesStep, rules}, RunLaws.one_takes}, specs.Replays.{TakeEvent}}
use Rattle.mk_laws.proofs.Vocabulary.{Bool, length, slice_set, subst, ◌<◌}
use Rattle.mk_replay.proofs.replaying.Run.follow.Goals as goal

pub returns-clause-players : goal.returns-clause-players
returns-clause-players c =
    let players = c.args.self.now.players.items in
    let old = c.in-Some.player.now in
    let new = c.follow.new.self in
    let within : c.in-Caller.caller < length players = search rules in
    IfOk-weaker c.follow.result (λ _. TakesStep c.ends_call.result c.args.decided old new) (λ _. TakeEvent c.args.event
    c.args.decided players (slice_set players c.in-Caller.caller new)) (λ _ takes. one_takes players c.in-Caller.caller
    old new c.args.event c.args.decided within c.in-Some.ensures.value c.in-Caller.is
    (subst (λ (b : Bool). TakesStep b c.args.decided old new) c.ends_call.ensures takes)) c.follow.ensures
