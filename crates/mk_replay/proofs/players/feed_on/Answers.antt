use Rattle.mk_replay.{proofs.{Vocabulary.{IfOk-weaker, rules}, RunLaws.{fed_ended, fed_more}}, specs.Replays.{FeedsOn}}
use Rattle.mk_check.{proofs.FeedLaws.waits_for_op, specs.Feeding.TakesAnswer as FeedTakesAnswer}
use Rattle.mk_replay.proofs.players.feed_on.Goals as goal

pub returns-then-is_none : goal.returns-then-is_none
returns-then-is_none c = λ program k answers h. fed_ended c.args.answer
    (λ taken st. (c.op.ensures.none program k taken st).0 (search rules)) h

pub returns : goal.returns
returns c =
    IfOk-weaker c.answer.result (λ _. FeedTakesAnswer c.args.feed.now c.args.answer c.answer.new.self)
    (λ _. FeedsOn c.args.answer c.args.feed.now c.answer.new.self)
    (λ _ takes program k answers h. fed_more c.answer.new.self c.args.answer takes h) c.answer.ensures.ok

pub answer-requires : goal.answer-requires
answer-requires c = waits_for_op c.args.feed.now c.op.result
    (λ program k answers st. c.op.ensures.none program k answers st) (search rules)
