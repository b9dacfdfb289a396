use Rattle.mk_check.proofs.Vocabulary.{FeedState, IsWaiting, TakesAnswer, TakesLine, subst, sym, work_left, ◌<◌}
use Rattle.mk_check.proofs.AtOnce.{IsAnsweredAtOnce, feeds, feeds_at_once, nearer_at_once, stops_at_once, takes_at_once}
use Rattle.mk_check.proofs.{TreeNodes.is_at, feeding.Feed.answer_silently.Goals.After-answer_silently}
use Rattle.mk_check.proofs.feeding.Feed.answer_silently.Goals as goal

-- It took the line, and stops behind it.
answered : (c : After-answer_silently)
    → TakesLine c.self.inside.tree c.args.answer c.self.inside.running c.answer_silently.new.self → IsAnsweredAtOnce
    (record { nodes = c.self.inside.tree; place = c.self.inside.running }) c.answer_silently.new.self c.args.answer
answered c l =
    let at = is_at c.sequels-sequels.ensures.tree c.self.invariant.stop.within l.here in
    record {
      line = l.line;
      instruction = l.instruction;
      next = l.next;
      at = at;
      feed = c.self.invariant;
      waiting = subst (λ (s : FeedState). IsWaiting s) (sym c.self.view_is) c.requires;
      behind = stops_at_once c.args.answer c.answer_silently.new.self at l.taken.silent l.taken.stopped;
    }

pub invariant_of-self : goal.invariant_of-self
invariant_of-self c =
    feeds c.answer_silently.new.self
    c.answer_silently.result (λ t. feeds_at_once (answered ((goal.at.invariant_of-self c).After-answer_silently)
    (c.answer_silently.ensures.taken t))) c.answer_silently.ensures.refused c.self.invariant

pub returns-clause-taken : goal.returns-clause-taken
returns-clause-taken c =
    let after : FeedState = record { nodes = c.self.inside.tree; place = c.answer_silently.new.self } in
    λ t. subst (λ (x : FeedState). TakesAnswer x c.args.answer after) c.self.view_is (takes_at_once
    (answered ((goal.at.returns-clause-taken c).After-answer_silently) (c.answer_silently.ensures.taken t)))

pub returns-clause-nearer : goal.returns-clause-nearer
returns-clause-nearer c =
    let after : FeedState = record { nodes = c.self.inside.tree; place = c.answer_silently.new.self } in
    λ t. subst (λ (x : FeedState). work_left after < work_left x) c.self.view_is (nearer_at_once
    (answered ((goal.at.returns-clause-nearer c).After-answer_silently) (c.answer_silently.ensures.taken t)))
