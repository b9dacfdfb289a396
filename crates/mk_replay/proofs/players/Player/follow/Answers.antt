use Rattle.std.specs.Option.{option_or}
use Rattle.mk_laws.proofs.Vocabulary.{Bool, Some, subst, sym, true, ◌∙◌, ◌≡◌}
use Rattle.mk_replay.proofs.{Vocabulary.TakesStep, RunLaws.last_takes}
use Rattle.mk_replay.specs.declared.players.Player.{Player}
use Rattle.mk_replay.proofs.players.Player.follow.Goals as goal

pub returns : goal.returns
returns c =
    let old : Player = c.args.self.now in
    let is : option_or c.args.decided old.kept ≡ Some c.in-Some.answer = sym c.or-kept.ensures ∙ c.in-Some.is in
    subst (λ (b : Bool). TakesStep b c.args.decided old c.count.new.self) (sym c.if-not-is_last.false)
    (subst (λ (p : Player). TakesStep true c.args.decided old p) (sym c.count.ensures)
    (last_takes old c.feed_on.new.feed c.args.decided c.in-Some.answer is c.in_ok-feed_on.ensures))
