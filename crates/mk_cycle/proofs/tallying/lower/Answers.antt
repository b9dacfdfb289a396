use Rattle.mk_words.proofs.Below.Laws.Vocabulary.{◌-◌}
use Rattle.mk_cycle.proofs.TallySteps.{set_by}
use Rattle.mk_cycle.proofs.tallying.lower.Goals as goal

pub returns : goal.returns
returns c =
    set_by c.args.n c.args.word (λ m. m - c.args.by) c.look-before.result c.saturating_sub.result c.requires.word
    c.look-before.ensures.sets c.look-before.ensures.reads c.saturating_sub.ensures c.set.ensures
