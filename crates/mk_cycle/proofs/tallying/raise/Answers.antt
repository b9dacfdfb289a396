use Rattle.mk_words.proofs.Below.Laws.Vocabulary.{in_a_word, ◌+◌}
use Rattle.mk_cycle.proofs.TallySteps.{set_by}
use Rattle.mk_cycle.proofs.tallying.raise.Goals as goal

pub returns : goal.returns
returns c =
    set_by c.args.n c.args.word (λ m. in_a_word (m + c.args.by)) c.look-before.result c.saturating_add.result
    c.requires.word c.look-before.ensures.sets c.look-before.ensures.reads c.saturating_add.ensures c.set.ensures
