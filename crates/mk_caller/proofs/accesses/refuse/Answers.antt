use Rattle.mk_words.proofs.Below.Laws.Vocabulary.{sym, ◌∙◌}
use Rattle.mk_caller.proofs.Accessing.{refuses}
use Rattle.mk_caller.proofs.accesses.refuse.Goals as goal

pub returns-in-Some : goal.returns-in-Some
returns-in-Some c = refuses c.in-Some.d c.requires.stage c.requires.access (sym c.in-Some.is ∙ c.requires.register)
    c.store.ensures.moves c.leave.ensures.moves
