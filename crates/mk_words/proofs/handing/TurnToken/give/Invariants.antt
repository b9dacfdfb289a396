use Rattle.mk_laws.proofs.Vocabulary.{Step}
use Rattle.mk_words.proofs.handing.TurnToken.give.Given as goal

-- the event of the `give`
abbrev pub ghosts-give_as : goal.ghosts-give_as
ghosts-give_as a = record { event = record { seat = a.seat; step = Step.Give } }
