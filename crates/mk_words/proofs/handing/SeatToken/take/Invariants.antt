use Rattle.mk_laws.proofs.Vocabulary.{Step}
use Rattle.mk_words.proofs.handing.SeatToken.take.Given as goal

-- the event of the `take`
abbrev pub ghosts-take_as : goal.ghosts-take_as
ghosts-take_as a = record { event = record { seat = a.seat; step = Step.Take a.op } }
