use Rattle.mk_words.proofs.tokens.TokenWith.perform_near.Given as goal

-- the event of the step that the call is given
abbrev pub ghosts-perform_as : goal.ghosts-perform_as
ghosts-perform_as g a = record { event = record { seat = a.seat; step = a.step } }
