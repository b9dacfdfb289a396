use Rattle.mk_words.proofs.words.Words.split.Given as goal

-- the seat that the call is given
abbrev pub ghosts-split_as : goal.ghosts-split_as
ghosts-split_as a = record { seat = a.seat }
