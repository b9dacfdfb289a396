use Rattle.mk_script.proofs.Vocabulary.{fields_of, take, texts_of, ◌≡◌}
use Rattle.mk_script.proofs.fields.type_words.Given as goal

-- the words of the fields so far
abbrev pub invariant-loop-word : goal.invariant-loop-word
invariant-loop-word l = l.words.items ≡ fields_of (texts_of (take l.word-index l.fields))
