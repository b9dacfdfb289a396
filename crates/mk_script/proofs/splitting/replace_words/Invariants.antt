use Rattle.mk_script.proofs.Vocabulary.{filter, is_empty, not, texts_of, ◌≡◌}
use Rattle.mk_script.proofs.splitting.replace_words.Given as goal

-- the words so far, of the pieces so far
abbrev pub invariant-loop-word : goal.invariant-loop-word
invariant-loop-word l = texts_of l.words.items ≡ filter (λ word. not (is_empty word)) (texts_of l.yielded)
