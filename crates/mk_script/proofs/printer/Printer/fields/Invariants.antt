use Rattle.mk_script.proofs.Vocabulary.{drop, fields_behind, spaced_words, ◌++◌, ◌≡◌, ◌≤◌}
use Rattle.mk_script.proofs.printer.Printer.fields.Given as goal

abbrev pub invariant-loop-word : goal.invariant-loop-word
invariant-loop-word l =
    (l.fn.self ++ spaced_words (fields_behind l.words 0)
    ≡ l.self ++ spaced_words (fields_behind (drop l.word-index l.words) l.count)) × (l.count ≤ l.word-index)
