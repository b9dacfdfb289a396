use Rattle.std.proofs.Common.{min}
use Rattle.mk_script.proofs.Vocabulary.{are_fields, drop, fields_of, length, take, texts_of, ◌-◌, ◌^◌, ◌≡◌}
use Rattle.mk_script.proofs.fields.word_count.Given as goal

-- the fields so far have a form, and `count` counts their words
abbrev pub invariant-loop-word : goal.invariant-loop-word
invariant-loop-word l =
    (are_fields (texts_of l.fields) ≡ are_fields (texts_of (drop l.word-index l.fields)))
    × (l.count ≡ min (length (fields_of (texts_of (take l.word-index l.fields)))) (2 ^ 64 - 1))
