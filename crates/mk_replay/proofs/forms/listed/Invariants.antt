use Rattle.mk_replay.proofs.Vocabulary.{value_among}
use Rattle.mk_laws.proofs.Vocabulary.{drop, map, ◌≡◌}
use Rattle.mk_replay.proofs.forms.listed.Given as goal

-- the entries that are left decide
abbrev pub invariant-loop-name : goal.invariant-loop-name
invariant-loop-name g l =
    value_among (map (λ entry. (entry.0.now, entry.1)) (drop l.name-index l.table)) l.word
    ≡ value_among (map (λ entry. (entry.0.now, entry.1)) l.table) l.word
