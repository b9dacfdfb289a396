use Rattle.mk_script.{proofs.Vocabulary.{drop, map, ◌≡◌}, specs.Keywords.{keyword_among}}
use Rattle.mk_script.proofs.keywords.keyword_among.Given as goal

-- the entries that are left decide
abbrev pub invariant-loop-name : goal.invariant-loop-name
invariant-loop-name l =
    keyword_among (map (λ entry. (entry.0.now, entry.1)) (drop l.name-index l.table)) l.word
    ≡ keyword_among (map (λ entry. (entry.0.now, entry.1)) l.table) l.word
