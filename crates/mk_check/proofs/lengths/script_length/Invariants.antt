use Rattle.mk_check.proofs.Vocabulary.{ℕ, counts_of, map, parts_from, reverse, ◌≡◌}
use Rattle.mk_check.proofs.lengths.script_length.Given as goal

abbrev pub invariant-loop-item : goal.invariant-loop-item
invariant-loop-item l = (line : ℕ) → l.parts ≡ counts_of (parts_from line (reverse (map (λ item. item.now) l.yielded)))
