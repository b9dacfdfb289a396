use Rattle.std.proofs.Math.Nat.{mul_left_comm}
use Rattle.mk_words.proofs.Below.Laws.Vocabulary.{ℕ, arith, subst, sym, ◌*◌, ◌+◌, ◌≡◌}
use Rattle.mk_cycle.proofs.{Vocabulary.{IsUnmappedWord, IsZero}}
use Rattle.mk_cycle.proofs.wiping.wipe_cell.Goals as goal

-- a word of a cell, by the pairs before it
same_word : (page index pairs i : ℕ) → 64 * page + index * (2 * pairs) + i ≡ 2 * (32 * page + index * pairs) + i
same_word page index pairs i = omega (arith, mul_left_comm index 2 pairs)

pub wipe_over_pages-requires-clause-unmapped : goal.wipe_over_pages-requires-clause-unmapped
wipe_over_pages-requires-clause-unmapped c i lt =
    subst (λ (n : ℕ). IsUnmappedWord c.args.turn.now.pass n) (same_word c.args.page c.args.index c.args.pairs i)
    (c.requires.unmapped i lt)

pub returns-else-first-size-le-PAGE_WORDS-clause-zeros : goal.returns-else-first-size-le-PAGE_WORDS-clause-zeros
returns-else-first-size-le-PAGE_WORDS-clause-zeros c i lt =
    subst (λ (n : ℕ). IsZero c.wipe_over_pages.new.turn.pass n)
    (sym (same_word c.args.page c.args.index c.args.pairs i)) (c.wipe_over_pages.ensures.zeros i lt)
