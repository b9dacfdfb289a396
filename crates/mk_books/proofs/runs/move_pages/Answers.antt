use Rattle.std.proofs.Common.{◌/◌}
use Rattle.mk_books.proofs.{BitRanges.range_bits, MovedPages.{all_moved, none_moved, one_more_moved}}
use Rattle.mk_books.proofs.Vocabulary.{ap, arith, nat_lt, refl, ℕ, ◌%◌, ◌*◌, ◌+◌, ◌-◌, ◌∙◌, ◌≡◌}
use Rattle.mk_books.proofs.runs.move_pages.Goals as goal

pub returns-then-last-lt64 : goal.returns-then-last-lt64
returns-then-last-lt64 c =
    let word : ℕ = c.args.from / 64 in
    let rest : c.args.from % 64 ≡ c.args.from - 64 * word = omega arith in
    all_moved c.args.from c.args.end (word + 1) (omega (arith, c.if-last-lt64.true))
    (one_more_moved c.args.from c.args.end word
    (none_moved c.args.sets.now c.args.from c.args.end c.args.free c.requires.sets) c.move_word.ensures
    (λ place within. range_bits word c.args.from c.args.end c.ones_below-then-last-lt64.result
    c.ones_below.result _ place
    (omega arith) within (c.ones_below.ensures place within)
    (c.ones_below-then-last-lt64.ensures place within ∙ ap (nat_lt place) rest)
    (omega (arith, c.ones_below-then-last-lt64.type_inv)) refl))
