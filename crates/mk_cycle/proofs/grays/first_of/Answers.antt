use Rattle.std.proofs.Common.{IfNone, IfSome}
use Rattle.mk_words.proofs.Below.Laws.Vocabulary.{ℕ, false, has_bit, subst, ◌<◌, ◌≡◌}
use Rattle.mk_cycle.proofs.grays.first_of.Goals as goal
use Rattle.mk_cycle.proofs.FirstBits.{first_is_known, first_is_one, none_is_first}

pub returns-clause-known : goal.returns-clause-known
returns-clause-known c = subst (λ n. IfSome c.then_some.result (λ k. k < n)) c.cells_under.ensures.exact
    (first_is_known c.from-index.result c.cells_under.result c.then_some.result c.then_some.ensures)

pub returns-clause-one : goal.returns-clause-one
returns-clause-one c =
    first_is_one c.args.cells c.from-index.result c.cells_under.result c.then_some.result c.requires.some
    c.ranges.cells.fits c.from-index.ensures c.then_some.ensures

pub returns-clause-none : goal.returns-clause-none
returns-clause-none c =
    subst (λ n. IfNone c.then_some.result ((k : ℕ) → k < n → has_bit c.args.cells k ≡ false))
    c.cells_under.ensures.exact
    (none_is_first c.args.cells c.from-index.result c.cells_under.result c.then_some.result c.requires.some
    c.ranges.cells.fits
    c.from-index.ensures c.then_some.ensures)
