use Rattle.mk_words.proofs.Below.Laws.Vocabulary.{ℕ, subst, sym, ◌*◌, ◌+◌, ◌<◌, ◌∙◌}
use Rattle.mk_cycle.proofs.{Vocabulary.{IsUnmappedWord, IsZero}, GivingSteps.none_at_once}
use Rattle.mk_cycle.proofs.wiping.wipe_released.Goals as goal

pub wipe_cells-requires-clause-unmapped : goal.wipe_cells-requires-clause-unmapped
wipe_cells-requires-clause-unmapped c k i has lt =
    let size = c.pairs.ensures.exact in
    subst (λ (n : ℕ). IsUnmappedWord c.args.turn.now.pass (64 * c.args.page + k * n + i)) (sym size)
    (c.requires.cells.unmapped k i has (subst (λ (n : ℕ). i < n) size lt))

pub returns-then-is_unmapped-clause-frees : goal.returns-then-is_unmapped-clause-frees
returns-then-is_unmapped-clause-frees c = none_at_once c.args.turn.now.pass

pub returns-then-is_unmapped-clause-zeros : goal.returns-then-is_unmapped-clause-zeros
returns-then-is_unmapped-clause-zeros c k few i has lt =
    c.requires.cells.wiped (sym c.is_unmapped.ensures ∙ c.if-is_unmapped.true) k i has lt

pub returns-clause-zeros : goal.returns-clause-zeros
returns-clause-zeros c k few i has lt =
    let size = c.pairs.ensures.exact in
    subst (λ (n : ℕ). IsZero c.wipe_cells.new.turn.pass (64 * c.args.page + k * n + i)) size
    (c.wipe_cells.ensures.zeros k few i has (subst (λ (n : ℕ). i < n) (sym size) lt))
