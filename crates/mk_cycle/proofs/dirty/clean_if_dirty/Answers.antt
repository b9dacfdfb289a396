use Rattle.mk_words.proofs.Below.Laws.Vocabulary.{sym, ◌∙◌}
use Rattle.mk_cycle.proofs.Clearing.{blacks_cleaner, cleaner_then, dirt_cleaner, dirt_cleared, same_dirt}
use Rattle.mk_cycle.proofs.dirty.clean_if_dirty.Goals as goal
use Rattle.mk_cycle.proofs.StopSteps.{on_then}

pub undirty_page-requires-clause-own : goal.undirty_page-requires-clause-own
undirty_page-requires-clause-own c =
    let u = c.unblack_if_dirty.ensures in
    u.unscanned.own (λ z. u.dirty c.if-unblack_if_dirty.true (sym (same_dirt c.args.page u.fewer) ∙ z))

pub undirty_page-requires-clause-head : goal.undirty_page-requires-clause-head
undirty_page-requires-clause-head c =
    let u = c.unblack_if_dirty.ensures in
    u.unscanned.head (λ z. u.dirty c.if-unblack_if_dirty.true (sym (same_dirt c.args.page u.fewer) ∙ z))

pub returns-then-unblack_if_dirty-clause-on : goal.returns-then-unblack_if_dirty-clause-on
returns-then-unblack_if_dirty-clause-on c = on_then c.unblack_if_dirty.ensures.on c.undirty_page.ensures.on

pub returns-then-unblack_if_dirty-clause-fewer : goal.returns-then-unblack_if_dirty-clause-fewer
returns-then-unblack_if_dirty-clause-fewer c =
    cleaner_then (blacks_cleaner c.unblack_if_dirty.ensures.fewer)
    (dirt_cleaner _ _ c.args.page c.undirty_page.ensures.words)

pub returns-then-unblack_if_dirty-clause-clean : goal.returns-then-unblack_if_dirty-clause-clean
returns-then-unblack_if_dirty-clause-clean c = dirt_cleared _ _ c.args.page c.undirty_page.ensures.words

pub returns-else-unblack_if_dirty-clause-fewer : goal.returns-else-unblack_if_dirty-clause-fewer
returns-else-unblack_if_dirty-clause-fewer c = blacks_cleaner c.unblack_if_dirty.ensures.fewer

pub returns-else-unblack_if_dirty-clause-clean : goal.returns-else-unblack_if_dirty-clause-clean
returns-else-unblack_if_dirty-clause-clean c =
    same_dirt _ c.unblack_if_dirty.ensures.fewer ∙ c.unblack_if_dirty.ensures.clean c.if-unblack_if_dirty.false
