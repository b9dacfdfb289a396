use Rattle.mk_books.proofs.Vocabulary.{ap, is_member, is_resident_page, ◌∙◌}
use Rattle.mk_books.proofs.{BlockSets.sorts_then}
use Rattle.mk_books.proofs.sorting.sort_by_header.Goals as goal
use Rattle.std.specs.Prelude.{◌==◌, ◌||◌}

pub returns-clause-resident : goal.returns-clause-resident
returns-clause-resident c word =
    ap is_resident_page (c.kind_of-after.ensures.kind word) ∙ c.is_resident-is_resident.ensures word

pub returns-clause-sorts : goal.returns-clause-sorts
returns-clause-sorts c =
    sorts_then c.leave_sets.ensures.sorts c.join_sets.ensures.sorts (c.kind_of-after.ensures.kind c.args.used)

pub returns-clause-uncleaned : goal.returns-clause-uncleaned
returns-clause-uncleaned c =
    c.join_sets.ensures.uncleaned
    ∙ ap (λ b. b || is_member c.leave_sets.new.sets 19 c.args.page) (c.kind_of-after.ensures.free c.args.used)
    ∙ ap (λ b. c.args.header == 0 || b) (c.leave_sets.ensures.uncleaned c.args.used)
