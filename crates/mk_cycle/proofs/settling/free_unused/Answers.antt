use Rattle.mk_words.proofs.Below.Laws.Vocabulary.{Page, ap, sym, ◌∙◌}
use Rattle.mk_cycle.proofs.GivingSteps.{head_allowed, head_frees, head_state, none_at_once}
use Rattle.mk_cycle.proofs.{PageSteps.page_at_once, SettledPages.empties_here, SettledPages.freed_settles}
use Rattle.mk_cycle.proofs.settling.free_unused.Goals as goal

pub head-requires-clause-one_table : goal.head-requires-clause-one_table
head-requires-clause-one_table c = c.requires.turn.one_table

pub head-requires-clause-enabled : goal.head-requires-clause-enabled
head-requires-clause-enabled c =
    head_allowed c.args.turn.now.in_order c.requires.turn c.args.page c.requires.within
    (empties_here c.args.turn.now.in_order c.requires.turn.phase c.args.page c.args.head c.requires.head
    (sym (ap (λ (x : Page). x.used) c.page.ensures) ∙ c.if-page-eq0.true) c.requires.none_at_head)

pub returns-then-page-eq0-clause-frees : goal.returns-then-page-eq0-clause-frees
returns-then-page-eq0-clause-frees c = head_frees c.requires.turn c.requires.within c.head.ensures

pub returns-then-page-eq0-clause-settled : goal.returns-then-page-eq0-clause-settled
returns-then-page-eq0-clause-settled c =
    freed_settles _ (head_frees c.requires.turn c.requires.within c.head.ensures)
    (head_state c.requires.turn c.requires.within c.head.ensures) c.requires.none_left

pub returns-else-page-eq0-clause-frees : goal.returns-else-page-eq0-clause-frees
returns-else-page-eq0-clause-frees c = page_at_once c.args.page (none_at_once c.args.turn.now.pass)
