use Rattle.std.specs.Option.{unwrap_or}
use Rattle.mk_words.proofs.Below.Laws.Vocabulary.{ap, arith, subst, ℕ, ◌+◌, ◌∙◌}
use Rattle.mk_cycle.proofs.CleanedPages.{cleans_to_none, ready_past, ready_to_end, same_pages}
use Rattle.mk_cycle.proofs.{CleaningSteps.cleans_then, RangeEnds.{IsRangeEnd, range_ends}}
use Rattle.mk_core.specs.Below.Books.KnownPages.{IsNext, is_free}
use Rattle.mk_words.specs.States.{now_of}
use Rattle.mk_cycle.proofs.cleaning.clean_pages_in_use.Goals.{After-unwrap_or-end}
use Rattle.mk_cycle.proofs.cleaning.clean_pages_in_use.Goals as goal

-- where the range ends that begins with the next page in use
ends : (c : After-unwrap_or-end)
    → IsRangeEnd (c.in-Some.page + 1) c.args.words.now.config.pages c.unwrap_or-end.result
ends c =
    let same = same_pages c.requires.turn.one_table c.loop-page.invariant.pages in
    let next = c.in-Some.ensures.1 in
    let found = c.next_free.ensures in
    range_ends _ (c.in-Some.page + 1) c.args.words.now.config.pages c.unwrap_or-end.result c.next_free.result
    (omega arith) (subst (λ (n : ℕ). IsNext (is_free (now_of c.loop-page.turn.pass).words.pages) (c.in-Some.page + 1) n
    c.next_free.result) same found) (c.unwrap_or-end.ensures ∙ ap (unwrap_or c.next_free.result) c.pages-pages.ensures)

pub loop-page-init : goal.loop-page-init
loop-page-init c = record { pages = cleans_to_none; below = λ page lt. absurd (omega arith) }

pub clean_range-requires-clause-within : goal.clean_range-requires-clause-within
clean_range-requires-clause-within c = (ends (goal.at.clean_range-requires-clause-within c).After-unwrap_or-end).within

pub loop-page-preserved : goal.loop-page-preserved
loop-page-preserved c =
    let i = c.loop-page.invariant in
    let x = c.clean_range.ensures in
    let next = c.in-Some.ensures in
    let n = c.in-Some.page in
    let end = ends (goal.at.loop-page-preserved c).After-unwrap_or-end in
    record {
      pages = record { begun = end.within; cleans = cleans_then i.pages.cleans x.cleans };
      below = ready_to_end i.pages.cleans x.cleans
          (ready_past c.loop-page.from n c.args.words.now.config.pages c.loop-page.turn.in_order i.pages.cleans
          c.requires.bare (omega (arith, end.begun, end.within)) i.below next.3) x.ready;
    }

pub loop-page-smaller : goal.loop-page-smaller
loop-page-smaller c =
    let end = ends (goal.at.loop-page-smaller c).After-unwrap_or-end in
    let next = c.in-Some.ensures in
    omega (arith, end.begun, end.within, next.0)

pub returns-clause-ready : goal.returns-clause-ready
returns-clause-ready c =
    let i = c.loop-page.invariant in
    let same = same_pages c.requires.turn.one_table i.pages in
    ready_past c.loop-page.from _ _ c.loop-page.turn.in_order i.pages.cleans c.requires.bare
    (omega arith) i.below (λ page low high. c.in_default.ensures page low (omega arith))
