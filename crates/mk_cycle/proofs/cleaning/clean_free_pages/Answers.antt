use Rattle.mk_words.proofs.Below.Laws.Vocabulary.{arith}
use Rattle.mk_cycle.proofs.CleanedPages.{cleans_past, cleans_to_none, free_bare_more, free_bare_past, same_pages}
use Rattle.mk_cycle.proofs.cleaning.clean_free_pages.Goals as goal

pub loop-page-init : goal.loop-page-init
loop-page-init c = record { pages = cleans_to_none; below = λ page lt. absurd (omega arith) }

pub loop-page-preserved : goal.loop-page-preserved
loop-page-preserved c =
    let i = c.loop-page.invariant in
    let x = c.clean_free.ensures in
    let next = c.in-Some.ensures in
    let q = c.loop-page.turn.pass in
    let n = c.in-Some.page in
    record {
      pages = cleans_past c.requires.turn.one_table i.pages next.1 x.cleans;
      below = free_bare_more x.cleans (free_bare_past q c.loop-page.from n i.below next.2) x.bare;
    }

pub returns-clause-bare : goal.returns-clause-bare
returns-clause-bare c =
    let same = same_pages c.requires.turn.one_table c.loop-page.invariant.pages in grind (arith, free_bare_past)
