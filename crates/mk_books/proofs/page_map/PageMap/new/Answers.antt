use Rattle.mk_books.proofs.Vocabulary.{FitPages, List, Page, Shows, free_page, replicate, subst, sym, ◌≡◌}
use Rattle.mk_books.proofs.page_map.PageMap.new.Goals as goal
use Rattle.mk_books.proofs.{FreeSets.{free_fits, free_shows}, Showing.known_by}

pub invariant_of-result : goal.invariant_of-result
invariant_of-result c =
    let free : c.in_ok-pages.pages.items ≡ replicate c.args.pages free_page
    = c.in_ok-pages.ensures.items_if_clones_equal (λ y same. same) in
    subst (λ (ps : List Page). FitPages ps c.in_ok-sets.sets.items 0) (sym free)
    (free_fits c.requires c.in_ok-sets.ensures.sets c.in_ok-sets.ensures.members)

pub returns : goal.returns
returns c =
    let free : c.in_ok-pages.pages.items ≡ replicate c.args.pages free_page
    = c.in_ok-pages.ensures.items_if_clones_equal (λ y same. same) in
    subst (λ (ps : List Page). Shows (known_by ps c.in_ok-sets.sets.items) (replicate c.args.pages free_page)
    (replicate c.args.pages 0)) (sym free) (free_shows c.in_ok-sets.sets.items c.requires c.in_ok-sets.ensures.members)
