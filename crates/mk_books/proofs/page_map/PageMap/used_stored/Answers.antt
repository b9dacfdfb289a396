use Rattle.mk_books.proofs.Vocabulary.{List, Page, PageUse, SortsPage, ℕ, ap, arith, length, length-set, page_at, set}
use Rattle.mk_books.proofs.Vocabulary.{subst, sym, ◌<◌, ◌∙◌, ◌≡◌}
use Rattle.mk_books.proofs.{Showing.{sets_written, written_in}, Uncleaned.all_kept}
use Rattle.mk_books.proofs.Storing.{Stores, page_read, page_within, same_count, store_fits, store_shows}
use Rattle.mk_books.proofs.page_map.PageMap.used_stored.Goals as goal
use Rattle.mk_books.proofs.page_map.PageMap.used_stored.Goals.{After-sort_by_used}

abbrev now : After-sort_by_used → Page
now c = record { header = c.index.result.now.header; used = c.args.used }

within : (c : After-sort_by_used) → c.args.page < length c.self.inside.pages.items
within c = page_within c.args.self.now c.self.inside.pages.items c.self.inside.sets.items c.args.page c.self.view_is
    c.requires

read : (c : After-sort_by_used) → c.index.result.now ≡ page_at c.self.inside.pages.items c.args.page
read c = page_read c.self.inside.pages.items c.args.page c.index.result.now (within c) c.index.ensures

stores : (c : After-sort_by_used)
    → Stores c.self.inside.pages.items c.self.inside.sets.items c.deref_mut.result.now c.sort_by_used.new.sets
    c.self.inside.resident c.args.page (now c)
stores c = record {
  fit = c.self.invariant;
  within = within c;
  is_slice = c.deref_mut.ensures.value;
  sorts = subst (λ (u : PageUse). SortsPage c.deref_mut.result.now c.sort_by_used.new.sets c.args.page u)
      (sym (c.kind_of.ensures.kind c.args.used)) c.sort_by_used.ensures.sorts;
}

same_sets : (c : After-sort_by_used)
    → written_in c.sort_by_used.new.sets c.self.inside.sets.items c.self.inside.sets.len ≡ c.sort_by_used.new.sets
same_sets c = sets_written c.sort_by_used.new.sets c.self.inside.sets.ok.0
    (c.self.invariant.are_sets (omega (arith, within c)))
    c.sort_by_used.ensures.sorts.are_sets

pub invariant_of-self : goal.invariant_of-self
invariant_of-self c =
    let x = (goal.at.invariant_of-self c).After-sort_by_used in
    store_fits _ c.self.inside.resident (stores x) (same_sets x) (same_count c.self.inside.pages.items
    c.self.inside.resident c.args.page c.index.result.now c.args.used c.kind_of.result (read x) c.kind_of.ensures.kind)

pub returns-clause-shows : goal.returns-clause-shows
returns-clause-shows c pages freed shows =
    let x = (goal.at.returns-clause-shows c).After-sort_by_used in
    store_shows _ _ (stores x) (same_sets x) c.self.view_is
    (λ same. ap (λ (n : ℕ). record { header = n; used = c.args.used })
    (ap (λ (p : Page). p.header) (read x) ∙ ap (λ (ps : List Page). (page_at ps c.args.page).header) same)) shows

pub returns-clause-uncleaned : goal.returns-clause-uncleaned
returns-clause-uncleaned c number =
    let x = (goal.at.returns-clause-uncleaned c).After-sort_by_used in
    all_kept c.args.self.now c.self.inside.pages.items (set c.self.inside.pages.items c.args.page (now x))
    c.self.inside.sets.items _ number c.self.view_is c.deref_mut.ensures.value (same_sets x)
    (length-set c.self.inside.pages.items c.args.page (now x)) c.self.invariant.few
    c.sort_by_used.ensures.sorts.other_pages c.sort_by_used.ensures.uncleaned
