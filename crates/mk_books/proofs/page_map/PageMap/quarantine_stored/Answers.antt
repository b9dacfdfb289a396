use Rattle.mk_books.proofs.Vocabulary.{KnownPages, List, Shows, ℕ, arith, length, nat_eq, not, refl, set, subst, sym}
use Rattle.mk_books.proofs.Vocabulary.{◌<◌, ◌≡◌}
use Rattle.mk_books.proofs.Showing.{known_by, quarantine_shows, sets_written, written_in}
use Rattle.mk_books.proofs.{Storing.page_within, Uncleaned.{PutsInto, all_kept, puts_it, still_fits}}
use Rattle.mk_books.proofs.page_map.PageMap.quarantine_stored.Goals.{After-sort_by_quarantine}
use Rattle.mk_books.proofs.page_map.PageMap.quarantine_stored.Goals as goal

within : (c : After-sort_by_quarantine) → c.args.page < length c.self.inside.pages.items
within c = page_within c.args.self.now c.self.inside.pages.items c.self.inside.sets.items c.args.page c.self.view_is
    c.requires

same_sets : (c : After-sort_by_quarantine)
    → written_in c.sort_by_quarantine.new.sets c.self.inside.sets.items c.self.inside.sets.len
    ≡ c.sort_by_quarantine.new.sets
same_sets c = sets_written c.sort_by_quarantine.new.sets c.self.inside.sets.ok.0
    (c.self.invariant.are_sets (omega (arith, within c)))
    c.sort_by_quarantine.ensures.are_sets

puts : (c : After-sort_by_quarantine) → PutsInto c.self.inside.pages.items c.self.inside.sets.items
    c.deref_mut.result.now c.sort_by_quarantine.new.sets c.self.inside.resident 18 c.args.page
    (not (nat_eq c.args.freed 0))
puts c = record {
  fit = c.self.invariant;
  within = within c;
  is_slice = c.deref_mut.ensures.value;
  puts = c.sort_by_quarantine.ensures;
}

pub invariant_of-self : goal.invariant_of-self
invariant_of-self c =
    let x = (goal.at.invariant_of-self c).After-sort_by_quarantine in
    still_fits _ (omega arith) (puts x) (same_sets x)

pub returns-clause-shows : goal.returns-clause-shows
returns-clause-shows c pages freed_words shows =
    let x = (goal.at.returns-clause-shows c).After-sort_by_quarantine in
    let before = subst (λ (k : KnownPages). Shows k pages freed_words) (sym c.self.view_is) shows in
    subst (λ (xs : List ℕ). Shows (known_by c.self.inside.pages.items xs) pages
    (set freed_words c.args.page c.args.freed)) (sym (same_sets x))
    (quarantine_shows c.self.inside.pages.items c.self.inside.sets.items c.sort_by_quarantine.new.sets c.args.freed
    c.self.invariant.few (within x) (puts_it (puts x)) before)

pub returns-clause-uncleaned : goal.returns-clause-uncleaned
returns-clause-uncleaned c number =
    let x = (goal.at.returns-clause-uncleaned c).After-sort_by_quarantine in
    all_kept c.args.self.now c.self.inside.pages.items c.self.inside.pages.items c.self.inside.sets.items _ number
    c.self.view_is c.deref_mut.ensures.value (same_sets x) refl c.self.invariant.few
    c.sort_by_quarantine.ensures.other_pages (c.sort_by_quarantine.ensures.other_sets 19 (omega arith) (omega arith))
