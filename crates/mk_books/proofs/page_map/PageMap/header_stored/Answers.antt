use Rattle.mk_books.proofs.Vocabulary.{Page, ℕ, ap, arith, is_resident_page, length, length-set, page_at, set}
use Rattle.mk_books.proofs.Vocabulary.{◌+◌, ◌<◌, ◌∙◌, ◌≡◌, ◌≤◌, List}
use Rattle.mk_books.proofs.{Uncleaned.{header_uncleaned, others_kept, this_uncleaned}, FitStays.resident_one}
use Rattle.mk_books.proofs.{Showing.{sets_written, written_in}}
use Rattle.mk_books.proofs.Storing.{Stores, counted_anew, page_read, page_within, resident_byte, store_fits}
use Rattle.mk_books.proofs.Storing.{store_shows}
use Rattle.mk_books.proofs.page_map.PageMap.header_stored.Goals as goal
use Rattle.mk_books.proofs.page_map.PageMap.header_stored.Goals.{After-from}

abbrev now : After-from → Page
now c = record { header = c.args.header; used = c.index.result.now.used }

within : (c : After-from) → c.args.page < length c.self.inside.pages.items
within c = page_within c.args.self.now c.self.inside.pages.items c.self.inside.sets.items c.args.page c.self.view_is
    c.requires

stores : (c : After-from) → Stores c.self.inside.pages.items c.self.inside.sets.items c.deref_mut.result.now
    c.sort_by_header-is_resident.new.sets c.self.inside.resident c.args.page (now c)
stores c = record {
  fit = c.self.invariant;
  within = within c;
  is_slice = c.deref_mut.ensures.value;
  sorts = c.sort_by_header-is_resident.ensures.sorts;
}

was_counted : (c : After-from)
    → c.from-was_resident.result ≡ resident_one (page_at c.self.inside.pages.items c.args.page)
was_counted c =
    resident_byte c.index.result.now _ _ (λ used. ap is_resident_page (c.kind_of-before.ensures.kind used)
    ∙ c.is_resident.ensures used) c.from-was_resident.ensures
    ∙ ap resident_one (page_read c.self.inside.pages.items c.args.page c.index.result.now (within c) c.index.ensures)

is_counted : (c : After-from) → c.from.result ≡ resident_one (now c)
is_counted c = resident_byte (now c) _ _ c.sort_by_header-is_resident.ensures.resident c.from.ensures

enough : (c : After-from) → c.from-was_resident.result ≤ c.self.inside.resident + c.from.result
enough c = counted_anew c.self.inside.pages.items c.args.page c.self.inside.resident c.from-was_resident.result
    c.from.result (now c) (within c) (was_counted c) (is_counted c) c.self.invariant.counted

pub overflow_sub-self : goal.overflow_sub-self
overflow_sub-self c = enough c

same_sets : (c : After-from)
    → written_in c.sort_by_header-is_resident.new.sets c.self.inside.sets.items c.self.inside.sets.len
    ≡ c.sort_by_header-is_resident.new.sets
same_sets c = sets_written c.sort_by_header-is_resident.new.sets c.self.inside.sets.ok.0
    (c.self.invariant.are_sets (omega (arith, within c)))
    c.sort_by_header-is_resident.ensures.sorts.are_sets

pub invariant_of-self : goal.invariant_of-self
invariant_of-self c =
    let x = (goal.at.invariant_of-self c).After-from in
    store_fits _ _ (stores x) (same_sets x) (omega (arith, was_counted x, is_counted x, enough x))

pub returns-clause-shows : goal.returns-clause-shows
returns-clause-shows c pages freed shows =
    let x = (goal.at.returns-clause-shows c).After-from in
    let read = page_read c.self.inside.pages.items c.args.page c.index.result.now (within x) c.index.ensures in
    store_shows _ _ (stores x) (same_sets x) c.self.view_is
    (λ same. ap (λ (n : ℕ). record { header = c.args.header; used = n })
    (ap (λ (p : Page). p.used) read ∙ ap (λ (ps : List Page). (page_at ps c.args.page).used) same)) shows

pub returns-clause-this : goal.returns-clause-this
returns-clause-this c =
    let x = (goal.at.returns-clause-this c).After-from in
    let held = c.self.inside.pages.items in
    let read = page_read held c.args.page c.index.result.now (within x) c.index.ensures in
    this_uncleaned (set held c.args.page (now x)) c.sort_by_header-is_resident.new.sets _
    c.args.page _ (omega (arith, within x, length-set held c.args.page (now x))) (same_sets x)
    (header_uncleaned c.args.self.now held c.self.inside.sets.items _ c.args.page c.args.header c.self.view_is
    (within x) read c.deref_mut.ensures.value (c.kind_of-before.ensures.free c.index.result.now.used)
    c.sort_by_header-is_resident.ensures.uncleaned)

pub returns-clause-others : goal.returns-clause-others
returns-clause-others c number differ =
    let x = (goal.at.returns-clause-others c).After-from in
    others_kept c.args.self.now c.self.inside.pages.items (set c.self.inside.pages.items c.args.page (now x))
    c.self.inside.sets.items _ number c.self.view_is c.deref_mut.ensures.value (same_sets x) (length-set
    c.self.inside.pages.items c.args.page (now x)) c.self.invariant.few
    c.sort_by_header-is_resident.ensures.sorts.other_pages differ
