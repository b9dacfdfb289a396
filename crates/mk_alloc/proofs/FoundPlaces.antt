-- What the place that first fit finds says of its pages, and how many words are held.
use Rattle.std.proofs.{Common.{add-one, leb-false, slice_get}, lemmas.List.Sums.{count_by-le-length, sum_by-append}}
use Rattle.std.proofs.{lemmas.Option.{get_or_from_slice_get, slice_get_within}, Math.Nat.{mul-div-le, mul-le-mul_left}}
use Rattle.std.proofs.lemmas.List.FromFn.{get_or-map-range_with_len}
use Rattle.mk_caller.proofs.Below.Laws.Vocabulary.{Block, Bool, Config, Event, Free, Header, IsHistory, IsSettled}
use Rattle.mk_caller.proofs.Below.Laws.Vocabulary.{IsSized, Later, LeafBlock, LeafRun, List, None, Object, Option, Page}
use Rattle.mk_caller.proofs.Below.Laws.Vocabulary.{Place, PlacedAllocation, Run, Some, Storage, ℕ, ap, arith, bit_at}
use Rattle.mk_caller.proofs.Below.Laws.Vocabulary.{block_header, cases_Bool, cells_of, class_made, cond-false}
use Rattle.mk_caller.proofs.Below.Laws.Vocabulary.{cond-true, false, free_page, has_bit, header_of, header_on}
use Rattle.mk_caller.proofs.Below.Laws.Vocabulary.{histories_keep_lengths, if◌then◌else◌, inl, inr, is_small_object}
use Rattle.mk_caller.proofs.Below.Laws.Vocabulary.{is_some, leb-true, left, length, length-map, ne_eqb, none-some, not}
use Rattle.mk_caller.proofs.Below.Laws.Vocabulary.{or_else, place_on_pages, refl, resident_pages, same_Some}
use Rattle.mk_caller.proofs.Below.Laws.Vocabulary.{slice_index_or, storage_words, subst, sym, true, unreleased_storage}
use Rattle.mk_caller.proofs.Below.Laws.Vocabulary.{use_under, used_on, uses_of_pages, word_of, [], ◌*◌, ◌++◌, ◌+◌, ◌<◌}
use Rattle.mk_caller.proofs.Below.Laws.Vocabulary.{◌==◌, ◌∙◌, ◌∷◌, ◌≡◌, ◌≢◌, ◌≤◌}
use Rattle.mk_caller.proofs.Below.Laws.InvariantHistories.{pages_show_the_storage}
use Rattle.mk_alloc.proofs.ObjectVocabulary.{held_by_allocations, option_map, sum_by-cons}
use Rattle.mk_core.specs.Below.Books.KnownPages.{LowestBlockHasThePlace, free_cell_on, has_free_cell, page_at}
use Rattle.mk_geom.proofs.{HeaderLemmas.{header_of-word_of, word_of-header_of}, FirstFit.{cell_place_is, run_place_is}}
use Rattle.mk_geom.proofs.HeldWords.{pages_hold_mapped_words}
use Rattle.mk_geom.specs.PageUses.{Cells, PageUse, cells_taken, first_where, held_by_use, held_by_uses, is_free_page}
use Rattle.mk_geom.specs.PageUses.{small_place, bits_of, use_of_page, MayTakeCell}
use Rattle.mk_core.proofs.Below.Books.{FreeCellLemmas.cells_taken_alike, UsedBitLemmas.length-bits_of}
use Rattle.mk_core.proofs.{Sizes.class_for_small, UnreleasedStorage.unreleased_more}

-- What the answers of the page map say of an object's place.

-- The cells of a page under the header word of the blocks that are sought,

pub cells_under_wanted : {h : ℕ} (u class : ℕ) (leaf : Bool) → class < 8 → h ≡ word_of (block_header class leaf)
    → cells_taken class leaf (use_under (header_of h) u) ≡ bits_of (cells_of class) u
cells_under_wanted {h} u class false known is =
    cells_taken_alike (use_under (header_of h) u) class class false false u
    (ap (λ x. use_under x u) (ap header_of is ∙ header_of-word_of (Block class) known)) refl refl
cells_under_wanted {h} u class true known is =
    cells_taken_alike (use_under (header_of h) u) class class true true u
    (ap (λ x. use_under x u) (ap header_of is ∙ header_of-word_of (LeafBlock class) known)) refl refl

-- and those of another, which are none.
other_cells : (class k : ℕ) (leaf sort : Bool) (cells : List Bool) → ((class ≡ k) → leaf ≡ sort → ⊥)
    → cells_taken class leaf (Cells k sort cells) ≡ []
other_cells class k leaf sort cells differ = grind (arith, ne_eqb)

pub cells_under_other : (h u class : ℕ) (leaf : Bool) → h ≢ word_of (block_header class leaf)
    → cells_taken class leaf (use_under (header_of h) u) ≡ []
cells_under_other h u class leaf other = by (header_of h) refl
  where
    by : (x : Option Header) → header_of h ≡ x → cells_taken class leaf (use_under x u) ≡ []
    by None is = refl
    by (Some Free) is = refl
    by (Some (Run n m)) is = refl
    by (Some (LeafRun n)) is = refl
    by (Some (Later d m)) is = refl
    by (Some (Block k)) is = other_cells class k leaf false _ (λ e sort. other (sym (word_of-header_of h (Block k) is).1
        ∙ (λ i. word_of (block_header (sym e i) (sym sort i)))))
    by (Some (LeafBlock k)) is = other_cells class k leaf true _ (λ e sort. other (sym (word_of-header_of h (LeafBlock
        k) is).1 ∙ (λ i. word_of (block_header (sym e i) (sym sort i)))))

-- So a page with a free cell of a class and sort has the cells of its used word.
pub cells_of_block : (page : Page) (class : ℕ) (leaf : Bool) → class < 8
    → has_free_cell class leaf (use_of_page page) ≡ true
    → cells_taken class leaf (use_of_page page) ≡ bits_of (cells_of class) page.used
cells_of_block page class leaf known free = grind (arith, cells_under_wanted, cells_under_other)

-- A found block: where it stands, and that it has a free cell.
pub record IsBlock (pages : List Page) (class : ℕ) (leaf : Bool) (page : ℕ) : Type 0 where
  pub within : page < length pages
  pub free : has_free_cell class leaf (use_of_page (page_at pages page)) ≡ true

shifted : (found : Option ℕ) (n : ℕ) → option_map (λ k. k + 1) found ≡ Some n → (k : ℕ) × (found ≡ Some k) × (k + 1 ≡ n)
shifted x0 n is = grind (arith, none-some, same_Some)

pub block_found : (pages : List Page) (class : ℕ) (leaf : Bool) (page : ℕ)
    → first_where (has_free_cell class leaf) (uses_of_pages pages) ≡ Some page → IsBlock pages class leaf page
block_found [] class leaf page is = absurd (none-some page is)
block_found (first ∷ pages) class leaf page is = elim (cases_Bool (has_free_cell class leaf (use_of_page first))) [
  | inl passes ↦
      let here : 0 ≡ page = same_Some 0 page (sym (cond-true _ (Some 0) _ passes) ∙ is) in
      record {
        within = omega arith;
        free = ap (λ k. has_free_cell class leaf (use_of_page (page_at (first ∷ pages) k))) (sym here) ∙ passes;
      }
  | inr fails ↦
      let (k, found, next) = shifted (first_where (has_free_cell class leaf) (uses_of_pages pages)) page
      (sym (cond-false _ (Some 0) _ fails) ∙ is) in
      let later = block_found pages class leaf k found in
      record {
        within = omega (arith, later.within, next);
        free = ap (λ k. has_free_cell class leaf (use_of_page (page_at (first ∷ pages) k))) (sym next ∙ add-one k)
            ∙ later.free;
      }
]

-- its lowest free cell, by its used word
pub cell_told : (pages : List Page) (page class : ℕ) {used : ℕ} (leaf : Bool) {found : Option ℕ} → class < 8 → used
    ≡ (page_at pages page).used → has_free_cell class leaf (use_of_page (page_at pages page)) ≡ true → found
    ≡ first_where not (bits_of (cells_of class) used) → option_map
    (λ index. record { page = page; index = index; carve = false }) found ≡ free_cell_on class leaf pages page
cell_told pages page class leaf known is free by_word = grind (arith, cells_of_block)

-- Such a page has a header.
pub block_has_header : (page : Page) (class : ℕ) (leaf : Bool) → has_free_cell class leaf (use_of_page page) ≡ true
    → (page.header == 0) ≡ false
block_has_header page class leaf free = grind (arith, ne_eqb)

-- It has one.

mapped_some : {A : Type 0} (f : ℕ → A) (found : Option ℕ) → is_some (option_map f found) ≡ is_some found
mapped_some f x1 = grind arith

some_index : {A : Type 0} (f : ℕ → A) (found : Option ℕ) → is_some (option_map f found) ≡ true
    → (index : ℕ) × (found ≡ Some index)
some_index f x1 some = grind arith

pub cell_is_there : (pages : List Page) (page class : ℕ) (leaf : Bool) (found : Option ℕ)
    → option_map (λ index. record { page = page; index = index; carve = false }) found
    ≡ free_cell_on class leaf pages page
    → has_free_cell class leaf (use_of_page (page_at pages page)) ≡ true → (index : ℕ) × (found ≡ Some index)
cell_is_there pages page class leaf found told free =
    some_index (λ index. record { page = page; index = index; carve = false }) found (ap (λ (place : Option
    Place). is_some place) told ∙ mapped_some (λ index. record { page = page; index = index; carve = false }) _ ∙ free)

-- The place is in that block.

or_first : (place other : Option Place) → is_some place ≡ true → or_else place other ≡ place
or_first x0 other some = grind arith

pub place_in_block : LowestBlockHasThePlace → (limit class page : ℕ) (leaf : Bool) (pages : List Page)
    → first_where (has_free_cell class leaf) (uses_of_pages pages) ≡ Some page
    → free_cell_on class leaf pages page ≡ small_place limit class leaf (uses_of_pages pages)
place_in_block law limit class page leaf pages found = grind (arith, or_first, mapped_some, block_found)

-- no more pages are resident than there are
pub resident_few : (pages : List Page) → resident_pages (uses_of_pages pages) ≤ length pages
resident_few pages =
    let few : resident_pages (uses_of_pages pages) ≤ length (uses_of_pages pages) = grind (arith, count_by-le-length) in
    omega (arith, few, length-map pages use_of_page)

bit_told : (count used k : ℕ) → slice_get (bits_of count used) k ≡ Some false → has_bit used k ≡ false
bit_told count used k is =
    let within : k < length (bits_of count used) = slice_get_within (bits_of count used) k false is in
    let here : k < count = subst (λ n. k < n) (length-bits_of count used) within in
    sym (get_or-map-range_with_len (λ i. bit_at used i == 1) 0 count k k false here (omega arith))
    ∙ get_or_from_slice_get (bits_of count used) k false false is

-- A cell that may be taken on a page with a header isn't used.
clear_cell : (h u class index : ℕ) (leaf : Bool) (x : Option Header) → header_of h ≡ x → h ≢ 0
    → MayTakeCell class leaf index (use_under x u) → has_bit u index ≡ false
clear_cell h u class index leaf (Some Free) is some may = absurd (some (sym (word_of-header_of h Free is).1))
clear_cell h u class index leaf x6 is some may = grind (arith, bit_told)

free_is_zero : (h : ℕ) (x : Option Header) (u : ℕ) → header_of h ≡ x → is_free_page (use_under x u) ≡ true → h ≡ 0
free_is_zero h (Some Free) u is free = sym (word_of-header_of h Free is).1
free_is_zero h _ u is free = cc

-- The cell of a place that isn't on free pages isn't used.
pub found_clear : (limit : ℕ) (pages : List Page) (o : Object) (place : Place) → IsSized o
    → place_on_pages limit pages o ≡ Some place
    → header_on pages place.page ≢ 0 → has_bit (used_on pages place.page) place.index ≡ false
found_clear limit pages o place sized at some = elim (cases_Bool (is_small_object o)) [
  | inl s ↦
      let is = cell_place_is limit o.words (class_made o) o.leaf pages place
      (class_for_small o.words sized.0 (leb-true o.words 32 s)) at in
      let page : slice_index_or pages place.page free_page ≡ is.page =
      get_or_from_slice_get pages place.page is.page free_page is.at in
      ap (λ (x : Page). has_bit x.used place.index) page ∙ clear_cell _ is.page.used _ place.index o.leaf _ refl (λ z.
      some (ap (λ (x : Page). x.header) page ∙ z)) is.may_take
  | inr l ↦
      let is = run_place_is limit o.words o.leaf pages place (leb-false o.words 32 l) at in
      absurd (some (free_is_zero (header_on pages place.page) (header_of (header_on pages place.page))
      (used_on pages place.page) refl (is.free.free place.page free_page (omega arith) (omega arith))))
]

-- No page holds more than its words.
cells_hold : (class u : ℕ) (leaf : Bool) → held_by_use (PageUse.Cells class leaf (bits_of (cells_of class) u)) ≤ 64
cells_hold class u leaf = grind (arith, length-bits_of, count_by-le-length, mul-le-mul_left, mul-div-le)

page_holds : (x : Option Header) (u : ℕ) → held_by_use (use_under x u) ≤ 64
page_holds (Some Free) u = omega arith
page_holds None u = omega arith
page_holds (Some (Block k)) u = cells_hold k u false
page_holds (Some (LeafBlock k)) u = cells_hold k u true
page_holds (Some (Run n true)) u = omega arith
page_holds (Some (Run n false)) u = omega arith
page_holds (Some (LeafRun n)) u = omega arith
page_holds (Some (Later d true)) u = omega arith
page_holds (Some (Later d false)) u = omega arith

pub pages_hold_few : (pages : List Page) → held_by_uses (uses_of_pages pages) ≤ 64 * length pages
pages_hold_few [] = omega arith
pages_hold_few (page ∷ pages) = omega (
  arith,
  page_holds (header_of page.header) page.used,
  pages_hold_few pages,
  sum_by-cons held_by_use (use_of_page page) (uses_of_pages pages),
)

-- How many words are held before a grant, and after it.

abbrev words_mapped : Storage → ℕ
words_mapped s = if s.mapped then s.words else 0

-- A live object is held besides.
pub held_one_more : (c : Config) (xs : List PlacedAllocation) (a : PlacedAllocation) → a.released ≡ false
    → a.freed ≡ false → held_by_allocations c (xs ++ a ∷ []) ≡ held_by_allocations c xs + storage_words c a
held_one_more c xs a unreleased live = grind (arith, unreleased_more, sum_by-append, words_mapped, sum_by-cons)

-- No more is held than the pages have.
pub held_is_little : {c : Config} {es : List Event} → IsHistory c es → IsSettled (left c es)
    → held_by_allocations c (left c es).allocations ≤ 64 * c.pages
held_is_little {c} {es} h settled =
    let shown = pages_hold_mapped_words (left c es).now.words.pages (unreleased_storage c (left c es).allocations)
    (pages_show_the_storage c es h settled) in
    let few = pages_hold_few (left c es).now.words.pages in
    let lengths = (histories_keep_lengths c es).pages in
    omega arith
