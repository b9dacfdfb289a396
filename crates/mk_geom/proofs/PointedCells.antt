-- What an address in a storage points into, and in which storage an address is that points into its cell.
use Rattle.std.proofs.Common.{Bool, Option, Some, ℕ, ap, arith, false, inl, inr, le-leb, lt-ltb, sym, true, ◌%◌, ◌*◌}
use Rattle.std.proofs.{Common.{◌+◌, ◌-◌, ◌/◌, ◌<◌, ◌↔◌, ◌∙◌, ◌≡◌, ◌≤◌}, lemmas.Bool.{and_from, cases_Bool, cond-false}}
use Rattle.std.proofs.lemmas.{Bool.{cond-true, lt-leb}, Nat.{div-mul-add, mul-le}}
use Rattle.mk_geom.proofs.{Bridge.{block_in_range, run_in_range, run_near}, Standing.{cell_stands_at, class_of_cell}}
use Rattle.mk_geom.proofs.Standing.{class_of_words, has_words, large_is_run, small_is_cell, stands_from, stands_parts}
use Rattle.mk_geom.proofs.{ClassTable.{cell_ends, class_words_within}, HeaderLemmas.header_of-word_of}
use Rattle.mk_geom.specs.Addresses.{address_of, cell_at, cell_of_block, cell_under, page_at_address, word_at_address}
use Rattle.mk_geom.specs.{Addresses.{header_of, word_of}, Storages.{IsWordOf, PointsInto, ShowsStorage}}
use Rattle.mk_geom.specs.Storages.{cell_of_storage, IsCell, IsStorage, Storage, block_header}
use Rattle.mk_geom.specs.Storages.{class_of_storage, first_page, is_small, run_header, stands_on}
use Rattle.mk_geom.specs.{Addresses.class_words_of, declared.{addresses.Cell.Cell, headers.Header.Header}}

-- a heap address whose page has this header
pub looked_up : (pages header u : ℕ) (h : Header) → 65536 ≤ u → page_at_address u < pages → header_of header ≡ Some h
    → cell_at pages header u ≡ cell_under h (page_at_address u) (word_at_address u)
looked_up pages header u h low within is = grind (arith, and_from, le-leb, lt-ltb, cond-true)

block_under : (class : ℕ) (leaf : Bool) (page word : ℕ)
    → cell_under (block_header class leaf) page word ≡ cell_of_block class page word
block_under class x1 page word = grind arith

own_page : (page : ℕ)
    → ◌≡◌ {A = Option Cell} (Some (record { page = page; index = 0 })) (Some (record { page = page - 0; index = 0 }))
own_page page = let same : page ≡ page - 0 = omega arith in ap (λ p. Some (record { page = p; index = 0 })) same

run_under : (pages : ℕ) (mapped leaf : Bool) (distance page word : ℕ) → distance ≤ page
    → cell_under (run_header pages mapped leaf distance) page word ≡ Some (record { page = page - distance; index = 0 })
run_under pages mapped leaf x3 page word near = grind (arith, own_page, cond-true, le-leb)

-- What an address points into whose page shows a storage that stands there.
module _ (pages header u : ℕ) (s : Storage) (is : IsStorage pages s) (low : 65536 ≤ u)
    (stands : stands_on (page_at_address u) s ≡ true) (shows : ShowsStorage s (page_at_address u) header) where
  page_within : page_at_address u < pages
  page_within = let parts = stands_parts (page_at_address u) s stands in omega (arith, is.1, has_words pages s is)

  pub small_lookup : is_small s ≡ true
      → cell_at pages header u ≡ cell_of_block (class_of_storage s) (page_at_address u) (word_at_address u)
  small_lookup small =
      let cell = small_is_cell pages s is small in
      let known : class_of_storage s < 8 = omega (arith, class_of_cell s cell, cell.known) in
      let h : Header = block_header (class_of_storage s) s.leaf in
      let header_is : header ≡ word_of h = shows.1 ∙ ap word_of (cond-true (is_small s) _ _ small) in
      looked_up pages header u h low page_within (ap header_of header_is ∙ header_of-word_of h (block_in_range _ s.leaf
      known)) ∙ block_under _ s.leaf _ _

  pub large_lookup : is_small s ≡ false → cell_at pages header u ≡ Some (record { page = first_page s; index = 0 })
  large_lookup large =
      let page = page_at_address u in
      let run = large_is_run pages s is large in
      let begins = (stands_parts page s stands).0 in
      let near = run_near s page run stands in
      let h : Header = run_header (s.words / 64) shows.0 s.leaf (page - first_page s) in
      let header_is : header ≡ word_of h = shows.1 ∙ ap word_of (cond-false (is_small s) _ _ large) in
      let back : page - (page - first_page s) ≡ first_page s = omega arith in
      let in_range = run_in_range (s.words / 64) shows.0 s.leaf (page - first_page s)
      (omega (arith, run.words, run.some)) (omega (arith, run.words, run.most)) near in
      looked_up pages header u h low page_within (ap header_of header_is ∙ header_of-word_of h in_range)
      ∙ run_under (s.words / 64) shows.0 s.leaf (page - first_page s) page (word_at_address u) (omega arith)
      ∙ ap (λ (p : ℕ). Some (record { page = p; index = 0 })) back

-- where a cell begins on its page, and its words, by the class that it has from its words
pub first_in_page : (s : Storage) (cell : IsCell s) → s.first % 64 ≡ cell.index * class_words_of (class_of_storage s)
first_in_page s cell = cell.first ∙ ap (λ (c : ℕ). cell.index * class_words_of c) (sym (class_of_cell s cell))

pub class_has_words : (s : Storage) → IsCell s → class_words_of (class_of_storage s) ≡ s.words
class_has_words s cell = ap class_words_of (class_of_cell s cell) ∙ sym cell.words

-- the cell of a small storage
pub cell_index : (s : Storage) (cell : IsCell s) → s.first % 64 / s.words ≡ cell.index
cell_index s cell = grind (arith, class_words_within, div-mul-add)

same_cell : (j k : Cell) → j.page ≡ k.page → j.index ≡ k.index → j ≡ k
same_cell j k page index = λ i. record { page = page i; index = index i }

pub small_cell_of : (s : Storage) → is_small s ≡ true
    → cell_of_storage s ≡ record { page = first_page s; index = s.first % 64 / s.words }
small_cell_of s small = grind (arith, cond-true)

small_cell_is : (s : Storage) (cell : IsCell s) (page : ℕ) → is_small s ≡ true → page ≡ first_page s
    → Some (record { page = page; index = cell.index }) ≡ Some (cell_of_storage s)
small_cell_is s cell page small at = cc (cell_index s cell, small_cell_of s small)

pub cell_from_first : (s : Storage) (page index : ℕ) → is_small s ≡ true → 1 ≤ s.words → index * s.words + s.words ≤ 64
    → s.first ≡ 64 * page + index * s.words → cell_of_storage s ≡ record { page = page; index = index }
cell_from_first s page index small some ends first = grind (arith, div-mul-add, small_cell_of, same_cell)

pub large_cell_of : (s : Storage) → is_small s ≡ false → cell_of_storage s ≡ record { page = first_page s; index = 0 }
large_cell_of s large = grind (arith, cond-false)

-- the first word of the cell
pub cell_first : (pages : ℕ) (s : Storage) → IsStorage pages s
    → 64 * (cell_of_storage s).page + (cell_of_storage s).index * s.words ≡ s.first
cell_first pages s is = grind (arith, small_is_cell, small_cell_of, cell_index, large_is_run, large_cell_of)

-- the storage stands on the page of each of its addresses
pub stands_at_address : (u : ℕ) (s : Storage) → PointsInto u s → stands_on (page_at_address u) s ≡ true
stands_at_address u s (low, (from, to)) = stands_from (page_at_address u) s (omega arith) (omega arith)

small_cell_at : (u : ℕ) (s : Storage) (cell : IsCell s) → is_small s ≡ true → PointsInto u s
    → cell_of_block (class_of_storage s) (page_at_address u) (word_at_address u) ≡ Some (cell_of_storage s)
small_cell_at u s cell small into =
    grind (
      arith,
      cell_stands_at,
      stands_at_address,
      class_has_words,
      class_of_cell,
      cell_ends,
      first_in_page,
      small_cell_is,
      mul-le,
      div-mul-add,
      cond-true,
      lt-ltb,
    )

-- what the header word of its page says, by a storage's numbers
pub shows_cell : (s : Storage) (page header class : ℕ) → class < 8 → s.words ≡ class_words_of class
    → header ≡ word_of (block_header class s.leaf) → ShowsStorage s page header
shows_cell s page header class known words is = grind (arith, class_words_within, class_of_words, cond-true, le-leb)

pub shows_run : (s : Storage) (header first count distance : ℕ) (mapped : Bool) → s.first ≡ 64 * first
    → s.words ≡ 64 * count → 1 ≤ count
    → header ≡ word_of (run_header count mapped s.leaf distance) → ShowsStorage s (first + distance) header
shows_run s header first count distance mapped begins words some is =
    let pages : s.words / 64 ≡ count = omega arith in
    let behind : first + distance - first_page s ≡ distance = omega arith in (
      mapped,
      is ∙ sym (ap word_of (cond-false (is_small s) _ _ (lt-leb s.words 32 (omega arith)))
          ∙ ap (λ (m : ℕ). word_of (run_header m mapped s.leaf (first + distance - first_page s))) pages
          ∙ ap (λ (d : ℕ). word_of (run_header count mapped s.leaf d)) behind),
    )

pub address_points_into : (word : ℕ) (s : Storage) → PointsInto (address_of word) s ↔ IsWordOf s word
address_points_into word s = grind arith

pub points_into_cell : (pages header u : ℕ) (s : Storage) → IsStorage pages s
    → ShowsStorage s (page_at_address u) header → PointsInto u s → cell_at pages header u ≡ Some (cell_of_storage s)
points_into_cell pages header u s is shows into =
    let stands = stands_at_address u s into in
    elim (cases_Bool (is_small s)) [
      | inl small ↦ small_lookup pages header u s is into.0 stands shows small
          ∙ small_cell_at u s (small_is_cell pages s is small) small into
      | inr large ↦ cc (large_lookup pages header u s is into.0 stands shows large, large_cell_of s large)
    ]
