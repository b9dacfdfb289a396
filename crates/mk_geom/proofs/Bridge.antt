-- What pages show is what the storages say that stand on them.
use Rattle.std.proofs.Common.{Bool, List, Option, Some, ℕ, ap, arith, inl, inr, length, refl, slice_index_or, subst}
use Rattle.std.proofs.{Common.{sym, true, ◌-◌, ◌/◌, ◌<◌, ◌∙◌, ◌≡◌, ◌≤◌}, lemmas.Bool.{and_parts, cases_Bool}}
use Rattle.std.proofs.lemmas.{Bool.{cond-false, cond-true}, List.{get_or-map, length-map, same_lists}}
use Rattle.std.proofs.lemmas.List.FromFn.{get_or-map-range_with_len, length-map-range_with_len}
use Rattle.std.proofs.lemmas.List.Elements.{All-contains}
use Rattle.mk_geom.proofs.Standing.{class_of_cell, large_is_run, small_is_cell, stands_parts}
use Rattle.mk_geom.{proofs.{HeaderLemmas.header_of-word_of, ListSearch.find_cases}, specs.declared.pages.Page.{Page}}
use Rattle.mk_geom.proofs.{StoredWords.{words_by_large, words_by_small}, TakenCells.length-taken_cells}
use Rattle.mk_geom.proofs.UsedWords.{bits_of-used_word}
use Rattle.mk_geom.specs.{Addresses.{IsHeaderWord, IsInRange, word_of}, PageUses.{Cells, PageUse, PartOfRun}}
use Rattle.mk_geom.specs.PageUses.{census_among, place_on_uses, HaveHeaderWords, bits_of, use_of_page}
use Rattle.mk_geom.specs.{PageUses.{use_under, uses_of_pages}, Storages.{AreLaidOut, IsRun, IsStorage, PagesStandFor}}
use Rattle.mk_geom.specs.Storages.{Storage, block_header, block_page, census_of, class_of_storage, first_page}
use Rattle.mk_geom.specs.Storages.{free_page, is_small, place_among_storages, run_header, run_page, run_used, stands_on}
use Rattle.mk_geom.specs.Storages.{taken_cells, use_by, use_of_storages, used_word, uses_of_storages, words_by}
use Rattle.mk_geom.specs.{Storages.words_of_storages, Addresses.cells_of, declared.headers.Header.Header}

-- a page whose header word is one, and what it shows
abbrev pub Shows : Page → PageUse → Type 0
Shows page use' = IsHeaderWord page.header × (use_of_page page ≡ use')

shows_header : (h : Header) (used : ℕ) → IsInRange h
    → Shows (record { header = word_of h; used = used }) (use_under (Some h) used)
shows_header h used in_range = grind (arith, header_of-word_of)

pub block_in_range : (class : ℕ) (leaf : Bool) → class < 8 → IsInRange (block_header class leaf)
block_in_range class x1 known = grind arith

block_use : (class : ℕ) (leaf : Bool) (used : ℕ)
    → use_under (Some (block_header class leaf)) used ≡ Cells class leaf (bits_of (cells_of class) used)
block_use class x1 used = grind arith

pub block_shows : (class : ℕ) (leaf : Bool) (taken : List Bool) → class < 8 → length taken ≡ cells_of class
    → Shows (block_page class leaf (used_word taken)) (Cells class leaf taken)
block_shows class leaf taken known long =
    let shown = shows_header (block_header class leaf) (used_word taken) (block_in_range class leaf known) in (
      shown.0,
      shown.1 ∙ block_use class leaf (used_word taken)
          ∙ ap (Cells class leaf) (bits_of-used_word taken (cells_of class) long),
    )

pub run_in_range : (pages : ℕ) (mapped leaf : Bool) (distance : ℕ) → 1 ≤ pages → pages ≤ 64 → distance ≤ 63
    → IsInRange (run_header pages mapped leaf distance)
run_in_range pages mapped leaf x3 some most near = grind (arith, cond-true, cond-false)

run_use : (pages : ℕ) (mapped leaf : Bool) (distance used : ℕ)
    → use_under (Some (run_header pages mapped leaf distance)) used ≡ PartOfRun mapped
run_use pages mapped leaf x3 used = grind (arith, cond-true, and_parts, cond-false)

pub run_shows : (pages : ℕ) (mapped leaf : Bool) (distance : ℕ) → 1 ≤ pages → pages ≤ 64 → distance ≤ 63
    → Shows (run_page pages mapped leaf distance) (PartOfRun mapped)
run_shows pages mapped leaf distance some most near =
    let shown = shows_header (run_header pages mapped leaf distance) (run_used distance)
    (run_in_range pages mapped leaf distance some most near) in
    (shown.0, shown.1 ∙ run_use pages mapped leaf distance (run_used distance))

pub run_near : (s : Storage) (page : ℕ) → IsRun s → stands_on page s ≡ true → page - first_page s ≤ 63
run_near s page run stands = let parts = stands_parts page s stands in omega (arith, run.words, run.most, run.first)

shown_by : (n page : ℕ) (xs : List Storage) (s : Storage) → IsStorage n s → stands_on page s ≡ true
    → Shows (words_by xs page (Some s)) (use_by xs page (Some s))
shown_by n page xs s is stands = elim (cases_Bool (is_small s)) [
  | inl small ↦
      let cell = small_is_cell n s is small in
      let known : class_of_storage s < 8 = omega (arith, class_of_cell s cell, cell.known) in
      let taken = taken_cells xs page (class_of_storage s) in
      let shown = block_shows (class_of_storage s) s.leaf taken known (length-taken_cells xs page (class_of_storage s))
      in
      moved (sym (words_by_small page xs s small)) (sym (cond-true (is_small s) _ _ small)) shown
  | inr large ↦
      let run = large_is_run n s is large in
      moved (sym (words_by_large page xs s large)) (sym (cond-false (is_small s) _ _ large))
      (run_shows (s.words / 64) s.mapped s.leaf (page - first_page s) (omega (arith, run.words, run.some))
      (omega (arith, run.words, run.most)) (run_near s page run stands))
]
  where
    moved : {p q : Page} {u v : PageUse} → p ≡ q → u ≡ v → Shows p u → Shows q v
    moved {p} {q} {u} {v} same_page same_use shown = grind arith

shown : (n page : ℕ) (xs : List Storage) → AreLaidOut n xs → Shows (words_of_storages xs page) (use_of_storages xs page)
shown n page xs laid = elim (find_cases (stands_on page) xs) [
  | inl (s, found, inside, stands) ↦ subst (λ (o : Option Storage). Shows (words_by xs page o) (use_by xs page o))
      (sym found) (shown_by n page xs s (All-contains (IsStorage n) xs s laid.each inside) stands)
  | inr (none, others) ↦ subst (λ (o : Option Storage). Shows (words_by xs page o) (use_by xs page o)) (sym none)
      (refl, refl)
]

pub page_shows : (pages : List Page) (storages : List Storage) → PagesStandFor pages storages → (page : ℕ) (d : Page)
    → page < length pages → Shows (slice_index_or pages page d) (use_of_storages storages page)
page_shows pages storages stand page d within =
    subst (λ (p : Page). Shows p (use_of_storages storages page)) (sym (stand.words page d within))
    (shown (length pages) page storages stand.laid_out)

pub same_uses : (pages : List Page) (storages : List Storage) → PagesStandFor pages storages
    → uses_of_pages pages ≡ uses_of_storages (length pages) storages
same_uses pages storages stand = same_lists _ _ (shown_length ∙ sym said_length) (λ k d below.
    let within : k < length pages = omega (arith, shown_length) in
    get_or-map use_of_page pages k free_page d within ∙ (page_shows pages storages stand k free_page within).1
    ∙ sym (get_or-map-range_with_len (use_of_storages storages) 0 (length pages) k k d within (omega arith)))
  where
    shown_length : length (uses_of_pages pages) ≡ length pages
    shown_length = length-map pages use_of_page

    said_length : length (uses_of_storages (length pages) storages) ≡ length pages
    said_length = length-map-range_with_len (use_of_storages storages) 0 (length pages)

pub same_places : (pages : List Page) (storages : List Storage) (limit words : ℕ) (leaf : Bool)
    → PagesStandFor pages storages → place_on_uses limit words leaf (uses_of_pages pages)
    ≡ place_among_storages (length pages) limit words leaf storages
same_places pages storages limit words leaf stand = ap (place_on_uses limit words leaf) (same_uses pages storages stand)

pub same_census : (pages : List Page) (storages : List Storage) → PagesStandFor pages storages
    → census_among (uses_of_pages pages) ≡ census_of (length pages) storages
same_census pages storages stand = ap census_among (same_uses pages storages stand)

pub have_header_words : (pages : List Page) (storages : List Storage) → PagesStandFor pages storages
    → HaveHeaderWords pages
have_header_words pages storages stand k d within = (page_shows pages storages stand k d within).0
