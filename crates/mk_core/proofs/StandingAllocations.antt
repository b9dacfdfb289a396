-- The storage and the cell of an allocation that stands on the heap.
use Rattle.mk_core.proofs.Vocabulary.{BeginsAtCell, Bool, Cell, Config, HasItsHeaders, IsHeaderOf, IsSized}
use Rattle.mk_core.proofs.Vocabulary.{IsWithinLimits, Object, Place, PlacedAllocation, Words, ℕ, and-false, ap, arith}
use Rattle.mk_core.proofs.Vocabulary.{base_made, cases_Bool, cell_ends, cell_of_storage, cells_made, cells_of}
use Rattle.mk_core.proofs.Vocabulary.{cells_under, class_made, class_words_of, cond-false, cond-true, false, header_at}
use Rattle.mk_core.proofs.Vocabulary.{header_in, inl, inr, is_small_object, length, object_placed, page_at_address}
use Rattle.mk_core.proofs.Vocabulary.{pages_made, pointed_cell, refl, storage_of, subst, sym, true, true≢false}
use Rattle.mk_core.proofs.Vocabulary.{unmapped_header, words_made, words_under, [], ◌%◌, ◌*◌, ◌+◌, ◌-◌, ◌/◌, ◌<◌}
use Rattle.mk_core.proofs.{Vocabulary.{◌∙◌, ◌≡◌, ◌≤◌, ◌⊎◌}, Sizes.{class_known, large_cells, large_count}}
use Rattle.mk_core.proofs.Sizes.{large_is_not_small, large_words, pages_some, small_cells, small_pages, small_words}
use Rattle.mk_core.proofs.Sizes.{words_are_small, words_hold, words_within}
use Rattle.mk_core.proofs.ObjectHeaders.{header_shows, large_header, part_cells, part_words, small_header}
use Rattle.mk_geom.proofs.PointedCells.{cell_first, cell_from_first, large_cell_of, points_into_cell, shows_cell}
use Rattle.mk_geom.proofs.{PointedCells.{shows_run, stands_at_address}, ClassTable.class_words_within}
use Rattle.mk_geom.proofs.Standing.{stands_parts}
use Rattle.mk_geom.specs.{Storages.{IsRun, IsStorage, run_header, ShowsStorage}, Addresses.word_of}
use Rattle.mk_core.specs.Allocations.{CellsBeginAtBases, HeadersShowStorage, PointersHitAllocations}
use Rattle.mk_core.specs.Allocations.{StandingHasStorage, StorageHoldsObjects}
use Rattle.mk_core.specs.Allocations.{is_mapped, storage_words, ShowsPart}

-- a type that there is has 1 to 4,096 words
pub typed_size : (c : Config) (a : PlacedAllocation) → IsWithinLimits c → a.ty < length c.types
    → IsSized (object_placed c a)
typed_size c a limits typed = (limits.types a.ty [] typed).0

pub storage_holds : StorageHoldsObjects
storage_holds c a limits typed =
    let sized = typed_size c a limits typed in
    (words_hold (object_placed c a) sized, words_within (object_placed c a) sized)

-- A small object's cell ends within its page,
pub cell_ends_within : (o : Object) (base : ℕ) → IsSized o → is_small_object o ≡ true → (b : BeginsAtCell o base)
    → b.index * words_made o + words_made o ≤ 64
cell_ends_within o base sized small b = grind (arith, small_cells, small_words, cell_ends)

-- and a large object begins at its page.
pub run_begins : (o : Object) (base : ℕ) → is_small_object o ≡ false → (b : BeginsAtCell o base)
    → (b.index ≡ 0) × (base % 64 ≡ 0)
run_begins o base large b = grind (arith, large_cells)

-- The object of a place begins there.
pub made_begins : (o : Object) (place : Place) → IsSized o → place.index < cells_made o
    → (b : BeginsAtCell o (base_made o place)) × (b.index ≡ place.index) × (base_made o place / 64 ≡ place.page)
made_begins o place sized known = elim (cases_Bool (is_small_object o)) [
  | inl small ↦
      let words = small_words o small in
      let within : place.index < cells_of (class_made o) = subst (λ n. place.index < n) (small_cells o small) known in
      let ends = cell_ends place.index (class_words_of (class_made o)) within in
      let some = (class_words_within (class_made o) (class_known o sized small).0).0 in
      let is : base_made o place ≡ 64 * place.page + place.index * class_words_of (class_made o) =
      grind (arith, cond-true) in
      let product : place.index * words_made o ≡ place.index * class_words_of (class_made o) = grind arith in
      (record { index = place.index; known = known; first = omega arith }, refl, omega arith)
  | inr large ↦
      let one = large_cells o large in
      let zero : place.index ≡ 0 = omega arith in
      let is : base_made o place ≡ 64 * place.page + 0 = grind (arith, cond-false) in
      let product : place.index * words_made o ≡ 0 * words_made o = ap (λ n. n * words_made o) zero in
      (record { index = place.index; known = known; first = omega arith }, refl, omega arith)
]

-- the cell of its storage
module _ (c : Config) (a : PlacedAllocation) (sized : IsSized (object_placed c a)) where
  abbrev o : Object
  o = object_placed c a

  pub placed_cell : (b : BeginsAtCell o a.base)
      → cell_of_storage (storage_of c a) ≡ record { page = a.base / 64; index = b.index }
  placed_cell b = elim (cases_Bool (is_small_object o)) [
    | inl small ↦
        let first = b.first in
        cell_from_first (storage_of c a) (a.base / 64) b.index (words_are_small o sized ∙ small)
        (words_within o sized).0 (cell_ends_within o a.base sized small b) (omega arith)
    | inr large ↦ cc (large_cell_of (storage_of c a) (words_are_small o sized ∙ large), (run_begins o a.base large b).0)
  ]

  pub run_cell : is_small_object o ≡ false → cell_of_storage (storage_of c a) ≡ record { page = a.base / 64; index = 0 }
  run_cell large = large_cell_of (storage_of c a) (words_are_small o sized ∙ large)

-- An unreleased small allocation is mapped.
small_is_mapped : (c : Config) (a : PlacedAllocation) → a.released ≡ false → is_small_object (object_placed c a) ≡ true
    → is_mapped c a ≡ true
small_is_mapped c a unreleased small = grind (arith, large_is_not_small, and-false)

pub standing_has_storage : StandingHasStorage
standing_has_storage c a limits st = by (cases_Bool (is_small_object (object_placed c a)))
  where
    sized : IsSized (object_placed c a)
    sized = typed_size c a limits st.typed

    run : is_small_object (object_placed c a) ≡ false → IsRun (storage_of c a)
    run large =
        let count = large_count (object_placed c a) sized large in
        record {
          pages = pages_made (object_placed c a);
          some = count.0;
          most = count.1;
          words = large_words (object_placed c a) large;
          first = (run_begins (object_placed c a) a.base large st.begins).1;
        }

    by : (is_small_object (object_placed c a) ≡ true) ⊎ (is_small_object (object_placed c a) ≡ false)
        → IsStorage c.pages (storage_of c a)
    by (inl small) = (
      inl (let words = small_words (object_placed c a) small in
          record {
            class = class_made (object_placed c a);
            index = st.begins.index;
            known = (class_known (object_placed c a) sized small).0;
            words = words;
            within = subst (λ n. st.begins.index < n) (small_cells (object_placed c a) small) st.begins.known;
            first = st.begins.first ∙ ap (λ n. st.begins.index * n) words;
            mapped = small_is_mapped c a st.unreleased small;
          }),
      st.within,
    )
    by (inr large) = (inr (run large), st.within)

-- the header of a run's page, once it is unmapped, leaf or not
unmapped_run : (count distance : ℕ) (leaf : Bool)
    → unmapped_header count distance ≡ word_of (run_header count false leaf distance)
unmapped_run count x1 leaf = grind arith

-- what a header of its shows
module _ (c : Config) (a : PlacedAllocation) (sized : IsSized (object_placed c a))
    (b : BeginsAtCell (object_placed c a) a.base) (distance header : ℕ) where
  abbrev its : Object
  its = object_placed c a

  large_shows : (mapped : Bool) → distance < pages_made its → is_small_object its ≡ false
      → header ≡ word_of (run_header (pages_made its) mapped its.leaf distance)
      → ShowsStorage (storage_of c a) (a.base / 64 + distance) header
  large_shows mapped near large is =
      let first = (run_begins its a.base large b).1 in
      shows_run (storage_of c a) header (a.base / 64) (pages_made its) distance mapped (omega arith)
      (large_words its large) (large_count its sized large).0 is

  shows : distance < pages_made its → (is_small_object its ≡ true) ⊎ (is_small_object its ≡ false)
      → IsHeaderOf its distance header → ShowsStorage (storage_of c a) (a.base / 64 + distance) header
  shows near (inl small) (inl made) =
      shows_cell (storage_of c a) (a.base / 64 + distance) header (class_made its) (class_known its sized small).0
      (small_words its small) (made ∙ small_header its distance small)
  shows near (inl small) (inr unmapped) = absurd (true≢false (sym small ∙ unmapped.0))
  shows near (inr large) (inl made) = large_shows true near large (made ∙ large_header its distance large)
  shows near (inr large) (inr unmapped) =
      large_shows false near large (unmapped.1 ∙ unmapped_run (pages_made its) distance its.leaf)

pub header_shows_storage : (c : Config) (a : PlacedAllocation) (distance header : ℕ) → IsSized (object_placed c a)
    → BeginsAtCell (object_placed c a) a.base → distance < pages_made (object_placed c a)
    → IsHeaderOf (object_placed c a) distance header → ShowsStorage (storage_of c a) (a.base / 64 + distance) header
header_shows_storage c a distance header sized b near has =
    shows c a sized b distance header near (cases_Bool (is_small_object (object_placed c a))) has

pub headers_show_storage : HeadersShowStorage
headers_show_storage c w a limits st has page stands =
    let sized = typed_size c a limits st.typed in
    let near : (a.base / 64 ≤ page) × (page - a.base / 64 < pages_made (object_placed c a)) = let parts = stands_parts
    page (storage_of c a) stands in let words = words_within (object_placed c a) sized in let o = object_placed c a
    in let first = st.begins.first in elim (cases_Bool (is_small_object o)) [
      | inl small ↦ (parts.0, omega (arith, small_pages o small, cell_ends_within o a.base sized small st.begins))
      | inr large ↦ (parts.0, omega (arith, large_words o large, run_begins o a.base large st.begins))
    ] in
    let from = near.0 in
    let there : a.base / 64 + (page - a.base / 64) ≡ page = omega arith in
    subst (λ p. ShowsStorage (storage_of c a) p (header_at w p)) there (header_shows_storage c a (page - a.base / 64)
    (header_at w (a.base / 64 + (page - a.base / 64))) sized st.begins near.1 (has (page - a.base / 64) near.1))

pub pointers_hit : PointersHitAllocations
unfolding pointed_cell
pointers_hit c w a limits st has u into =
    points_into_cell c.pages (header_at w (page_at_address u)) u (storage_of c a) (standing_has_storage c a limits st)
    (headers_show_storage c w a limits st has (page_at_address u) (stands_at_address u (storage_of c a) into)) into

-- its first page shows the object
pub first_page_shows : (c : Config) (w : Words) (a : PlacedAllocation) → IsSized (object_placed c a)
    → HasItsHeaders c w a → ShowsPart (object_placed c a) 0 (header_in w (a.base / 64))
first_page_shows c w a sized has =
    let here : a.base / 64 + 0 ≡ a.base / 64 = omega arith in
    subst (λ p. ShowsPart (object_placed c a) 0 (header_in w p)) here (header_shows (object_placed c a) 0 (header_at w
    (a.base / 64 + 0)) sized (pages_some (object_placed c a) sized) (has 0 (pages_some (object_placed c a) sized)))

pub cells_begin : CellsBeginAtBases
cells_begin c w a limits st has =
    let sized = typed_size c a limits st.typed in
    let words : words_under (header_in w (a.base / 64)) ≡ storage_words c a =
    part_words (object_placed c a) _ (first_page_shows c w a sized has) in (
      ap (λ n. 64 * (a.base / 64) + (cell_of_storage (storage_of c a)).index * n) words
          ∙ cell_first c.pages (storage_of c a) (standing_has_storage c a limits st),
      words,
    )

-- The index of its cell is one of its page's cells.
pub cell_is_known : (c : Config) (w : Words) (a : PlacedAllocation) → IsSized (object_placed c a)
    → BeginsAtCell (object_placed c a) a.base → HasItsHeaders c w a
    → (cell_of_storage (storage_of c a)).index < cells_under (header_in w (a.base / 64))
cell_is_known c w a sized b has =
    let is : (cell_of_storage (storage_of c a)).index ≡ b.index =
    ap (λ (k : Cell). k.index) (placed_cell c a sized b) in
    omega (arith, part_cells (object_placed c a) _ (first_page_shows c w a sized has), b.known)

pub ruleset an_allocation_has_its_cell_facts = (storage_holds, standing_has_storage, headers_show_storage, pointers_hit)
