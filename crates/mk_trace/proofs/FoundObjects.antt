-- What freed bits and globals show between calls.
use Rattle.std.proofs.Math.ListN.{get_or-map as get_or-map-default}
use Rattle.mk_trace.proofs.Vocabulary.{AreLater, Cell, Config, Event, IsHistory, IsSound, NeverState, Null, Num}
use Rattle.mk_trace.proofs.Vocabulary.{PlacedAllocation, Ptr, Value, Words, address_of, allocation_at}
use Rattle.mk_trace.proofs.Vocabulary.{cell_of_allocation, cell_words, exists_placed, global_at}
use Rattle.mk_trace.proofs.Vocabulary.{histories_keep_the_invariant, is_freed, is_large, is_phase, kinds_of, left}
use Rattle.mk_trace.proofs.Vocabulary.{never_behind, never_granted, phase_of, placed_at, reach_is_kept, storage_words}
use Rattle.mk_trace.proofs.Vocabulary.{unfreed, ⊎_elim}
use Rattle.mk_heap.proofs.Below.Laws.Vocabulary.{Bool, IsFreedCell, IsQuarantined, List, Mirrors, None, Some, ℕ, ap}
use Rattle.mk_heap.proofs.Below.Laws.Vocabulary.{arith}
use Rattle.mk_heap.proofs.Below.Laws.Vocabulary.{bases_of, cases_Bool, cells_begin, eqb-true, false, false_from_ne_true}
use Rattle.mk_heap.proofs.Below.Laws.Vocabulary.{if◌then◌else◌, image_of, inl, inr, is_released_in, large_is_not_small}
use Rattle.mk_heap.proofs.Below.Laws.Vocabulary.{length}
use Rattle.mk_heap.proofs.Below.Laws.Vocabulary.{nat_le, not, object_placed, refl, slice_index, storage_holds, subst}
use Rattle.mk_heap.proofs.Below.Laws.Vocabulary.{sym, true}
use Rattle.mk_heap.proofs.Below.Laws.Vocabulary.{true≢false, typed_size, word_points, ◌+◌, ◌<◌, ◌∙◌, ◌≡◌, ◌≢◌}
use Rattle.mk_never.specs.{Laws.{LeadsTo, IsReachable.by_global}, Admitted.IsPlaceIn}
use Rattle.mk_core.{proofs.Sizes.words_are_small, specs.Cells.pointed_cell}
use Rattle.mk_heap.proofs.Below.Laws.{InvariantHistories.allocations_stand, Settled.unreleased_are_apart}
use Rattle.mk_heap.specs.Below.Laws.Theorems.{StandsUsed}

-- Freed bits between calls: those of the allocations that are freed and unreleased, and no others.

-- The cell follows from the place and the type.
pub cell_by : (c : Config) (a b : PlacedAllocation) → a.base ≡ b.base → a.ty ≡ b.ty
    → cell_of_allocation c a ≡ cell_of_allocation c b
cell_by c a b base ty = cc

module _ {c : Config} {es : List Event} (history : IsHistory c es) (out : phase_of (left c es).now.words ≢ 4) where
  abbrev placed : List PlacedAllocation
  placed = (left c es).allocations

  abbrev shown : Words
  shown = (left c es).now.words

  quarantined : IsQuarantined c (left c es)
  quarantined = (histories_keep_the_invariant c es history).order.quarantined

  not_releasing : is_phase shown 4 ≡ false
  not_releasing = false_from_ne_true (is_phase shown 4) (λ is. out (eqb-true (phase_of shown) 4 is))

  pub owner : (cell : Cell) → is_freed shown cell ≡ true → IsFreedCell c placed cell.page cell.index
  owner cell is =
      ⊎_elim (λ (x : IsFreedCell c placed cell.page cell.index). x) (λ (x : is_released_in
      (is_phase shown 4) shown.snapshot shown.marks cell.page cell.index ≡ true). absurd (true≢false
      (sym x ∙ ap (λ (b : Bool). is_released_in b shown.snapshot shown.marks cell.page cell.index) not_releasing)))
      (quarantined.owned cell.page cell.index is)

  -- The bit of an unreleased allocation's cell says whether it is freed.
  pub bit_tells_freed : (i : ℕ) → (placed_at placed i).released ≡ false
      → is_freed shown (cell_of_allocation c (placed_at placed i)) ≡ (placed_at placed i).freed
  bit_tells_freed i unreleased = elim (cases_Bool (placed_at placed i).freed) [
    | inl freed ↦ quarantined.shown i unreleased freed ∙ sym freed
    | inr unfreed ↦
        false_from_ne_true (is_freed shown (cell_of_allocation c (placed_at placed i))) (λ is.
        (let x = owner (cell_of_allocation c (placed_at placed i)) is in
        let same : i ≡ x.number = unreleased_are_apart c es
        (histories_keep_the_invariant c es history).order.laid i x.number unreleased x.unreleased (sym x.cell) in
        true≢false (sym x.freed ∙ ap (λ (k : ℕ). (placed_at placed k).freed) (sym same) ∙ unfreed))) ∙ sym unfreed
  ]

-- What was unreleased before, and is freed after a call: its bit says whether it is released by then.
module _ {c : Config} {es fs : List Event} (before : IsHistory c es) (behind : IsHistory c fs) (later : AreLater
    (left c es).allocations (left c fs).allocations) (old : (j : ℕ) → (placed_at (left c fs).allocations j).freed ≡ true
    → j < length (left c es).allocations) (out : phase_of (left c fs).now.words ≢ 4) where
  same_cell : (j : ℕ) → j < length (left c es).allocations → cell_of_allocation c (placed_at (left c fs).allocations j)
      ≡ cell_of_allocation c (placed_at (left c es).allocations j)
  same_cell j lt = grind (arith, cell_by)

  pub bit_tells_released : (i : ℕ) → (placed_at (left c es).allocations i).released ≡ false
      → (placed_at (left c fs).allocations i).freed ≡ true → is_freed (left c fs).now.words
      (cell_of_allocation c (placed_at (left c es).allocations i)) ≡ not (placed_at (left c fs).allocations i).released
  bit_tells_released i unreleased freed = elim (cases_Bool (placed_at (left c fs).allocations i).released) [
    | inr still ↦ cc (same_cell i (old i freed), bit_tells_freed behind out i still, freed, still)
    | inl gone ↦
        false_from_ne_true _ (λ is.
        (let x = owner behind out (cell_of_allocation c (placed_at (left c es).allocations i)) is in
        let lt = old x.number x.freed in
        let same : i ≡ x.number = unreleased_are_apart c es (histories_keep_the_invariant c es before).order.laid i
        x.number unreleased (grind (arith, false_from_ne_true)) (sym x.cell ∙ same_cell x.number lt) in
        true≢false (sym gone ∙ ap (λ (k : ℕ). (placed_at (left c fs).allocations k).released) same ∙ x.unreleased)))
        ∙ ap (λ (b : Bool). not b) (sym gone)
  ]

-- What a global shows between calls: the cell of the allocation that it points to, its words, and whether it is freed.

module _ (c : Config) (es : List Event) (history : IsHistory c es) (slot : ℕ) where
  abbrev n : NeverState
  n = never_behind c es

  abbrev xs : List PlacedAllocation
  xs = (left c es).allocations

  abbrev w : Words
  w = (left c es).now.words

  mirrors : Mirrors c (left c es) n
  mirrors = (histories_keep_the_invariant c es history).mirrors

  pub shows_image : slice_index w.globals slot ≡ image_of (bases_of xs) (global_at n slot)
  shows_image = mirrors.images.globals slot

  pub sound : IsSound n (global_at n slot)
  sound = mirrors.typed.globals slot

  -- It points to an allocation.
  module _ (number ty offset : ℕ) (points : global_at n slot ≡ Ptr number ty offset) where
    sound_pointer : IsSound n (Ptr number ty offset)
    sound_pointer = subst (IsSound n) points sound

    abbrev a : PlacedAllocation
    a = placed_at xs number

    unreleased : a.released ≡ false
    unreleased =
        reach_is_kept c es history number
        (by_global slot number (subst (λ (v : Value). LeadsTo v number) (sym points) refl))

    stands : StandsUsed c (left c es) a
    stands = allocations_stand c es history number unreleased

    within : IsPlaceIn (kinds_of n.types ty) offset → offset < storage_words c a
    within x0 = grind (arith, storage_holds, stands, mirrors, sound_pointer, exists_placed, xs, unreleased)

    image_is : slice_index w.globals slot ≡ address_of (a.base + offset)
    image_is = cc (shows_image, points, get_or-map-default (λ (x : PlacedAllocation). x.base) xs number never_granted)

    pub points_into : pointed_cell c.pages w.pages (slice_index w.globals slot) ≡ Some (cell_of_allocation c a)
    points_into = grind (arith, image_is, word_points, stands, within, sound_pointer)

    pub words_shown : cell_words w (cell_of_allocation c a) ≡ storage_words c a
    words_shown = (cells_begin c w a history.within_limits stands.stands stands.headers).1

    pub page_within : (cell_of_allocation c a).page < c.pages
    page_within = grind (arith, storage_holds, stands)

    pub freed_shown : phase_of w ≢ 4 → is_freed w (cell_of_allocation c a) ≡ (allocation_at n number).freed
    freed_shown out = grind (arith, bit_tells_freed, unreleased, mirrors, exists_placed, xs)

    pub large_shown : is_large (kinds_of c.types a.ty) ≡ not (nat_le (storage_words c a) 32)
    large_shown =
        large_is_not_small (kinds_of c.types a.ty) ∙ ap (λ (b : Bool). not b)
        (sym (words_are_small (object_placed c a) (typed_size c a history.within_limits stands.stands.typed)))

  -- What a global points to, where it points into a cell; it frees that, or nothing.

  pub record PointsToCell (cell : Cell) : Type 0 where
    pub number : ℕ
    pub is_cell : cell ≡ cell_of_allocation c (placed_at xs number)
    pub within : cell.page < c.pages
    pub words : cell_words w cell ≡ storage_words c (placed_at xs number)
    pub large : is_large (kinds_of c.types (placed_at xs number).ty)
        ≡ not (nat_le (storage_words c (placed_at xs number)) 32)
    pub frees : phase_of w ≢ 4 → unfreed n (global_at n slot) ≡ (if is_freed w cell then None else Some number)

  null_nowhere : slice_index w.globals slot ≡ 0 → pointed_cell c.pages w.pages (slice_index w.globals slot) ≡ None
  unfolding pointed_cell
  null_nowhere null = ap (pointed_cell c.pages w.pages) null

  by_value : (v : Value) → global_at n slot ≡ v → (cell : Cell)
      → pointed_cell c.pages w.pages (slice_index w.globals slot) ≡ Some cell → PointsToCell cell
  by_value Null is cell found = grind (arith, null_nowhere, shows_image, xs)
  by_value (Num m) is cell found = absurd (subst (IsSound n) is sound)
  by_value (Ptr number ty offset) is cell found =
      let both : Some (cell_of_allocation c (placed_at xs number)) ≡ Some cell =
      sym (points_into number ty offset is) ∙ found in
      let same : cell_of_allocation c (placed_at xs number) ≡ cell = cc in
      record {
        number = number;
        is_cell = sym same;
        within = subst (λ (x : Cell). x.page < c.pages) same (page_within number ty offset is);
        words = ap (cell_words w) (sym same) ∙ words_shown number ty offset is;
        large = large_shown number ty offset is;
        frees = λ out. ap (unfreed n) is ∙ ap (λ (b : Bool). if b then None else Some number)
            (sym (freed_shown number ty offset is out) ∙ ap (is_freed w) same);
      }

  pub points_to_cell : (cell : Cell) → pointed_cell c.pages w.pages (slice_index w.globals slot) ≡ Some cell
      → PointsToCell cell
  points_to_cell cell found = by_value (global_at n slot) refl cell found

  nowhere_by : (v : Value) → global_at n slot ≡ v
      → pointed_cell c.pages w.pages (slice_index w.globals slot) ≡ None → unfreed n (global_at n slot) ≡ None
  nowhere_by (Ptr number ty offset) is none =
      let both : None ≡ Some (cell_of_allocation c (placed_at xs number)) =
      sym none ∙ points_into number ty offset is in absurd cc
  nowhere_by _ is none = ap (unfreed n) is

  pub frees_nothing : pointed_cell c.pages w.pages (slice_index w.globals slot) ≡ None
      → unfreed n (global_at n slot) ≡ None
  frees_nothing none = nowhere_by (global_at n slot) refl none
