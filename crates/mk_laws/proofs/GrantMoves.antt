-- What a Free frees, and the answer Double; and that the words of the place of a New are 0 when it is granted, and a
-- wiped word is in no mapped allocation.
use Rattle.mk_laws.proofs.Vocabulary.{Bool, Cell, Config, Flight, ImagePremises, IsPlaceOfNone, IsSafe, IsSound}
use Rattle.mk_laws.proofs.Vocabulary.{LeavesPlaces, List, MayHoldWords, Mirrors, NeverAllocation, NeverState, None, Op}
use Rattle.mk_laws.proofs.Vocabulary.{Option, Place, PlacedAllocation, Ptr, RunPages, Some, Value, Words, World, ℕ}
use Rattle.mk_laws.proofs.Vocabulary.{address_of, after_free, all_below-at, allocation_at, and_from, and_parts, ap}
use Rattle.mk_laws.proofs.Vocabulary.{arith, base_made, bases_of, cases_Bool, cases_eq, cell_of_allocation, cells_begin}
use Rattle.mk_laws.proofs.Vocabulary.{changed_at, eq-eqb, eqb-true, false, false≢true, first_word, flight_among}
use Rattle.mk_laws.proofs.Vocabulary.{freed_leaves, freed_released, freed_where_it_stands, header_in, if◌then◌else◌}
use Rattle.mk_laws.proofs.Vocabulary.{image_of, image_scene_of, inl, inr, is_freed, is_left_unmarked, is_past_probe}
use Rattle.mk_laws.proofs.Vocabulary.{is_phase, is_put, is_released_cell, is_run_cell, is_run_unmapped, is_some_and}
use Rattle.mk_laws.proofs.Vocabulary.{is_unmapped, is_unmapped_header, large_count, leb-true, length, length-map}
use Rattle.mk_laws.proofs.Vocabulary.{ltb-true, map, nat_le, nat_lt, no_allocation, not, not-true, object_placed}
use Rattle.mk_laws.proofs.Vocabulary.{or_cases, pages_made, phase_of, placed_at, pointed_cell, refl, set-get_or}
use Rattle.mk_laws.proofs.Vocabulary.{slice_index, slice_set, stands, stands_in, storage_words, subst, sym, true}
use Rattle.mk_laws.proofs.Vocabulary.{true≢false, typed_size, unmapped_header, unmapped_is_unmapped, ◌<◌, ◌==◌, ◌∙◌}
use Rattle.mk_laws.proofs.{Vocabulary.{◌∷◌, ◌≡◌, ◌≢◌, ◌≤◌}, Basics.{Frees, KnownWorld, Move, Ready, Stands, base_at}}
use Rattle.mk_laws.proofs.Basics.{exists_placed, goes_bare, pointed_word, unmapped_is, words_fit, zero_unless}
use Rattle.mk_laws.proofs.{ImagesBefore.{first_in, is_gone, words_are}, ImagesMoves.{Decides, SamePlaces, is_bare}}
use Rattle.mk_never.specs.{NeverHeap.free_reply, declared.operations.Reply.Reply}
use Rattle.mk_core.proofs.GrantedAllocations.{placed_headers, placed_stands}
use Rattle.mk_core.specs.{Cells.is_in_run, TurnConditions.{is_in_gone_run, may_wipe}}
use Rattle.mk_laws.proofs.ImagePremises.{OfFreedRun, OfMapped, OfReleased}
use Rattle.mk_laws.proofs.Vocabulary.{with_freed as never_freed, word_points, words_of, [], ◌&&◌, ◌*◌, ◌+◌, ◌-◌, ◌/◌}

-- Allocations that change one by one, and stay at their places.

same_bases : {change : PlacedAllocation → PlacedAllocation} (xs : List PlacedAllocation) → LeavesPlaces change
    → bases_of (map change xs) ≡ bases_of xs
same_bases [] h = refl
same_bases {change} (a ∷ xs) h = rw (h.base a) (rw (same_bases xs h))

pub same_places : {change : PlacedAllocation → PlacedAllocation} (xs : List PlacedAllocation) → LeavesPlaces change
    → SamePlaces xs (map change xs)
same_places {change} xs h = record {
  bases = same_bases xs h;
  count = length-map xs change;
  each = λ i. rw (changed_at change xs i h.none) (h.ty _);
}

abbrev is_freed_in : Words → Option Cell → Bool
is_freed_in w (Some cell) = is_freed w cell
is_freed_in w None = false

abbrev is_released_in : Words → Option Cell → Bool
is_released_in w (Some cell) = is_released_cell w cell
is_released_in w None = false

module _ (c : Config) (w : World) (n : NeverState) (known : KnownWorld c w) (mirrors : Mirrors c w n) (safe : ℕ
    → Bool) (ready : Ready c.globals safe (image_scene_of w) n) (st : Stands c w.now.words w.allocations) where
  abbrev placed : ℕ → PlacedAllocation
  placed i = placed_at w.allocations i

  -- the cell that a value points into
  pub pointer_cell : (a t o p : ℕ) → IsSound n (Ptr a t o) → IsSafe safe (Ptr a t o)
      → p ≡ image_of (bases_of w.allocations) (Ptr a t o)
      → pointed_cell c.pages w.now.words.pages p ≡ Some (cell_of_allocation c (placed a))
  pointer_cell a t o p sound is e =
      let u = ready.set.unreleased a is in
      let fits = words_fit c w n known mirrors a (exists_placed w.allocations a u) in
      ap (pointed_cell c.pages w.now.words.pages) (e ∙ ap (λ b. address_of (b + o)) (base_at w.allocations a))
      ∙ st.cell a o u (omega (arith, pointed_word c.globals safe (image_scene_of w) n ready a t o sound))

  pub free_by : (others : ImagePremises c w) (k : ℕ) (o : Op) (f : Flight) (p : ℕ) (cell : Cell) (v : Value)
      → Decides (image_scene_of w) n k f → IsSound n v → IsSafe safe v → p ≡ image_of (bases_of w.allocations) v → p ≢ 0
      → pointed_cell c.pages w.now.words.pages p ≡ Some cell → is_freed w.now.words cell ≡ false
      → (is_run_cell w.now.words (Some cell) ≡ true → (j : ℕ) → j ≢ k
      → is_past_probe (flight_among w.now.seats.flights j).stage ≡ false) → Move safe (image_scene_of w) n
      (record (image_scene_of w) {
        flights = slice_set w.now.seats.flights k f;
        allocations = map
            (freed_where_it_stands w.now.words (Some cell)) w.allocations;
      }) (after_free n v) × (free_reply n v ≡ Reply.Done)
  free_by others k o f p cell (Ptr a t x) at sound is e ne points not_freed quiet =
      let u = ready.set.unreleased a is in
      let lt = exists_placed w.allocations a u in
      let cells : Some cell ≡ Some (cell_of_allocation c (placed a)) = sym points ∙ (pointer_cell a t x p sound is e) in
      let first : first_word w.now.words cell ≡ (placed a).base = ap (first_in w.now.words) cells ∙ st.first a u in
      let leaves = freed_leaves w.now.words (Some cell) in
      let frees : PlacedAllocation → PlacedAllocation = freed_where_it_stands w.now.words (Some cell) in
      let now : (i : ℕ) → placed_at (map frees w.allocations) i ≡ frees (placed i) =
      λ i. changed_at frees w.allocations i leaves.none in
      let its : (placed a).freed ≡ false = elim (cases_Bool (placed a).freed) [
        | inl yes_freed ↦
            let y : false ≡ true = sym not_freed ∙ ap (is_freed_in w.now.words) cells
            ∙ others.shown a u yes_freed in absurd (cc)
        | inr z ↦ z
      ] in (
        Frees k a f (map frees w.allocations) at (same_places w.allocations leaves)
            (λ b. rw (now b) (freed_released w.now.words (Some cell) (placed b))) sound.0
            (λ b other. rw (now b) (rw (apart_from b a cell u first other))) (rw (now a)
            (rw (and_from (not (placed a).released) ((placed a).base == first_word w.now.words cell) (ap not u) (eq-eqb
            (placed a).base (first_word w.now.words cell) (sym first))))) (λ un. quiet (ap (is_run_cell w.now.words)
            cells ∙ st.run a u (ap (λ l. nat_lt 32 l) (sym (words_are c w n known mirrors a lt)) ∙ un))),
        ap (λ b. if b then Reply.Double else Reply.Done) (sym (mirrors.twins.freed a lt) ∙ its),
      )
    where
      apart_from : (b a : ℕ) (cell : Cell) → (placed a).released ≡ false → first_word w.now.words cell ≡ (placed a).base
          → b ≢ a → stands_in w.now.words cell (placed b) ≡ false
      apart_from b a cell ua first ne = elim (cases_Bool (stands_in w.now.words cell (placed b))) [
        | inl h ↦
            let parts = and_parts (not (placed b).released) ((placed b).base == first_word w.now.words cell) h in
            absurd (st.apart b a (not-true (placed b).released parts.0) ua ne
            (eqb-true (placed b).base (first_word w.now.words cell) parts.1 ∙ first))
        | inr h ↦ h
      ]
  free_by others k o f p cell x7 at sound is e ne points not_freed quiet = grind arith

  pub double_by : (others : ImagePremises c w) (k : ℕ) (f : Flight) (p : ℕ) (cell : Cell) (v : Value)
      → is_put (flight_among w.now.seats.flights k).stage ≡ false → is_bare f.stage ≡ true → IsSound n v → IsSafe safe v
      → p ≡ image_of (bases_of w.allocations) v → p ≢ 0 → pointed_cell c.pages w.now.words.pages p ≡ Some cell
      → is_freed w.now.words cell ≡ true → Move safe (image_scene_of w) n (record (image_scene_of w)
      { flights = slice_set w.now.seats.flights k f }) (after_free n v) × (free_reply n v ≡ Reply.Double)
  double_by others k f p cell (Ptr a t x) was bare sound is e ne points is_free =
      let u = ready.set.unreleased a is in
      let lt = exists_placed w.allocations a u in
      let cells : Some cell ≡ Some (cell_of_allocation c (placed a)) = sym points ∙ (pointer_cell a t x p sound is e) in
      let its : (placed a).freed ≡ true = elim (others.freed cell is_free) [
        | inl at ↦ its_own a at.number u at.unreleased at.freed (sym (st.first at.number at.unreleased)
            ∙ ap (first_word w.now.words) at.cell ∙ (ap (first_in w.now.words) cells ∙ st.first a u))
        | inr released ↦ absurd (false≢true (sym (others.kept a u) ∙ ap (is_released_in w.now.words) (sym cells)
            ∙ released))
      ] in
      let never : (allocation_at n a).freed ≡ true = sym (mirrors.twins.freed a lt) ∙ its in (
        subst (λ (m : NeverState). Move safe (image_scene_of w) n
            (record (image_scene_of w) { flights = slice_set w.now.seats.flights k f }) m) (sym (same_never a never))
            (goes_bare safe (image_scene_of w) n k f was bare),
        ap (λ b. if b then Reply.Double else Reply.Done) never,
      )
    where
      its_own : (a b : ℕ) → (placed a).released ≡ false → (placed b).released ≡ false → (placed b).freed ≡ true
          → (placed b).base ≡ (placed a).base → (placed a).freed ≡ true
      its_own a b ua ub fb e = elim (cases_eq b a) [
        | inl same ↦ ap (λ i. (placed i).freed) (sym same) ∙ fb
        | inr ne ↦ absurd (st.apart b a ub ua ne e)
      ]

      same_never : (a : ℕ) → (allocation_at n a).freed ≡ true → never_freed n a ≡ n
      same_never a h =
          ap (λ b. record n { allocations = slice_set n.allocations a (record (allocation_at n a) { freed = b }) })
          (sym h)
          ∙ ap (λ (xs : List NeverAllocation). record n { allocations = xs }) (set-get_or n.allocations a no_allocation)
  double_by others k f p cell x6 was bare sound is e ne points is_free = grind arith

-- the cell of a place, by the allocation that is granted there
pub record FillsCell (c : Config) (w : Words) (a : PlacedAllocation) : Type 0 where
  pub cell : (i : ℕ) → i < storage_words c a
      → pointed_cell c.pages w.pages (address_of (a.base + i)) ≡ Some (cell_of_allocation c a)
  pub first : first_word w (cell_of_allocation c a) ≡ a.base
  pub inside : a.base + storage_words c a ≤ 64 * c.pages

pub fills_cell : {c : Config} {w : World} (a : PlacedAllocation) {place : Place} → KnownWorld c w
    → a.ty < length c.types → a.released ≡ false → a.base ≡ base_made (object_placed c a) place
    → IsPlaceOfNone c w (object_placed c a) place → FillsCell c w.now.words a
fills_cell {c} {w} a {place = place} known typed unreleased base h =
    let st = placed_stands c a place known.limits typed unreleased base h.index h.pages in
    let has = placed_headers c w.now.words a place known.limits typed base h.index h.stands in
    grind (arith, word_points, cells_begin)

module _ (c : Config) (w : World) (n : NeverState) (known : KnownWorld c w) (mirrors : Mirrors c w n)
    (others : ImagePremises c w) (st : Stands c w.now.words w.allocations) where
  -- the words of a place that is granted, while no run is freed
  pub place_is_zero : {a : PlacedAllocation} {place : Place} → ((run : RunPages) → w.now.seats.holding.freed ≢ Some run)
      → phase_of w.now.words ≢ 4 → a.base ≡ base_made (object_placed c a) place
      → IsPlaceOfNone c w (object_placed c a) place → FillsCell c w.now.words a → (i : ℕ) → i < storage_words c a
      → slice_index w.now.words.heap (a.base + i) ≡ 0
  place_is_zero {a} no_run phase base h fills i lt = zero_unless _ (λ ne. by (others.zero_words (a.base + i) ne))
    where
      by : MayHoldWords c w (a.base + i) → ⊥
      by (OfMapped j m is) =
          let x = placed_at w.allocations j in
          let u = unreleased_of x.released (is_gone c x) m in
          let low = is.0 in
          let there : x.base + (a.base + i - x.base) ≡ a.base + i = omega arith in
          let cells : Some (cell_of_allocation c x) ≡ Some (cell_of_allocation c a) =
          sym (st.cell j (a.base + i - x.base) u (let high = is.1 in omega arith)) ∙ rw there (fills.cell i lt) in
          h.alone j u (sym (st.first j u) ∙ ap (first_in w.now.words) cells ∙ fills.first ∙ base)
        where
          unreleased_of : (r g : Bool) → (not r && not g) ≡ true → r ≡ false
          unreleased_of false g e = refl
          unreleased_of true g e = cc
      by (OfReleased cell p r) = phase (eqb-true (phase_of w.now.words) 4
          (and_parts (is_phase w.now.words 4) (is_left_unmarked w.now.words cell) r).0)
      by (OfFreedRun run e is) = no_run run e

  -- a word that is wiped
  pub wiped_outside : (x : ℕ) → may_wipe c w.now x ≡ true → (a i : ℕ) → (placed_at w.allocations a).released ≡ false
      → is_unmapped (allocation_at n a) ≡ false → i < length (words_of n a) → (placed_at w.allocations a).base + i ≢ x
  wiped_outside x h a i u m li e =
      let lt = exists_placed w.allocations a u in
      let fits = words_fit c w n known mirrors a lt in
      let cell : pointed_cell c.pages w.now.words.pages (address_of x)
      ≡ Some (cell_of_allocation c (placed_at w.allocations a)) = rw (← e) (st.cell a i u (omega arith)) in
      let mapped : is_unmapped_header (header_in w.now.words (x / 64)) ≡ false =
      rw (← e) (st.mapped a i u (sym (unmapped_is c w n known mirrors a lt) ∙ m) (omega arith)) in
      elim (or_cases (is_some_and (is_released_cell w.now.words) (pointed_cell c.pages w.now.words.pages
      (address_of x))) (is_in_gone_run w.now.words w.now.seats.holding.freed x) h) [
        | inl r ↦ absurd (false≢true (sym (others.kept a u)
            ∙ ap (is_some_and (is_released_cell w.now.words)) (sym cell) ∙ r))
        | inr g ↦ absurd (true≢false (sym (gone_word w.now.seats.holding.freed refl g) ∙ mapped))
      ]
    where
      gone_word : (freed : Option RunPages) → w.now.seats.holding.freed ≡ freed
          → is_in_gone_run w.now.words freed x ≡ true → is_unmapped_header (header_in w.now.words (x / 64)) ≡ true
      gone_word None is g = cc
      gone_word (Some run) is g =
          let at = others.freed_run run is in
          let owner = placed_at w.allocations at.number in
          let sized = typed_size c owner known.limits (others.laid_out at.number at.unreleased).stands.typed in
          let count : run.count ≡ pages_made (object_placed c owner) = ap (λ (r : RunPages). r.count) at.is in
          let some = (large_count (object_placed c owner) sized at.large).0 in
          let most = (large_count (object_placed c owner) sized at.large).1 in
          let parts = and_parts (is_in_run run x) (is_run_unmapped w.now.words run) g in
          let inside = and_parts (nat_le run.page (x / 64)) (nat_lt (x / 64 - run.page) run.count) parts.0 in
          let low = leb-true run.page (x / 64) inside.0 in
          let high = ltb-true (x / 64 - run.page) run.count inside.1 in
          let word = eqb-true _ _ (all_below-at run.count (x / 64 - run.page) (stands w.now.words run.page
          (unmapped_header run.count)) parts.1 high) in
          let place : x / 64 ≡ run.page + (x / 64 - run.page) = omega arith in
          cc (place, word, unmapped_is_unmapped run.count (x / 64 - run.page) (omega arith, omega arith) high)
