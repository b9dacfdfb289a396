-- What is known of a world of a history, and what values and words in it point into.
use Rattle.mk_laws.proofs.Vocabulary.{Config, HasItsHeaders, Header, Invariant, IsMarking, IsSized, IsStorage, Later}
use Rattle.mk_laws.proofs.Vocabulary.{NeverState, Object, Option, PlacedAllocation, PointsInto, ShowsPart, Some}
use Rattle.mk_laws.proofs.Vocabulary.{StandsOnHeap, World, ℕ, arith, cell_of_allocation, eqb-true, false}
use Rattle.mk_laws.proofs.Vocabulary.{first_page_shows, has_no_pointers, head_page_under, header_in, inl, inr}
use Rattle.mk_laws.proofs.Vocabulary.{is_small_object, large_words, object_placed, or_parts, page_at_address}
use Rattle.mk_laws.proofs.Vocabulary.{pages_made, part_has_no_pointers, phase_of, placed_at, pointed_cell, run_begins}
use Rattle.mk_laws.proofs.Vocabulary.{run_count, shown, slice_index, standing_has_storage, stands_on, storage_of}
use Rattle.mk_laws.proofs.Vocabulary.{storage_words, subst, sym, true, typed_size, ◌*◌, ◌/◌, ◌<◌, ◌∙◌, ◌≡◌, ◌≢◌}
use Rattle.mk_laws.proofs.{Vocabulary.◌⊎◌, Unmapping.{part_count, small_count}, Basics.KnownWorld, FreeWords.of_one}
use Rattle.mk_laws.proofs.InvariantHistories.{told_to_images}
use Rattle.mk_geom.proofs.Standing.{stands_at_first, stands_from}
use Rattle.mk_core.proofs.{PointedPages.{PointsTo, points_to}, PointedAllocations.pointers_come_back}
use Rattle.mk_core.proofs.StandingAllocations.{pointers_hit}
use Rattle.mk_laws.proofs.ImagePremises as images
pub use Rattle.mk_laws.proofs.FreeWords.{IsOfOne as IsHeld}

-- all that is known of it
pub record Told (c : Config) (w : World) (n : NeverState) : Type 0 where
  pub known : KnownWorld c w
  pub all : Invariant c w n

not_four : (n : ℕ) → (n ≡ 1) ⊎ (n ≡ 2) → n ≡ 4 → ⊥
not_four n h f = grind arith

-- a run's head shows the pages of its object
run_pages : {o : Object} {x : Option Header} (d : ℕ) → ShowsPart o 0 x → d < run_count x
    → (is_small_object o ≡ false) × (d < pages_made o)
run_pages d part lt = grind (arith, part_count, small_count)

module _ (c : Config) (w : World) (n : NeverState) (t : Told c w n) where
  abbrev placed : ℕ → PlacedAllocation
  placed i = placed_at w.allocations i

  others : images.ImagePremises c w
  others = told_to_images c w n t.known t.all

  pub stands : (b : ℕ) → (placed b).released ≡ false → StandsOnHeap c (placed b)
  stands b u = (others.laid_out b u).stands

  pub headers : (b : ℕ) → (placed b).released ≡ false → HasItsHeaders c w.now.words (placed b)
  headers b u = (others.laid_out b u).headers

  pub sized : (b : ℕ) → (placed b).released ≡ false → IsSized (object_placed c (placed b))
  sized b u = typed_size c (placed b) t.known.limits (stands b u).typed

  -- What points into an allocation's storage points into its cell,
  pub hits : (b v : ℕ) → (placed b).released ≡ false → PointsInto v (storage_of c (placed b))
      → pointed_cell c.pages w.now.words.pages v ≡ Some (cell_of_allocation c (placed b))
  hits b v u into = pointers_hit c w.now.words _ t.known.limits (stands b u) (headers b u) v into

  first_part : (b : ℕ) → (placed b).released ≡ false → ShowsPart (object_placed c (placed b)) 0
      (header_in w.now.words ((placed b).base / 64))
  first_part b u = first_page_shows c w.now.words (placed b) (sized b u) (headers b u)

  -- and back.
  pub comes_back : IsMarking w.now.words → (b v : ℕ) → (placed b).released ≡ false
      → pointed_cell c.pages w.now.words.pages v ≡ Some (cell_of_allocation c (placed b))
      → PointsInto v (storage_of c (placed b))
  comes_back early b v u is = pointers_come_back c w.now.words a t.known.limits (stands b u) (headers b u) v
      (by to.header to.shown to.lies.head) is
    where
      a : PlacedAllocation
      a = placed b

      storage : IsStorage c.pages (storage_of c a)
      storage = standing_has_storage c a t.known.limits (stands b u)

      to : PointsTo c.pages w.now.words v (cell_of_allocation c a)
      to = points_to c.pages w.now.words v (cell_of_allocation c a) is

      on_first : a.base / 64 ≡ page_at_address v → stands_on (page_at_address v) (storage_of c a) ≡ true
      on_first at = stands_at_first c.pages (storage_of c a) (page_at_address v) storage at

      by : (h : Header) → header_in w.now.words (page_at_address v) ≡ Some h → a.base / 64 ≡ head_page_under (Some h)
          (page_at_address v) → stands_on (page_at_address v) (storage_of c a) ≡ true
      by (Later distance mapped) shown head =
          let later = t.all.order.laid.scene.later (page_at_address v) distance mapped shown in
          let le = later.0 in
          elim later.1 [
            | inr four ↦ absurd (not_four (phase_of w.now.words) early (eqb-true (phase_of w.now.words) 4 four.0))
            | inl lt ↦
                let counted : distance < run_count (header_in w.now.words (a.base / 64)) =
                subst (λ p. distance < run_count (header_in w.now.words p)) (sym head) lt in
                let part = run_pages distance (first_part b u) counted in
                let large = part.0 in
                let near = part.1 in
                let words : storage_words c a ≡ 64 * pages_made (object_placed c a) =
                large_words (object_placed c a) large in
                let first = (run_begins (object_placed c a) a.base large (stands b u).begins).1 in
                stands_from (page_at_address v) (storage_of c a) (omega arith) (omega arith)
          ]
      by _ shown head = on_first head

  -- If its page's header is scanned, an allocation isn't leaf.
  pub not_leaf : (a : ℕ) → (placed a).released ≡ false
      → has_no_pointers (header_in w.now.words ((placed a).base / 64)) ≡ false → (storage_of c (placed a)).leaf ≡ false
  not_leaf a u scanned =
      let o : Object = object_placed c (placed a) in
      let x : Option Header = header_in w.now.words ((placed a).base / 64) in
      (or_parts o.leaf _ (sym (part_has_no_pointers o x (first_part a u)) ∙ scanned)).0

  -- A word that isn't 0 is held, while a cycle marks.
  pub held : IsMarking w.now.words → (x : ℕ) → slice_index w.now.words.heap x ≢ 0 → IsHeld c w x
  held early = of_one t.known t.all (not_four (phase_of w.now.words) early)
