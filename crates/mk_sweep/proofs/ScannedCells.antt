-- Where nothing is on its way, the used cells of scanned pages are those of the mapped allocations that aren't leaf.
use Rattle.mk_sweep.proofs.Vocabulary.{Cell, Config, Event, IsHistory, IsScannedWord, IsSettled, PlacedAllocation}
use Rattle.mk_sweep.proofs.Vocabulary.{World, cell_of_allocation, cell_words, cells_under, first_word, has_bit}
use Rattle.mk_sweep.proofs.Vocabulary.{has_no_pointers, header_at, header_in, header_of, is_mapped, is_phase, left}
use Rattle.mk_sweep.proofs.Vocabulary.{never_behind, phase_of, placed_at, storage_of, storage_words, used_at}
use Rattle.mk_cycle.proofs.Below.Laws.Vocabulary.{Among, Bool, Claim, HasHeader, Invariant, IsClaimed, IsShown, IsSized}
use Rattle.mk_cycle.proofs.Below.Laws.Vocabulary.{IsWordOf, List, None, Object, Placing, ShowsPart, ℕ, and_from}
use Rattle.mk_cycle.proofs.Below.Laws.Vocabulary.{and_parts, ap, append-nil, arith, cells_begin, claim_of, claims_of}
use Rattle.mk_cycle.proofs.Below.Laws.Vocabulary.{claims_on, claims_placed, eq-eqb, false, first_page_shows, ground_of}
use Rattle.mk_cycle.proofs.Below.Laws.Vocabulary.{has_place, header_made, header_on, heads_run, inl, inr, is_freed}
use Rattle.mk_cycle.proofs.Below.Laws.Vocabulary.{is_large, is_released_in, is_small_object, is_unmapped_header}
use Rattle.mk_cycle.proofs.Below.Laws.Vocabulary.{kinds_of, large_count, large_is_not_small, made_is_mapped, not}
use Rattle.mk_cycle.proofs.Below.Laws.Vocabulary.{not-true, object_now, object_placed, pages_made, pages_some}
use Rattle.mk_cycle.proofs.Below.Laws.Vocabulary.{part_has_no_pointers, refl, small_heads_none, subst, sym, true}
use Rattle.mk_cycle.proofs.Below.Laws.Vocabulary.{true≢false, typed_size, unmapped_is_unmapped, words_are_zero}
use Rattle.mk_cycle.proofs.Below.Laws.Vocabulary.{words_within, ◌&&◌, ◌++◌, ◌+◌, ◌/◌, ◌<◌, ◌==◌, ◌||◌, ◌∙◌, ◌≡◌, ◌≢◌}
use Rattle.mk_cycle.proofs.Below.Laws.{Vocabulary.◌⊎◌, Claims.{claim_among, claim_is}}
use Rattle.mk_cycle.proofs.Below.Laws.InvariantHistories.{allocations_stand, histories_keep_the_invariant}
use Rattle.mk_cycle.proofs.Below.Laws.{FreeWords.free_cells_are_zero, Freed.gone_terrain}
use Rattle.mk_cycle.proofs.Below.Laws.{KnownWorlds.{KnownWorld, known_world}, MappedWords.mapped_stays}
use Rattle.mk_cycle.proofs.Below.Laws.{ReadingsStands.freed_cell, Serving.{Laid, own_claim}}
use Rattle.mk_cycle.proofs.Below.Laws.{Settled.{unmapped_run, unreleased_are_apart}, TellGuard.guard_in}
use Rattle.mk_cycle.proofs.Below.Laws.{LayoutScene.Unmapped, Terrain.IsCellOf}
use Rattle.mk_cycle.specs.Below.Laws.Theorems.{StandsUsed}
use Rattle.mk_core.proofs.{PointedAllocations.{cell_word_is_its_own, taken_cell_is}, StandingAllocations.cell_is_known}
use Rattle.mk_core.specs.{Cells.is_used, Cycles.is_scanned_allocation, Effects.{is_mapped_cell, is_ungranted}}

-- the mapped allocation that isn't leaf and has this cell
pub record OfScanned (c : Config) (xs : List PlacedAllocation) (cell : Cell) : Type 0 where
  pub number : ℕ
  pub scanned : is_scanned_allocation c (placed_at xs number) ≡ true
  pub is : cell_of_allocation c (placed_at xs number) ≡ cell

-- the allocation's cell is a used one of a scanned page, and has its words
pub record StandsScanned (c : Config) (w : World) (a : PlacedAllocation) : Type 0 where
  pub page : (cell_of_allocation c a).page < c.pages
  pub index : (cell_of_allocation c a).index < cells_under (header_in w.now.words (cell_of_allocation c a).page)
  pub used : is_used w.now.words (cell_of_allocation c a) ≡ true
  pub scanned : has_no_pointers (header_in w.now.words (cell_of_allocation c a).page) ≡ false
  pub first : first_word w.now.words (cell_of_allocation c a) ≡ a.base
  pub words : cell_words w.now.words (cell_of_allocation c a) ≡ storage_words c a

neither : (a b : Bool) → (a || b) ≡ false → (a ≡ false) × (b ≡ false)
neither x0 b h = grind arith

-- No New has a place, so the claims are those of allocations.
unplaced_claims : (c : Config) (o : Object) (placing : Placing) (xs : List Claim) (x : Claim) → has_place placing ≡
    false → Among x (xs ++ claims_placed o placing) → Among x xs
unplaced_claims c o x2 xs x none among = grind (arith, append-nil)

none_ungranted : (placing : Placing) (cell : Cell) → has_place placing ≡ false → is_ungranted placing cell ≡ false
none_ungranted x0 cell none = grind arith

module _ (c : Config) (es : List Event) (h : IsHistory c es) (settled : IsSettled (left c es)) where
  abbrev w : World
  w = left c es

  abbrev xs : List PlacedAllocation
  xs = (left c es).allocations

  all : Invariant c (left c es) (never_behind c es)
  all = histories_keep_the_invariant c es h

  known : KnownWorld c (left c es)
  known = known_world c es h.within_limits h.enabled

  quiet : phase_of (left c es).now.words ≢ 4
  quiet four = true≢false (sym (eq-eqb (phase_of (left c es).now.words) 4 four) ∙ settled.releasing)

  -- A used bit is that of an unreleased allocation's cell.
  pub used_is_taken : (p k : ℕ) → has_bit (used_at (left c es).now.words p) k ≡ true
      → IsCellOf c (left c es).allocations (record { page = p; index = k })
  used_is_taken p k bit = by (all.order.laid.scene.used p k bit).1
    where
      by : IsClaimed (claims_on c (object_now c w.now) (ground_of w)) p k ⊎ (is_released_in (is_phase w.now.words 4)
          w.now.words.snapshot w.now.words.marks p k ≡ true) → IsCellOf c xs (record { page = p; index = k })
      by (inl o) =
          let among = unplaced_claims c (object_now c w.now) w.now.seats.holding.placing
          (claims_of c w.now.seats.holding.freed xs) o.claim settled.placing o.among in
          let x = claim_is c w.now.seats.holding.freed xs o.claim among in
          record {
            number = x.number;
            unreleased = x.unreleased;
            is =
                ap (λ (y : Claim). record { page = y.page; index = y.index }) (sym x.is) ∙ ap (λ (i : ℕ). record
                { page = i; index = o.claim.index }) o.page ∙ ap (λ (i : ℕ). record { page = p; index = i }) o.index;
          }
      by (inr r) = grind arith

  stands : (i : ℕ) → (placed_at (left c es).allocations i).released ≡ false
      → StandsUsed c (left c es) (placed_at (left c es).allocations i)
  stands = allocations_stand c es h

  sized : (i : ℕ) → (placed_at (left c es).allocations i).released ≡ false
      → IsSized (object_placed c (placed_at (left c es).allocations i))
  sized i u = typed_size c (placed_at xs i) h.within_limits (stands i u).stands.typed

  first_part : (i : ℕ) → (placed_at (left c es).allocations i).released ≡ false
      → ShowsPart (object_placed c (placed_at (left c es).allocations i)) 0
      (header_in (left c es).now.words ((placed_at (left c es).allocations i).base / 64))
  first_part i u = first_page_shows c w.now.words (placed_at xs i) (sized i u) (stands i u).headers

  -- The pages of a freed large object are unmapped.

  rested : Laid c (object_now c (left c es).now) false (left c es) (record (ground_of (left c es)) { run = None })
  rested =
      gone_terrain c (object_now c w.now) false w (unmapped_run w settled.unmapped)
      (subst (λ b. Laid c (object_now c w.now) b w (ground_of w)) settled.releasing all.order.laid)

  shown : (i : ℕ) → (placed_at (left c es).allocations i).released ≡ false
      → IsShown (left c es).now.words.pages (claim_of c None (placed_at (left c es).allocations i))
  shown i u =
      rested.scene.shown (claim_of c None (placed_at xs i)) (own_claim c (object_now c w.now)
      (record (ground_of w) { run = None }) (claim_of c None (placed_at xs i)) (claim_among c None xs i u))

  freed_is_unmapped : (i : ℕ) → (placed_at (left c es).allocations i).released ≡ false → ((placed_at (left c
      es).allocations i).freed && not (is_small_object (object_placed c (placed_at (left c es).allocations i)))) ≡ true
      → is_unmapped_header (header_in (left c es).now.words ((placed_at (left c es).allocations i).base / 64)) ≡ true
  freed_is_unmapped i u gone =
      let a : PlacedAllocation = placed_at xs i in
      let o : Object = object_placed c a in
      let some = pages_some o (sized i u) in
      let has : HasHeader Unmapped o 0 (header_on w.now.words.pages (a.base / 64 + 0)) = grind (arith, shown) in
      let here : a.base / 64 + 0 ≡ a.base / 64 = omega arith in
      cc (here, has.1, unmapped_is_unmapped (pages_made o) 0 (large_count o (sized i u) has.0) (omega arith))

  -- So the used cell of a scanned page is that of a mapped allocation that isn't leaf,
  pub used_cell : (p k : ℕ) → has_bit (used_at (left c es).now.words p) k ≡ true → has_no_pointers
      (header_in (left c es).now.words p) ≡ false → OfScanned c (left c es).allocations (record { page = p; index = k })
  used_cell p k bit scanned =
      let x = used_is_taken p k bit in
      let a : PlacedAllocation = placed_at xs x.number in
      let page : a.base / 64 ≡ p = ap (λ (y : Cell). y.page) x.is in
      let sort = neither (object_placed c a).leaf (is_unmapped_header (header_in w.now.words (a.base / 64)))
      (sym (part_has_no_pointers (object_placed c a) (header_in w.now.words (a.base / 64)) (first_part x.number
      x.unreleased)) ∙ ap (λ q. has_no_pointers (header_in w.now.words q)) page ∙ scanned) in
      record {
        number = x.number;
        scanned = and_from (is_mapped c a) (not (storage_of c a).leaf)
            (grind (arith, xs, and_from, large_is_not_small, freed_is_unmapped)) (ap not sort.0);
        is = x.is;
      }

  -- whose words are those of the cell;
  pub used_word : (p k i : ℕ) → has_bit (used_at (left c es).now.words p) k ≡ true
      → has_no_pointers (header_in (left c es).now.words p) ≡ false
      → i < cell_words (left c es).now.words (record { page = p; index = k })
      → IsScannedWord c (left c es).allocations (first_word (left c es).now.words (record { page = p; index = k }) + i)
  used_word p k i bit scanned lt =
      let x = used_cell p k bit scanned in
      let a : PlacedAllocation = placed_at xs x.number in
      let mapped = (and_parts (is_mapped c a) (not (storage_of c a).leaf) x.scanned).0 in
      let st = stands x.number (mapped_stays c a mapped) in
      record {
        number = x.number;
        scanned = x.scanned;
        word = subst (λ (y : Cell). IsWordOf (storage_of c a) (first_word w.now.words y + i)) x.is
            (cell_word_is_its_own c w.now.words a h.within_limits st.stands st.headers i
            (subst (λ (y : Cell). i < cell_words w.now.words y) (sym x.is) lt));
      }

  -- and each such allocation has a used cell of a scanned page.
  pub scanned_stands : (i : ℕ) → is_scanned_allocation c (placed_at (left c es).allocations i) ≡ true
      → StandsScanned c (left c es) (placed_at (left c es).allocations i)
  scanned_stands i is =
      let a : PlacedAllocation = placed_at xs i in
      let o : Object = object_placed c a in
      let parts = and_parts (is_mapped c a) (not (storage_of c a).leaf) is in
      let u = mapped_stays c a parts.0 in
      let st = stands i u in
      let m = (guard_in c w known all.order.laid all.zeros).mapped i parts.0 in
      let some = pages_some o (sized i u) in
      let here : a.base / 64 + 0 ≡ a.base / 64 = omega arith in
      let made : header_at w.now.words (a.base / 64) ≡ header_made o 0 = grind arith in
      let cells = cells_begin c w.now.words a h.within_limits st.stands st.headers in
      let size = words_within o (sized i u) in
      record {
        page = let end = st.stands.within in omega arith;
        index = cell_is_known c w.now.words a (sized i u) st.stands.begins st.headers;
        used = st.used;
        scanned =
            part_has_no_pointers o _ (first_part i u) ∙ ap (λ b. b || is_unmapped_header
            (header_in w.now.words (a.base / 64))) (not-true (storage_of c a).leaf parts.1)
            ∙ ap (λ n. is_unmapped_header (header_of n)) made ∙ made_is_mapped o 0 (sized i u) (omega arith);
        first = cells.0;
        words = cells.1;
      }

  -- A look at one of its words gives a hand.
  pub mapped_cell : (i : ℕ) → is_scanned_allocation c (placed_at (left c es).allocations i) ≡ true
      → is_mapped_cell (left c es).now.words (left c es).now.seats.holding.placing
      (cell_of_allocation c (placed_at (left c es).allocations i)) ≡ true
  mapped_cell i is =
      let a : PlacedAllocation = placed_at xs i in
      let cell : Cell = cell_of_allocation c a in
      let parts = and_parts (is_mapped c a) (not (storage_of c a).leaf) is in
      let u = mapped_stays c a parts.0 in
      and_from (is_used w.now.words cell && not (heads_run (header_in w.now.words cell.page) && is_freed
      w.now.words cell)) (not (is_ungranted w.now.seats.holding.placing cell))
      (and_from (is_used w.now.words cell) (not (heads_run (header_in w.now.words cell.page) && is_freed
      w.now.words cell)) (stands i u).used (ap not (by u parts.0 (heads_run (header_in w.now.words cell.page)) refl
      (is_freed w.now.words cell) refl))) (ap not (none_ungranted w.now.seats.holding.placing cell settled.placing))
    where
      a : PlacedAllocation
      a = placed_at xs i

      freed_there : (placed_at xs i).released ≡ false → is_freed w.now.words (cell_of_allocation c (placed_at xs
          i)) ≡ true → (placed_at xs i).freed ≡ true
      freed_there u bit =
          let o = freed_cell c w (never_behind c es) known all quiet (cell_of_allocation c (placed_at xs i)) bit in
          let same = unreleased_are_apart c es all.order.laid o.number i o.unreleased u o.cell in
          ap (λ j. (placed_at xs j).freed) (sym same) ∙ o.freed

      by : (placed_at xs i).released ≡ false → is_mapped c (placed_at xs i) ≡ true → (b : Bool)
          → heads_run (header_in w.now.words (cell_of_allocation c (placed_at xs i)).page) ≡ b → (d : Bool)
          → is_freed w.now.words (cell_of_allocation c (placed_at xs i)) ≡ d
          → (heads_run (header_in w.now.words (cell_of_allocation c (placed_at xs i)).page)
          && is_freed w.now.words (cell_of_allocation c (placed_at xs i))) ≡ false
      by u mapped false e d f = ap (λ x. x && is_freed w.now.words (cell_of_allocation c (placed_at xs i))) e
      by u mapped true e false f = ap (λ x. x && is_freed w.now.words (cell_of_allocation c (placed_at xs i))) e ∙ f
      by u mapped true e true f =
          let kept = (and_parts (not a.released) (not (a.freed && is_large (kinds_of c.types a.ty))) mapped).1 in
          let small : is_large (kinds_of c.types a.ty) ≡ false =
          cc (freed_there u f, not-true (a.freed && is_large (kinds_of c.types a.ty)) kept) in
          let none = (small_heads_none (object_placed c a) 0 (header_in w.now.words (a.base / 64)) (first_part i u)
          (is_small (is_small_object (object_placed c a)) (sym (large_is_not_small (kinds_of c.types a.ty)) ∙
          small))).0 in
          absurd (true≢false (sym e ∙ none))
        where
          is_small : (b : Bool) → not b ≡ false → b ≡ true
          is_small x0 e = grind arith

  -- Words of a cell that isn't used are 0.
  pub unused_is_zero : (cell : Cell) → cell.index < cells_under (header_in (left c es).now.words cell.page)
      → is_used (left c es).now.words cell ≡ false → words_are_zero (left c es).now.words
      (first_word (left c es).now.words cell) (cell_words (left c es).now.words cell) ≡ true
  unused_is_zero cell in_range none =
      free_cells_are_zero c es h quiet cell in_range (λ t.
      let a : PlacedAllocation = placed_at xs t.number in
      let u = not-true a.released (and_parts (not a.released) (a.base == first_word w.now.words cell) t.stands).0 in
      let own = taken_cell_is c w cell t (sized t.number u) (stands t.number u).headers in
      true≢false (sym (stands t.number u).used ∙ ap (is_used w.now.words) own.1 ∙ none))
