-- `release` on the terrain: an allocation is released exactly if its cell is left unmarked.
use Rattle.mk_laws.proofs.Vocabulary.{Among, BeginsAtCell, Bool, Cell, Claim, Config, HasItsHeaders, IsAtCell, IsShown}
use Rattle.mk_laws.proofs.Vocabulary.{IsSized, IsWithinLimits, List, None, Object, Option, Place, PlacedAllocation}
use Rattle.mk_laws.proofs.Vocabulary.{RunPages, RunStands, Some, StandsOnHeap, Words, World, ℕ, ap, arith, base_made}
use Rattle.mk_laws.proofs.Vocabulary.{cases_Bool, cell_of_allocation, cells_made, claim_of, claims_of, claims_placed}
use Rattle.mk_laws.proofs.Vocabulary.{false, ground_of, has_bit_without, inl, inr, is_released_in, is_small_object}
use Rattle.mk_laws.proofs.Vocabulary.{large_cells, large_words, length, map, object_placed, or_parts, pages_made}
use Rattle.mk_laws.proofs.Vocabulary.{placed_at, refl, released_leaves, released_where_left, run_begins, small}
use Rattle.mk_laws.proofs.Vocabulary.{small_pages, sym, true, true≢false, with_released, words_made, ◌*◌, ◌+◌, ◌/◌, ◌<◌}
use Rattle.mk_laws.proofs.{Vocabulary.{◌∙◌, ◌≡◌, ◌≤◌, ◌⊎◌}, Claims.{LeavesCells, apart_behind, cells_behind}}
use Rattle.mk_laws.proofs.{Claims.{changed_among, claim_among, claim_is, was_claim}, Serving.{Laid, among_back}}
use Rattle.mk_laws.proofs.Serving.{among_front, among_parts, apart_across, apart_joined, apart_left, apart_right}
use Rattle.mk_laws.proofs.{Serving.{own_claim, placed_claim}, LayoutReadings.header_of_mode, Releasing.layout_released}
use Rattle.mk_core.proofs.StandingAllocations.{cell_ends_within, made_begins, placed_cell, run_cell}

-- An unreleased allocation whose claim is shown stands on the heap with its headers.

-- The words of an object end with its pages.
pub ends_on_pages : (o : Object) (base : ℕ) → IsSized o → BeginsAtCell o base
    → base + words_made o ≤ 64 * (base / 64 + pages_made o)
ends_on_pages o base sized b = elim (cases_Bool _) [
  | inl small ↦ omega (arith, cell_ends_within o base sized small b, small_pages o small, b.first)
  | inr large ↦ omega (arith, large_words o large, (run_begins o base large b).1)
]

-- what mk_core asks of an allocation
pub record IsStanding (c : Config) (w : Words) (a : PlacedAllocation) : Type 0 where
  pub stands : StandsOnHeap c a
  pub headers : HasItsHeaders c w a

pub stands_there : {c : Config} (run : Option RunPages) (w : Words) {a : PlacedAllocation} → length w.pages ≡ c.pages
    → IsShown w.pages (claim_of c run a) → a.released ≡ false → IsAtCell c a → IsStanding c w a
stands_there run w {a = a} len shown u at = record {
  stands = record {
    typed = at.typed;
    unreleased = u;
    begins = at.begins;
    within = omega (arith, ends_on_pages _ a.base shown.sized at.begins);
  };
  headers = λ d lt. header_of_mode _ _ d _ (shown.headers d lt);
}

-- The index of its cell, if it is large.
pub large_index : (c : Config) (a : PlacedAllocation) → IsSized (object_placed c a)
    → is_small_object (object_placed c a) ≡ false → (cell_of_allocation c a).index ≡ 0
large_index c a sized large = ap (λ (x : Cell). x.index) (run_cell c a sized large)

-- Its cell has the place's page and index, if it has the place's base.
pub place_index : (c : Config) (a : PlacedAllocation) (place : Place) → IsSized (object_placed c a)
    → a.base ≡ base_made (object_placed c a) place → place.index < cells_made (object_placed c a)
    → (a.base / 64 ≡ place.page) × ((cell_of_allocation c a).index ≡ place.index)
place_index c a place sized base lt =
    let made = made_begins (object_placed c a) place sized lt in (
      rw base made.2,
      ap (λ (x : Cell). x.index) (placed_cell c a sized
          (record { index = made.0.index; known = made.0.known; first = rw base made.0.first })) ∙ made.1,
    )

-- The unreleased allocations stand on the heap, with their headers.
pub all_stand : (c : Config) (o : Object) (releasing : Bool) (w : World) → length w.now.words.pages ≡ c.pages
    → Laid c o releasing w (ground_of w)
    → (i : ℕ) → (placed_at w.allocations i).released ≡ false → IsStanding c w.now.words (placed_at w.allocations i)
all_stand c o releasing w len st i u =
    let x : Claim = claim_of c w.now.seats.holding.freed (placed_at w.allocations i) in
    stands_there w.now.seats.holding.freed w.now.words len (st.scene.shown x
    (own_claim c o (ground_of w) x (claim_among c w.now.seats.holding.freed w.allocations i u))) u (st.cells i u)

pub releasing_leaves : (c : Config) (w : Words) → LeavesCells (with_released c w)
releasing_leaves c w = record { places = released_leaves c w; released = λ a h. (or_parts a.released _ h).0 }

-- whether a release of the allocation's cell releases it
pub left_is : {c : Config} {w : Words} {a : PlacedAllocation} → IsWithinLimits c → IsStanding c w a → (with_released c w
    a).released ≡ is_released_in true w.snapshot w.marks (a.base / 64) (cell_of_allocation c a).index
left_is {c} {w} {a} limits st = released_where_left c w a limits st.stands st.headers ∙ has_bit_without _ _ _

-- a claim goes exactly if its cell is released
pub goes : {c : Config} (run : Option RunPages) (w : Words) (xs : List PlacedAllocation) (x : Claim) → IsWithinLimits c
    → ((i : ℕ) → (placed_at xs i).released ≡ false → IsStanding c w (placed_at xs i)) → Among x (claims_of c run xs)
    → Among x (claims_of c run (map (with_released c w) xs))
    ⊎ (is_released_in true w.snapshot w.marks x.page x.index ≡ true)
goes run w xs x limits stand i = grind (arith, claim_is, changed_among, releasing_leaves, left_is)

pub released_terrain : {c : Config} (o : Object) (w : World) → IsWithinLimits c → length w.now.words.pages ≡ c.pages
    → Laid c o false w (ground_of w) → ((run : RunPages) → w.now.seats.holding.freed ≡ Some run
    → is_released_in true w.now.words.snapshot w.now.words.marks run.page 0 ≡ false)
    → Laid c o true w (record (ground_of w) { allocations = map (with_released c w.now.words) w.allocations })
released_terrain {c} o w limits len st kept =
    let own : List Claim = claims_of c w.now.seats.holding.freed w.allocations in
    let placed : List Claim = claims_placed o w.now.seats.holding.placing in
    record {
      scene = layout_released _ st.scene refl (record {
        fewer = λ x i. elim (among_parts _ placed x i) [
          | inl j ↦ own_claim c o (ground_of w) x (was x j)
          | inr j ↦ placed_claim c o (ground_of w) x j
        ];
        apart = apart_joined _ placed (apart_behind c w.now.seats.holding.freed w.now.seats.holding.freed w.allocations
            (releasing_leaves c w.now.words) (apart_left own placed st.scene.apart)) (apart_right own placed
            st.scene.apart) (λ x y ix iy. apart_across own placed x y st.scene.apart (was x ix) iy);
        gone = λ x i. elim (among_parts own placed x i) [
          | inl j ↦ elim (going x j) [ inl k ↦ inl (among_front _ placed x k) | inr r ↦ inr r ]
          | inr j ↦ inl (among_back _ placed x j)
        ];
      });
      gone = gone w.now.seats.holding.freed refl st.gone;
      first = st.first;
      cells = cells_behind c w.allocations (releasing_leaves c w.now.words) st.cells;
    }
  where
    was : (x : Claim) → Among x
        (claims_of c w.now.seats.holding.freed (map (with_released c w.now.words) w.allocations))
        → Among x (claims_of c w.now.seats.holding.freed w.allocations)
    was x j =
        let n = was_claim c w.now.seats.holding.freed w.allocations x (releasing_leaves c w.now.words) j in
        rw n.is (claim_among c w.now.seats.holding.freed w.allocations n.number n.was)

    going : (x : Claim) → Among x (claims_of c w.now.seats.holding.freed w.allocations)
        → Among x (claims_of c w.now.seats.holding.freed (map (with_released c w.now.words) w.allocations))
        ⊎ (is_released_in true w.now.words.snapshot w.now.words.marks x.page x.index ≡ true)
    going x j = goes w.now.seats.holding.freed w.now.words w.allocations x limits (all_stand c o false w len st) j

    gone : (run : Option RunPages) → w.now.seats.holding.freed ≡ run
        → RunStands (claims_of c w.now.seats.holding.freed w.allocations) run
        → RunStands (claims_of c w.now.seats.holding.freed (map (with_released c w.now.words) w.allocations)) run
    gone None is r = tt
    gone (Some x) is r = elim (going r.claim r.among) [
      | inl j ↦ record { claim = r.claim; among = j; page = r.page; count = r.count; large = r.large; mode = r.mode }
      | inr lost ↦
          let shown = st.scene.shown r.claim (own_claim c o (ground_of w) r.claim r.among) in
          let zero : r.claim.index ≡ 0 = omega (arith, large_cells r.claim.object r.large, shown.known) in
          absurd (true≢false (sym lost ∙ rw r.page (rw zero (kept x is))))
    ]
