-- `quar` and `end` on the terrain: an object is freed, a freed run is gone, and released cells are dropped.
use Rattle.std.proofs.Common.{map-id}
use Rattle.mk_laws.proofs.Vocabulary.{Among, Bool, Cell, Claim, Config, Drops, Ground, HasHeader, HasLayout, Header}
use Rattle.mk_laws.proofs.Vocabulary.{IsClaimedRun, IsShown, IsWithinLimits, List, Mode, None, Object, Option}
use Rattle.mk_laws.proofs.Vocabulary.{PlacedAllocation, RunPages, RunStands, ShowsPart, Some, Words, World, ℕ}
use Rattle.mk_laws.proofs.Vocabulary.{all_below-at, and_parts, ap, arith, cases_Bool, cell_of_allocation, cells_under}
use Rattle.mk_laws.proofs.Vocabulary.{claim_of, claims_of, claims_on, cond-true, eq-eqb, eqb-false, eqb-true, false}
use Rattle.mk_laws.proofs.Vocabulary.{first_page_shows, freed_leaves, freed_released, freed_where_it_stands, ground_of}
use Rattle.mk_laws.proofs.Vocabulary.{has_bit, has_bit_without, head_page, header_at, header_in, header_on}
use Rattle.mk_laws.proofs.Vocabulary.{if◌then◌else◌, inl, inr, is_released_in, is_run_unmapped, is_small_object}
use Rattle.mk_laws.proofs.Vocabulary.{is_unmapping, length, map, may_end, mode_of, no_bit, not, not-true, object_placed}
use Rattle.mk_laws.proofs.Vocabulary.{or_cases, pages_made, pages_some, part_cells, placed_at, refl, run_headed}
use Rattle.mk_laws.proofs.Vocabulary.{run_of_cell, set_by, slice_index, slice_set, small, stands, stands_in}
use Rattle.mk_laws.proofs.Vocabulary.{stands_in_its_cell, subst, sym, true, true≢false, unmapped_header, used_at, ◌&&◌}
use Rattle.mk_laws.proofs.Vocabulary.{◌+◌, ◌/◌, ◌<◌, ◌==◌, ◌||◌, ◌∙◌, ◌≡◌, ◌≢◌, ◌⊎◌}
use Rattle.mk_laws.proofs.Claims.{LeavesCells, apart_behind, cells_behind, changed_among, claim_among, claim_is}
use Rattle.mk_laws.proofs.{Claims.was_claim, Serving.{Laid, among_back, among_front, among_parts, apart_across}}
use Rattle.mk_laws.proofs.Serving.{apart_joined, apart_left, apart_right, own_claim, placed_claim}
use Rattle.mk_laws.proofs.{Unmapping.{layout_changed, shares_run}, LayoutReadings.one_claim}
use Rattle.mk_laws.proofs.{Released.{IsStanding, all_stand}, Releasing.layout_ended}
use Rattle.mk_core.proofs.CellsOfAllocations.{stands_in_no_other}
use Rattle.mk_laws.proofs.{LayoutScene.IsUnmappedHeaderOf, Terrain.IsCellOf}

-- While the phase isn't releasing, no cell is released, whatever the snapshot, the freed cells and the marks.
pub unreleasing : (c : Config) (o : Object) (marks other : List ℕ) (t : Ground) (freed snapshot : List ℕ)
    → HasLayout c o false marks t → HasLayout c o false other (record t { freed = freed; snapshot = snapshot })
unreleasing c o marks other t freed snapshot st = grind arith

-- `quar` (c): released cells that aren't used are dropped
pub dropped : (c : Config) (o : Object) (w : World) {p freed n : ℕ} → Laid c o true w (ground_of w)
    → Drops w.now.words p freed n
    → Laid c o true w (record (ground_of w) { snapshot = slice_set w.now.words.snapshot p n })
dropped c o w {p = p} {n = n} st h =
    let s = st.scene in
    record {
      scene = record {
        shown = s.shown;
        apart = s.apart;
        used = λ q k bit. let u = s.used q k bit in (
          u.0,
          elim u.1 [
            | inl own ↦ inl own
            | inr r ↦ grind (arith, and_parts, stays)
          ],
        );
        plot = s.plot;
        occupied = s.occupied;
        later = s.later;
      };
      gone = st.gone;
      first = st.first;
      cells = st.cells;
    }
  where
    stays : (q k : ℕ) → has_bit (used_at w.now.words q) k ≡ true → has_bit (slice_index w.now.words.snapshot q) k ≡ true
        → has_bit (slice_index (slice_set w.now.words.snapshot p n) q) k ≡ true
    stays q k bit was =
        set_by (λ v. has_bit v k ≡ true) w.now.words.snapshot p q n 0 (λ e. elim (cases_Bool (has_bit n k)) [
          | inl is ↦ is
          | inr out ↦ let lost = h.gone k (rw (← e) was) out in absurd (true≢false (sym bit ∙ rw e lost.1))
        ]) was

-- What `end` asks: no cell of a page is left, and one with a header has a used cell at its head.
pub record IsSettledPage (w : Words) (p : ℕ) : Type 0 where
  pub none : (k : ℕ) → is_released_in true w.snapshot w.marks p k ≡ false
  pub used : header_at w p ≢ 0 → used_at w (head_page w p) ≢ 0

pub settled_page : (w : Words) (count p : ℕ) → may_end count w ≡ true → p < count → IsSettledPage w p
settled_page w count p h lt =
    let occupied : Bool = (header_at w p == 0) || not (used_at w (head_page w p) == 0) in
    let parts = and_parts _ occupied (all_below-at count p _ h lt) in
    record {
      none = λ k. sym (has_bit_without _ _ k) ∙ no_bit _ k (eqb-true _ 0 parts.0);
      used = grind (arith, or_cases, eqb-true, eqb-false, not-true);
    }

-- `end`
pub ended : (c : Config) (o : Object) (w : World) → length w.now.words.pages ≡ c.pages → Laid c o true w (ground_of w)
    → may_end c.pages w.now.words ≡ true → Laid c o false w (ground_of w)
ended c o w len st h = record {
  scene = layout_ended st.scene (record {
    none = λ p k lt. (settled_page w.now.words c.pages p h (omega (arith, len))).none k;
    settled = λ p lt some empty. (settled_page w.now.words c.pages p h (omega (arith, len))).used some empty;
  });
  gone = st.gone;
  first = st.first;
  cells = st.cells;
}

-- Allocations whose claims change at most how far they are unmapped.

pub record Remodes (c : Config) (t : Ground) (run : Option RunPages) (g : PlacedAllocation
    → PlacedAllocation) : Type 0 where
  pub leaves : LeavesCells g
  pub keeps : (a : PlacedAllocation) → a.released ≡ false → (g a).released ≡ false
  pub headers : (i : ℕ) → (placed_at t.allocations i).released ≡ false → (d : ℕ)
      → d < pages_made (object_placed c (placed_at t.allocations i))
      → HasHeader (claim_of c t.run (placed_at t.allocations i)).mode (object_placed c (placed_at t.allocations i)) d
      (header_on t.pages ((placed_at t.allocations i).base / 64 + d))
      → HasHeader (claim_of c run (g (placed_at t.allocations i))).mode (object_placed c (placed_at t.allocations i)) d
      (header_on t.pages ((placed_at t.allocations i).base / 64 + d))

pub remoded : {c : Config} {o : Object} {releasing : Bool} {marks : List ℕ} {t : Ground} (run : Option RunPages)
    (g : PlacedAllocation → PlacedAllocation)
    → HasLayout c o releasing marks t → Remodes c t run g → RunStands (claims_of c run (map g t.allocations)) run
    → HasLayout c o releasing marks (record t { run = run; allocations = map g t.allocations })
remoded {c} {o} {t} run g st r stands = record {
  scene = layout_changed _ st.scene (record {
    from = λ y i. elim (among_parts _ _ y i) [
      | inl j ↦ let b = was y j in (b.0, own_claim c o t (record y { mode = b.0 }) b.1)
      | inr j ↦ (y.mode, placed_claim c o t y j)
    ];
    to = λ x i. elim (among_parts _ _ x i) [
      | inl j ↦ let b = now x j in (b.0, among_front _ _ (record x { mode = b.0 }) b.1)
      | inr j ↦ (x.mode, among_back _ _ x j)
    ];
    apart = apart_joined _ _ (apart_behind c t.run run t.allocations r.leaves (apart_left _ _ st.scene.apart))
        (apart_right _ _ st.scene.apart) (λ x y ix iy same.
        apart_across _ _ (record x { mode = (was x ix).0 }) y st.scene.apart (was x ix).1 iy same);
    headers = λ y i d lt. elim (among_parts _ _ y i) [
      | inl j ↦ headers y j d lt
      | inr j ↦ (st.scene.shown y (placed_claim c o t y j)).headers d lt
    ];
  });
  gone = stands;
  first = st.first;
  cells = cells_behind c t.allocations r.leaves st.cells;
}
  where
    same : (i : ℕ) (m : Mode) → record (claim_of c run (g (placed_at t.allocations i))) { mode = m }
        ≡ record (claim_of c t.run (placed_at t.allocations i)) { mode = m }
    same i m =
        let a : PlacedAllocation = placed_at t.allocations i in
        rw (r.leaves.places.base a) (rw (r.leaves.places.ty a))

    was : (y : Claim) → Among y (claims_of c run (map g t.allocations))
        → (m : Mode) × Among (record y { mode = m }) (claims_of c t.run t.allocations)
    was y j =
        let n = was_claim c run t.allocations y r.leaves j in
        let m : Mode = (claim_of c t.run (placed_at t.allocations n.number)).mode in (
          m,
          rw (ap (λ (z : Claim). record z { mode = m }) n.is ∙ same n.number m)
              (claim_among c t.run t.allocations n.number n.was),
        )

    now : (x : Claim) → Among x (claims_of c t.run t.allocations)
        → (m : Mode) × Among (record x { mode = m }) (claims_of c run (map g t.allocations))
    now x j =
        let n = claim_is c t.run t.allocations x j in
        let a : PlacedAllocation = placed_at t.allocations n.number in
        let m : Mode = (claim_of c run (g a)).mode in (
          m,
          rw (ap (λ (z : Claim). record z { mode = m }) n.is ∙ sym (same n.number m))
              (changed_among c run t.allocations n.number r.leaves (r.keeps a n.unreleased)),
        )

    headers : (y : Claim) → Among y (claims_of c run (map g t.allocations)) → (d : ℕ) → d < pages_made y.object
        → HasHeader y.mode y.object d (header_on t.pages (y.page + d))
    headers y j d lt =
        let n = was_claim c run t.allocations y r.leaves j in
        let a : PlacedAllocation = placed_at t.allocations n.number in
        let x : Claim = claim_of c t.run a in
        let m : Mode = (claim_of c run (g a)).mode in
        let is : y ≡ record x { mode = m } = n.is ∙ same n.number m in
        let near : d < pages_made (object_placed c a) = rw is at lt in
        rw is (r.headers n.number n.was d near
        ((st.scene.shown x (own_claim c o t x (claim_among c t.run t.allocations n.number n.was))).headers d near))

-- the run that the header of an object's first page heads
run_small : {o : Object} {x : Option Header} (p : ℕ) → ShowsPart o 0 x → is_small_object o ≡ true
    → run_headed x p ≡ None
run_small p x1 s = grind arith

pub run_large : {o : Object} {x : Option Header} (p : ℕ) → ShowsPart o 0 x → is_small_object o ≡ false
    → run_headed x p ≡ Some (record { page = p; count = pages_made o })
run_large p x4 l = grind (arith, small)

-- While no run is on its way, the header of a claim's page stays right for what it becomes.
moves : (freed now large going : Bool) (o : Object) (d h : ℕ) → (freed ≡ true → now ≡ true)
    → (freed ≡ false → now ≡ true → large ≡ true → going ≡ true)
    → HasHeader (mode_of (freed && large) false) o d h → HasHeader (mode_of (now && large) going) o d h
moves true true true true o d h stays starts has = inr has
moves x0 x1 large going o d h stays starts has = grind arith

pub freeing_leaves : (w : Words) (cell : Option Cell) → LeavesCells (freed_where_it_stands w cell)
freeing_leaves w cell = record { places = freed_leaves w cell; released = λ a h. sym (freed_released w cell a) ∙ h }

-- What stands in the cell of an unreleased allocation has that cell.
pub standing_cell : {c : Config} (o : Object) (w : World) {cell : Cell} → length w.now.words.pages ≡ c.pages
    → IsCellOf c w.allocations cell → Laid c o false w (ground_of w) → (i : ℕ)
    → (placed_at w.allocations i).released ≡ false → stands_in w.now.words cell (placed_at w.allocations i) ≡ true
    → cell_of_allocation c (placed_at w.allocations i) ≡ cell
standing_cell {c} o w {cell = cell} len own st i u h =
    let x = shown own.number own.unreleased in
    let a : PlacedAllocation = placed_at w.allocations own.number in
    let page : a.base / 64 ≡ cell.page = ap (λ (y : Cell). y.page) own.is in
    let part : ShowsPart (object_placed c a) 0 (header_in w.now.words cell.page) = rw page at
    (first_page_shows c w.now.words a x.sized (all_stand c o false w len st own.number own.unreleased).headers) in
    let cells = part_cells (object_placed c a) (header_in w.now.words cell.page) part in
    let index : (cell_of_allocation c a).index ≡ cell.index = ap (λ (y : Cell). y.index) own.is in
    let known : cell.index < cells_under (header_in w.now.words cell.page) = omega arith in
    (stands_in_no_other c w.now.words (placed_at w.allocations i) cell (shown i u).sized
    (all_stand c o false w len st i u).headers known h).1
  where
    shown : (i : ℕ) → (placed_at w.allocations i).released ≡ false
        → IsShown w.now.words.pages (claim_of c w.now.seats.holding.freed (placed_at w.allocations i))
    shown i u =
        let x : Claim = claim_of c w.now.seats.holding.freed (placed_at w.allocations i) in
        st.scene.shown x (own_claim c o (ground_of w) x (claim_among c w.now.seats.holding.freed w.allocations i u))

module _ (c : Config) (o : Object) (w : World) (cell : Cell) (limits : IsWithinLimits c)
    (len : length w.now.words.pages ≡ c.pages) (none : w.now.seats.holding.freed ≡ None)
    (own : IsCellOf c w.allocations cell) (st : Laid c o false w (ground_of w)) where
  abbrev a : PlacedAllocation
  a = placed_at w.allocations own.number

  abbrev frees : PlacedAllocation → PlacedAllocation
  frees = freed_where_it_stands w.now.words (Some cell)

  abbrev Behind : Type 0
  Behind = Laid c o false w
      (record (ground_of w) { run = run_of_cell w.now.words (Some cell); allocations = map frees w.allocations })

  stand : (i : ℕ) → (placed_at w.allocations i).released ≡ false → IsStanding c w.now.words (placed_at w.allocations i)
  stand = all_stand c o false w len st

  among : (i : ℕ) → (placed_at w.allocations i).released ≡ false
      → Among (claim_of c w.now.seats.holding.freed (placed_at w.allocations i)) (claims_on c o (ground_of w))
  among i u = own_claim c o (ground_of w) _ (claim_among c w.now.seats.holding.freed w.allocations i u)

  page : a.base / 64 ≡ cell.page
  page = ap (λ (x : Cell). x.page) own.is

  part : ShowsPart (object_placed c a) 0 (header_in w.now.words cell.page)
  part = grind (arith, page, first_page_shows, stand, among)

  cell_of : (i : ℕ) → (placed_at w.allocations i).released ≡ false → stands_in w.now.words cell
      (placed_at w.allocations i) ≡ true → cell_of_allocation c (placed_at w.allocations i) ≡ cell
  cell_of = standing_cell o w len own st

  stays_unreleased : (b : PlacedAllocation) → b.released ≡ false → (frees b).released ≡ false
  stays_unreleased b u = freed_released w.now.words (Some cell) b ∙ u

  modes : (run : Option RunPages) → ((i : ℕ) → (placed_at w.allocations i).released ≡ false → stands_in w.now.words cell
      (placed_at w.allocations i) ≡ true → is_small_object (object_placed c (placed_at w.allocations i)) ≡ false
      → is_unmapping run ((placed_at w.allocations i).base / 64) ≡ true) → Remodes c (ground_of w) run frees
  modes run going = record {
    leaves = freeing_leaves w.now.words (Some cell);
    keeps = stays_unreleased;
    headers = λ i u d ld has. at (placed_at w.allocations i) d (header_at w.now.words ((placed_at w.allocations i).base
        / 64 + d)) (stands_in w.now.words cell (placed_at w.allocations i)) refl (going i u) (rw none at has);
  }
    where
      at : (a : PlacedAllocation) (d h : ℕ) (b : Bool) → stands_in w.now.words cell a ≡ b
          → (stands_in w.now.words cell a ≡ true → is_small_object (object_placed c a) ≡ false → is_unmapping run
          (a.base / 64) ≡ true) → HasHeader (claim_of c None a).mode (object_placed c a) d h → HasHeader
          (claim_of c run (if b then record a { freed = true; fresh = true } else a)).mode (object_placed c a) d h
      at a d h x3 is go has = grind (arith, moves, not-true)

  by : (is_small_object (object_placed c a) ≡ true) ⊎ (is_small_object (object_placed c a) ≡ false) → Behind
  by (inl small) = rw (run_small cell.page part small) (remoded None frees st (modes None (λ i u h large.
      let there = cell_of i u h in
      let one = one_claim _ _ _ st.scene.apart (among i u) (among own.number own.unreleased)
      (ap (λ (x : Cell). x.page) (there ∙ sym own.is), ap (λ (x : Cell). x.index) (there ∙ sym own.is)) in
      absurd (true≢false (sym small ∙ ap (λ (z : Claim). is_small_object z.object) (sym one) ∙ large)))) tt)
  by (inr large) =
      let run : RunPages = record { page = cell.page; count = pages_made (object_placed c a) } in
      let s = stand own.number own.unreleased in
      let in_cell : stands_in w.now.words cell a ≡ true =
      rw (← own.is) (stands_in_its_cell c w.now.words a limits s.stands s.headers) in
      let freed : PlacedAllocation = record a { freed = true; fresh = true } in
      rw (run_large cell.page part large) (remoded (Some run) frees st
      (modes (Some run) (λ i u h l. eq-eqb cell.page _ (sym (ap (λ (x : Cell). x.page) (cell_of i u h))))) (record {
        claim = claim_of c (Some run) freed;
        among = rw (cond-true _ freed a in_cell) at (changed_among c (Some run) w.allocations own.number
            (freeing_leaves w.now.words (Some cell)) (stays_unreleased a own.unreleased));
        page = page;
        count = refl;
        large = large;
        mode = rw large (rw (eq-eqb cell.page (a.base / 64) (sym page)));
      }))

  pub freed_terrain : Behind
  freed_terrain = by (cases_Bool (is_small_object (object_placed c a)))

-- The run is unmapped, and the call that freed it ends.
pub gone_terrain : (c : Config) (o : Object) (releasing : Bool) (w : World)
    → ((run : RunPages) → w.now.seats.holding.freed ≡ Some run → is_run_unmapped w.now.words run ≡ true)
    → Laid c o releasing w (ground_of w) → Laid c o releasing w (record (ground_of w) { run = None })
gone_terrain c o releasing w unmapped st =
    rw (map-id w.allocations) at (remoded None (λ a. a) st (record {
      leaves = record { places = record { base = λ a. refl; ty = λ a. refl; none = refl }; released = λ a h. h };
      keeps = λ a u. u;
      headers = λ i u d lt has. by w.now.seats.holding.freed refl i u d lt has st.gone;
    }) tt)
  where
    ends : (freed large going : Bool) (o : Object) (d h : ℕ)
        → (freed ≡ true → large ≡ true → going ≡ true → IsUnmappedHeaderOf o d h)
        → HasHeader (mode_of (freed && large) going) o d h → HasHeader (mode_of (freed && large) false) o d h
    ends x1 large going o d h un has = grind arith

    by : (run : Option RunPages) → w.now.seats.holding.freed ≡ run → (i : ℕ) → (placed_at w.allocations i).released
        ≡ false → (d : ℕ) → d < pages_made (object_placed c (placed_at w.allocations i))
        → HasHeader (claim_of c w.now.seats.holding.freed (placed_at w.allocations i)).mode (object_placed c
        (placed_at w.allocations i)) d (header_at w.now.words ((placed_at w.allocations i).base / 64 + d))
        → RunStands (claims_of c w.now.seats.holding.freed w.allocations) w.now.seats.holding.freed
        → HasHeader (claim_of c None (placed_at w.allocations i)).mode (object_placed c (placed_at w.allocations i)) d
        (header_at w.now.words ((placed_at w.allocations i).base / 64 + d))
    by None is i u d lt has r = rw is at has
    by (Some run) is i u d lt has r =
        let a : PlacedAllocation = placed_at w.allocations i in
        let ob : Object = object_placed c a in
        let h : ℕ = header_at w.now.words (a.base / 64 + d) in
        ends a.freed (not (is_small_object ob)) (run.page == a.base / 64) ob d h (λ f l g.
        let large = not-true (is_small_object ob) l in
        let page = eqb-true run.page (a.base / 64) g in
        let x : IsClaimedRun (claims_of c w.now.seats.holding.freed w.allocations) run =
        subst (RunStands (claims_of c w.now.seats.holding.freed w.allocations)) is r in
        let ix = own_claim c o (ground_of w) x.claim x.among in
        let ia = own_claim c o (ground_of w) (claim_of c w.now.seats.holding.freed a)
        (claim_among c w.now.seats.holding.freed w.allocations i u) in
        let some = pages_some x.claim.object (st.scene.shown x.claim ix).sized in
        let xp = x.page in
        let one = shares_run (claim_of c w.now.seats.holding.freed a) x.claim 0 0 st.scene ia ix large (omega arith)
        (omega arith) (omega arith) in
        let count : pages_made ob ≡ run.count = ap (λ (z : Claim). pages_made z.object) (sym one) ∙ x.count in
        let near : d < run.count = omega arith in (
          large,
          rw (← page) (eqb-true (header_at w.now.words (run.page + d)) (unmapped_header run.count d)
              (all_below-at run.count d (stands w.now.words run.page (unmapped_header run.count))
              (unmapped run is) near) ∙ rw (← count)),
        )) (rw is at has)
