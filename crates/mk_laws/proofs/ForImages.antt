-- What the layout, the quarantine and the rest say to the images.
use Rattle.mk_laws.proofs.Vocabulary.{Among, AreApart, Bool, Caller, Cell, Claim, Config, Flight, HasHeader, HasZeros}
use Rattle.mk_laws.proofs.Vocabulary.{ImagePremises, IsClaimedRun, IsOfOneCell, IsPlaceOfNone, IsQuarantined, IsShown}
use Rattle.mk_laws.proofs.Vocabulary.{LayoutStands, List, MarksAreClosed, None, Object, Option, Place, PlacedAllocation}
use Rattle.mk_laws.proofs.Vocabulary.{RunPages, RunStands, Some, Unmapping, Used, World, ℕ, address_of, all_below}
use Rattle.mk_laws.proofs.Vocabulary.{all_below_more_is, all_below_zero_is, and_parts, ap, arith, base_made, cases_Bool}
use Rattle.mk_laws.proofs.Vocabulary.{cell_of_allocation, cells_made, claim_of, claims_of, claims_placed, eq-eqb}
use Rattle.mk_laws.proofs.Vocabulary.{eqb-true, false, flight_of, granted, granted_base_is, granted_object}
use Rattle.mk_laws.proofs.Vocabulary.{granted_type, ground_of, has_bit_without, header_at, header_made, inl, inr}
use Rattle.mk_laws.proofs.Vocabulary.{is_large, is_mapped, is_phase, is_released_cell, is_released_in, is_small_object}
use Rattle.mk_laws.proofs.Vocabulary.{is_undecided_new, is_unmapping, kinds_of, large_is_not_small, length, lt-ltb}
use Rattle.mk_laws.proofs.Vocabulary.{mode_of, not, object_made, object_now, object_placed, pages_made, pages_some}
use Rattle.mk_laws.proofs.Vocabulary.{phase_of, place_claim, placed_at, pointed_cell, refl, run_of_allocation}
use Rattle.mk_laws.proofs.Vocabulary.{same_Some, stands, subst, suc, sym, true, typed_size, unmapped_header, zero, ◌&&◌}
use Rattle.mk_laws.proofs.{Vocabulary.{◌+◌, ◌/◌, ◌<◌, ◌==◌, ◌∙◌, ◌∷◌, ◌≡◌, ◌≢◌, ◌≤◌}, Claims.{claim_among, claim_is}}
use Rattle.mk_laws.proofs.{Claims.{first_apart, rest_apart}, LayoutHolders.{holding_object, new_has_turn}}
use Rattle.mk_laws.proofs.{LayoutHolders.seat_operands, Released.{IsStanding, all_stand, place_index}}
use Rattle.mk_laws.proofs.{Serving.{apart_across, apart_left, own_claim, placed_claim}, KnownWorlds.KnownWorld}
use Rattle.mk_laws.proofs.{TellImages.zeros_tell_the_images, Unmapping.shares_run}
use Rattle.mk_core.proofs.{GrantedAllocations.{placed_headers, placed_stands}, PointedAllocations.base_points}
use Rattle.mk_core.specs.NewPlaces.{place_stands}
use Rattle.mk_laws.proofs.{ImagePremises.IsFreedRun, HeldRunGates.HoldsRunGates}
use Rattle.mk_laws.proofs.ImagePremises as images

-- Unreleased allocations of one cell are one.

-- No two numbers have one cell.
pub numbers_apart : (c : Config) (run : Option RunPages) (xs : List PlacedAllocation) (i j : ℕ)
    → AreApart (claims_of c run xs) → (placed_at xs i).released ≡ false → (placed_at xs j).released ≡ false
    → IsOfOneCell (claim_of c run (placed_at xs i)) (claim_of c run (placed_at xs j)) → i ≡ j
numbers_apart c run (x ∷ xs) (suc m) (suc n) apart u v same =
    ap suc (numbers_apart c run xs m n (rest_apart c run x xs apart) u v same)
numbers_apart c run x3 i j apart u v same = grind (arith, first_apart)

-- A large allocation that is freed isn't mapped.
pub gone_is : (c : Config) (a : PlacedAllocation) → a.released ≡ false
    → is_mapped c a ≡ not (a.freed && not (is_small_object (object_placed c a)))
gone_is c a u = ap (λ b. not b && not (a.freed && is_large (kinds_of c.types a.ty))) u
    ∙ ap (λ b. not (a.freed && b)) (large_is_not_small _)

mode_unmapped : (x going : Bool) (o : Object) (d h : ℕ) → not x ≡ false → going ≡ false
    → HasHeader (mode_of x going) o d h → h ≡ unmapped_header (pages_made o) d
mode_unmapped true false o d h e g has = has.1
mode_unmapped _ _ o d h e g has = cc

mode_unmapping : (x going : Bool) → mode_of x going ≡ Unmapping → x ≡ true
mode_unmapping true going e = refl
mode_unmapping false going e = cc

-- What is left of a snapshot's cells is released while the phase is releasing.
pub released_is : (w : World) (cell : Cell) → is_released_cell w.now.words cell
    ≡ is_released_in (is_phase w.now.words 4) w.now.words.snapshot w.now.words.marks cell.page cell.index
released_is w cell = grind (arith, has_bit_without)

module _ (c : Config) (w : World) (known : KnownWorld c w) (laid : LayoutStands c w) where
  abbrev xs : List PlacedAllocation
  xs = w.allocations

  abbrev run : Option RunPages
  run = w.now.seats.holding.freed

  pub shown_claim : (i : ℕ) → (placed_at xs i).released ≡ false
      → IsShown w.now.words.pages (claim_of c run (placed_at xs i))
  shown_claim i u =
      let x : Claim = claim_of c run (placed_at xs i) in
      laid.scene.shown x (own_claim c _ (ground_of w) x (claim_among c run xs i u))

  pub standing : (i : ℕ) → (placed_at xs i).released ≡ false → IsStanding c w.now.words (placed_at xs i)
  standing i u = all_stand c _ _ w known.lengths.pages laid i u

  -- The run that the call frees

  pub run_of : (r : RunPages) → run ≡ Some r → IsClaimedRun (claims_of c run xs) r
  run_of r e = subst (RunStands (claims_of c run xs)) e laid.gone

  freed_run : (r : RunPages) → run ≡ Some r → IsFreedRun c w r
  freed_run r e =
      let x = run_of r e in
      let n = claim_is c run xs x.claim x.among in
      grind (arith, xs, mode_unmapping, and_parts)

  not_going : (i : ℕ) → (placed_at xs i).released ≡ false → is_small_object (object_placed c (placed_at xs i)) ≡ false
      → run ≢ Some (run_of_allocation c (placed_at xs i)) → is_unmapping run ((placed_at xs i).base / 64) ≡ false
  not_going i u large other = by run refl
    where
      by : (r : Option RunPages) → run ≡ r → is_unmapping r ((placed_at xs i).base / 64) ≡ false
      by None e = refl
      by (Some r) e = elim (cases_Bool (r.page == (placed_at xs i).base / 64)) [
        | inr out ↦ out
        | inl here ↦
            let a : PlacedAllocation = placed_at xs i in
            let x = run_of r e in
            let there = eqb-true r.page (a.base / 64) here in
            let mine = own_claim c (object_now c w.now) (ground_of w) (claim_of c run a) (claim_among c run xs i u) in
            let his = own_claim c (object_now c w.now) (ground_of w) x.claim x.among in
            let some = pages_some (object_placed c a) (shown_claim i u).sized in
            let some2 = pages_some x.claim.object (laid.scene.shown x.claim his).sized in
            let page = x.page in
            let same : x.claim ≡ claim_of c run a = shares_run (claim_of c run a) x.claim 0 0 laid.scene mine his large
            (omega arith) (omega arith) (omega arith) in
            let count = sym x.count ∙ ap (λ (y : Claim). pages_made y.object) same in
            absurd (other (e ∙ ap Some (ap (λ p. record { page = p; count = r.count }) there
            ∙ ap (λ k. record { page = a.base / 64; count = k }) count)))
      ]

  pub laid_out : (i : ℕ) → (placed_at xs i).released ≡ false → images.IsLaidOut c w.now.words run (placed_at xs i)
  laid_out i u = grind (arith, xs, gone_is, standing, shown_claim, mode_unmapped, not_going)

  -- The place of an undecided New

  all_stands : (o : Object) (first n : ℕ) → ((d : ℕ) → d < n → header_at w.now.words (first + d) ≡ header_made o d)
      → all_below n (stands w.now.words first (header_made o)) ≡ true
  all_stands o first zero h = all_below_zero_is _
  all_stands o first (suc n) h =
      subst (λ k. all_below k (stands w.now.words first (header_made o)) ≡ true) (omega arith)
      (all_below_more_is n _ (all_stands o first n (λ d lt. h d (omega arith))) (eq-eqb _ _ (h n (omega arith))))

  -- No unreleased allocation begins where another one would stand whose cell is the place's.
  place_alone : (b : PlacedAllocation) (place : Place) → b.ty < length c.types → b.released ≡ false
      → b.base ≡ base_made (object_placed c b) place → place.index < cells_made (object_placed c b)
      → place.page + pages_made (object_placed c b) ≤ c.pages
      → place_stands w.now.words (object_placed c b) place ≡ true → w.now.seats.holding.placing ≡ Used place → (i : ℕ)
      → (placed_at xs i).released ≡ false → (placed_at xs i).base ≢ base_made (object_placed c b) place
  place_alone b place typed v base cell pages stand is i u same =
      let a : PlacedAllocation = placed_at xs i in
      let s = standing i u in
      let one = base_points c w.now.words a known.limits s.stands s.headers in
      let two = base_points c w.now.words b known.limits (placed_stands c b place known.limits typed v base cell pages)
      (placed_headers c w.now.words b place known.limits typed base cell stand) in
      let cells : cell_of_allocation c a ≡ cell_of_allocation c b = cc in
      let at = place_index c b place (typed_size c b known.limits typed) base cell in
      let among : Among (place_claim (object_now c w.now) place)
      (claims_placed (object_now c w.now) w.now.seats.holding.placing) = grind arith in
      let page : a.base / 64 ≡ place.page = ap (λ (x : Cell). x.page) cells ∙ at.0 in
      let index : (cell_of_allocation c a).index ≡ place.index = ap (λ (x : Cell). x.index) cells ∙ at.1 in
      apart_across _ _ _ _ laid.scene.apart (claim_among c run xs i u) among (page, index)

  taken : (place : Place) (k : ℕ) → w.now.seats.holding.placing ≡ Used place → k < c.callers → is_undecided_new
      (flight_of w.now (Caller k)) ≡ true → IsPlaceOfNone c w (object_made c (flight_of w.now (Caller k)).op) place
  taken place k is lt new =
      let f : Flight = flight_of w.now (Caller k) in
      let o : Object = object_made c f.op in
      let object : object_now c w.now ≡ o =
      holding_object c w.now (Caller k) known.now (new_has_turn c w.now (Caller k) (lt-ltb k c.callers lt) new) in
      let among : Among (place_claim (object_now c w.now) place)
      (claims_placed (object_now c w.now) w.now.seats.holding.placing) = grind arith in
      let shown : IsShown w.now.words.pages (place_claim o place) = subst (λ (u : Object). IsShown w.now.words.pages
      (place_claim u place)) object (laid.scene.shown (place_claim (object_now c w.now) place)
      (placed_claim c (object_now c w.now) (ground_of w) (place_claim (object_now c w.now) place) among)) in
      let pages : place.page + pages_made o ≤ c.pages =
      subst (λ n. place.page + pages_made o ≤ n) known.lengths.pages shown.within in
      let b : PlacedAllocation = granted c w.now f in
      let base : b.base ≡ base_made o place = granted_base_is c f w.now.seats.holding.placing place is in
      let e : object_placed c b ≡ o = granted_object c w.now f new in
      let stand : place_stands w.now.words o place ≡ true = all_stands o place.page (pages_made o) shown.headers in
      record {
        index = shown.known;
        pages = pages;
        stands = stand;
        alone = λ i u same. place_alone b place (granted_type c w.now f new
            (seat_operands c w.now (Caller k) known.now)) refl (base ∙ ap (λ (x : Object). base_made x place) (sym e))
            (subst (λ (x : Object). place.index < cells_made x) (sym e) shown.known) (subst (λ (x : Object). place.page
            + pages_made x ≤ c.pages) (sym e) pages) (subst (λ (x : Object). place_stands w.now.words x place ≡ true)
            (sym e) stand) is i u (same ∙ ap (λ (x : Object). base_made x place) (sym e));
      }

  pub say_to_images : IsQuarantined c w → HasZeros c w → HoldsRunGates c w
      → (phase_of w.now.words ≡ 3 → MarksAreClosed c w) → ImagePremises c w
  say_to_images q zeros gates marks = record {
    laid_out = laid_out;
    apart = λ i j u v ne same.
        let si = standing i u in
        let sj = standing j v in
        let one = base_points c w.now.words _ known.limits si.stands si.headers in
        let two = base_points c w.now.words _ known.limits sj.stands sj.headers in
        let cells = same_Some _ _
        (sym one ∙ ap (λ n. pointed_cell c.pages w.now.words.pages (address_of n)) same ∙ two) in
        ne (numbers_apart c run xs i j (apart_left _ _ laid.scene.apart) u v
        (ap (λ (x : Cell). x.page) cells, ap (λ (x : Cell). x.index) cells));
    taken = taken;
    freed_run = freed_run;
    gates = gates;
    shown = q.shown;
    freed = λ cell is. elim (q.owned cell.page cell.index is) [
      | inl f ↦ inl (record { number = f.number; unreleased = f.unreleased; freed = f.freed; cell = f.cell })
      | inr r ↦ inr (released_is w cell ∙ r)
    ];
    kept = λ i u. released_is w (cell_of_allocation c (placed_at xs i)) ∙ kept_at i u _ refl;
    zero_words = zeros_tell_the_images c w zeros;
    marks = marks;
  }
    where
      kept_at : (i : ℕ) → (placed_at xs i).released ≡ false → (b : Bool) → is_phase w.now.words 4 ≡ b
          → is_released_in b w.now.words.snapshot w.now.words.marks (cell_of_allocation c (placed_at xs i)).page
          (cell_of_allocation c (placed_at xs i)).index ≡ false
      kept_at i u true e = q.kept e i u
      kept_at i u false e = refl
