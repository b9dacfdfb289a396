-- What each kind of event makes of the terrain.
use Rattle.mk_laws.proofs.Vocabulary.{Bool, Cell, Config, Flight, Granted, Ground, HasLayout, HeadStep, IsSized}
use Rattle.mk_laws.proofs.Vocabulary.{ItCarves, ItDrops, ItEmpties, ItFrees, ItGivesBack, ItTakes, ItTakesSnapshot}
use Rattle.mk_laws.proofs.Vocabulary.{ItUnmaps, LayoutStands, List, None, Object, Option, Page, Place, PlacedAllocation}
use Rattle.mk_laws.proofs.Vocabulary.{Placing, QuarantineStep, RunPages, Seat, Some, Step, Unplaced, Used, UsedStep}
use Rattle.mk_laws.proofs.Vocabulary.{Words, World, ℕ, and_parts, and_right, ap, arith, cases_Bool, cell_freed, chosen}
use Rattle.mk_laws.proofs.Vocabulary.{claims_of, eqb-true, false, false_from_ne_true, flight_of, freed_cell}
use Rattle.mk_laws.proofs.Vocabulary.{freed_where_it_stands, fresh_leaves, granted, granted_base_is, granted_object}
use Rattle.mk_laws.proofs.Vocabulary.{granted_type, ground_of, has_place, head_step, header_at, if◌then◌else◌, inl, inr}
use Rattle.mk_laws.proofs.Vocabulary.{is_decided, is_phase, is_run_gone, is_run_unmapped, is_undecided_new}
use Rattle.mk_laws.proofs.Vocabulary.{is_used_once, length, map, marks_is, marks_place, ne_eqb, no_longer_fresh}
use Rattle.mk_laws.proofs.Vocabulary.{none_freed, not, object_made, object_now, or_else, place_now, placed_now}
use Rattle.mk_laws.proofs.Vocabulary.{quarantine_step, refl, run_of_cell, seat_exists, slice_set, sym, taken, true}
use Rattle.mk_laws.proofs.Vocabulary.{true≢false, undecided_free, undecided_new, used_step, [], ◌%◌, ◌++◌, ◌/◌, ◌<◌}
use Rattle.mk_laws.proofs.{Vocabulary.{◌==◌, ◌^◌, ◌∙◌, ◌∷◌, ◌≡◌, ◌≢◌}, Basics.{Before, Laid, LeavesCells, Meets}}
use Rattle.mk_laws.proofs.Basics.{WorldBehind, first_header, free_has_turn, gone_terrain, grants_new, holding_object}
use Rattle.mk_laws.proofs.Basics.{made_sized, new_has_turn, no_run, none_on_its_way, page_within, placed_undecided}
use Rattle.mk_laws.proofs.Basics.{reg_leaves_ground, tally_ground, with_header_on, with_used_on}
use Rattle.mk_laws.proofs.Freed.{dropped, ended, freed_terrain, unreleasing}
use Rattle.mk_laws.proofs.{LayoutHolders.{giver_has_turn, seat_operands}, Serving.{head_carves, head_empties}}
use Rattle.mk_laws.proofs.{Serving.{head_unmaps, mark_places, used_gives_back, used_takes}, Claims.cells_behind}
use Rattle.mk_laws.proofs.{Granted.granted_terrain, Ground.with_quarantine, LayoutBefore.{LaidBehind, LaidNow}}
use Rattle.mk_laws.proofs.{Released.released_terrain, Sorts.chosen_none}
use Rattle.mk_core.proofs.RegisterAccesses.{LeavesTable}

-- with another quarantine word of a page
abbrev pub with_halves : World → ℕ → ℕ → Ground
with_halves w p n =
    record (ground_of w) {
      freed = slice_set w.now.words.freed p (n % 2 ^ 32);
      snapshot = slice_set w.now.words.snapshot p (n / 2 ^ 32);
    }

first_of_two : {A : Type 0} (x y : Option A) → y ≡ None → x ≡ or_else x y
first_of_two None y e = sym e
first_of_two (Some r) y e = refl

-- A `begin` changes no claim.
pub fresh_cells : LeavesCells no_longer_fresh
fresh_cells = record { places = fresh_leaves; released = λ a h. h }

fresh_claims : (c : Config) (run : Option RunPages) (xs : List PlacedAllocation)
    → claims_of c run (map no_longer_fresh xs) ≡ claims_of c run xs
fresh_claims c run [] = refl
fresh_claims c run (a ∷ xs) = rw (fresh_claims c run xs)

-- Without a place, whose object it is doesn't matter.
pub placeless : {c : Config} {o : Object} (other : Object) {releasing : Bool} {marks : List ℕ} {t : Ground}
    (placing : Placing)
    → t.placing ≡ placing → has_place placing ≡ false → HasLayout c o releasing marks t
    → HasLayout c other releasing marks t × HasLayout c other releasing marks (record t { placing = Unplaced })
placeless other placing is none st = grind arith

pub off_at : (w : World) (n : ℕ) → is_phase w.now.words n ≡ true → n ≢ 4 → is_phase w.now.words 4 ≡ false
off_at w n at ne = let e = eqb-true _ n at in ne_eqb _ 4 (λ four. ne (sym e ∙ four))

module _ (c : Config) (w : World) (seat : Seat) (b : Before c w) (laid : LayoutStands c w) where
  abbrev f : Flight
  f = flight_of w.now seat

  abbrev o : Object
  o = object_made c f.op

  abbrev found : Option Place
  found = place_now c w.now f

  abbrev four : Bool
  four = is_phase w.now.words 4

  -- the object of a seat that serves an undecided New
  own : seat_exists c seat ≡ true → is_undecided_new f ≡ true → object_now c w.now ≡ o
  own there new = holding_object c w.now seat b.known (new_has_turn c w.now seat there new)

  sized : is_undecided_new f ≡ true → IsSized o
  sized new = made_sized c w.now seat b.limits b.known new

  -- other pages, and another placing if no cycle releases
  abbrev PagesBehind : List Page → (Placing → Option Place → Placing) → Bool → Option Place → Type 0
  PagesBehind pages change releasing place = Laid c (object_now c w.now) releasing w (record (ground_of w) {
    pages = pages;
    placing = if releasing then w.now.seats.holding.placing else change w.now.seats.holding.placing place;
  })

  -- `head`
  head_by : {p n : ℕ} → seat_exists c seat ≡ true → p < length w.now.words.pages → HeadStep c w.now f p n
      → PagesBehind (with_header_on w.now.words.pages p n) chosen four found
  head_by {p} {n} there lt (ItCarves off x) =
      let placed = placed_now c w.now f x.place x.there in
      let same = own there placed.new in
      let was = rw off at laid in
      rw off (rw x.there (rw same (head_carves c w (rw same at was) (sized placed.new) placed.placed x.next)))
  head_by {p} {n} there lt (ItUnmaps off x) = rw off (by found refl)
    where
      by : (place : Option Place) → found ≡ place
          → PagesBehind (with_header_on w.now.words.pages p n) chosen false place
      by (Some place) at =
          let new = (placed_now c w.now f place at).new in
          absurd (no_run c w.now seat b.known (new_has_turn c w.now seat there new) (undecided_new f new).stage x.run
          x.there)
      by None at = rw (chosen_none w.now.seats.holding.placing)
          (head_unmaps c (object_now c w.now) false w (rw off at laid) x)
  head_by {p} {n} there lt (ItEmpties on x) = rw on (head_empties c _ w lt (rw on at laid) x)

  -- `used`
  used_by : (p n : ℕ) → seat_exists c seat ≡ true → p < length w.now.words.pages → UsedStep c w.now f p n
      → PagesBehind (with_used_on w.now.words.pages p n) taken four found
  used_by p n there lt (ItTakes off once x) =
      let placed = placed_now c w.now f x.place x.there in
      let same = own there placed.new in
      let size = sized placed.new in
      let was = rw off at laid in
      rw off (rw x.there (rw same (used_takes c o false w x.place p n (rw same at was) size (first_header o size) once
      placed.placed x.taken)))
  used_by p n there lt (ItGivesBack on x) =
      rw on (used_gives_back c (object_now c w.now) w p n lt (rw on at laid) x (b.unreleased on))

  -- `quar`, if none is freed: the allocations are as they were
  left_by : {p n : ℕ} → QuarantineStep c w.now f p n → LaidNow c w (with_halves w p n)
  left_by {p} {n} step = by step
    where
      still : is_phase w.now.words 4 ≡ false → LaidNow c w (with_halves w p n)
      still off = rw off (unreleasing c _ w.now.words.marks w.now.words.marks (ground_of w) _ _ (rw off at laid))

      by : QuarantineStep c w.now f p n → LaidNow c w (with_halves w p n)
      by (ItFrees off x) = still off
      by (ItTakesSnapshot x) = still (ne_eqb _ 4 (λ e. absurd (omega (arith, eqb-true _ 0 x.phase))))
      by (ItDrops on x) =
          let d = dropped c _ w (rw on at laid) x in
          rw on (record { scene = d.scene; gone = d.gone; first = d.first; cells = d.cells })

  -- words that leave the terrain
  kept_ground : {x : Words} → LeavesTable w.now.words x
      → LaidNow c w (record (ground_of w) { pages = x.pages; freed = x.freed; snapshot = x.snapshot })
  kept_ground g = rw g.pages (rw g.freed (rw g.snapshot laid))

  -- each kind of event, whatever the seat
  pub by_kind : (x : Step) → Meets c w.now seat x → LaidBehind c w x (ground_of (WorldBehind c w seat x))
  by_kind (Step.Take x) h = elim (cases_Bool (w.now.words.turn == 0)) [
    | inl is ↦ rw is (rw (b.known.orderly.free (eqb-true w.now.words.turn 0 is)) at laid)
    | inr is ↦ rw is laid
  ]
  by_kind Step.Give h =
      (placeless (object_now c w.now) w.now.seats.holding.placing refl
      (false_from_ne_true (has_place w.now.seats.holding.placing) no_place)
      (gone_terrain c (object_now c w.now) four w (λ run is. unmapped w.now.seats.holding.freed is decides.1) laid)).1
    where
      decides : (is_decided f.stage ≡ true) × (is_run_gone w.now.words w.now.seats.holding.freed ≡ true)
      decides = grind (arith, and_parts)

      no_place : has_place w.now.seats.holding.placing ≡ true → ⊥
      no_place has =
          let turn = giver_has_turn c w.now seat b.known h in
          true≢false (sym decides.0 ∙ rw (undecided_new f (placed_undecided c w.now seat b.known turn has)).stage)

      unmapped : (x : Option RunPages) {run : RunPages} → x ≡ Some run → is_run_gone w.now.words x ≡ true
          → is_run_unmapped w.now.words run ≡ true
      unmapped x {run} is k = grind (arith, and_parts)
  by_kind Step.Reg h = kept_ground (reg_leaves_ground c w seat)
  by_kind (Step.Tally n v) h = kept_ground (tally_ground w.now.words n v)
  by_kind (Step.Head p n) h = head_by h.seat (page_within c w p b h.range) (head_step c w.now _ p n h.holder)
  by_kind (Step.Used p n) h = used_by p n h.seat (page_within c w p b h.range) (used_step c w.now _ p n h.holder)
  by_kind (Step.Quar p n) h = by (cell_freed c.pages w.now.words f p n) refl
    where
      by : (cell : Option Cell) → cell_freed c.pages w.now.words f p n ≡ cell → LaidNow c w (with_quarantine w p n cell)
      by None is = rw (none_freed w.now.words w.allocations) (left_by (quarantine_step c w.now f p n h.holder))
      by (Some cell) is =
          let frees = freed_cell c.pages w.now.words f p n cell is in
          let turn = free_has_turn c w.now seat h.seat frees.free in
          let none = none_on_its_way c w.now seat b.known turn (undecided_free f frees.free).stage in
          let was : Laid c (object_now c w.now) false w (ground_of w) = rw frees.phase at laid in
          let t : Ground = record (ground_of w) {
            run = run_of_cell w.now.words (Some cell);
            allocations = map (freed_where_it_stands w.now.words (Some cell)) w.allocations;
          } in
          let now = freed_terrain c (object_now c w.now) w cell b.limits b.lengths.pages none
          (b.others.target seat cell frees.at) was in
          rw frees.phase (rw (first_of_two (run_of_cell w.now.words (Some cell)) w.now.seats.holding.freed none) at
          (unreleasing c (object_now c w.now) w.now.words.marks w.now.words.marks t
          (slice_set w.now.words.freed p (n % 2 ^ 32)) (slice_set w.now.words.snapshot p (n / 2 ^ 32)) now))
  by_kind Step.Grant h = by w.now.seats.holding.placing refl h.holder
    where
      new : is_undecided_new f ≡ true
      new = grants_new c w.now seat h

      by : (placing : Placing) → w.now.seats.holding.placing ≡ placing → is_used_once placing ≡ true → LaidNow c w
          (record (ground_of w) { placing = Granted; allocations = w.allocations ++ granted c w.now f ∷ [] })
      by (Used place) is k =
          let made = granted_object c w.now f new in
          let same = own h.seat new ∙ sym made in
          let base = granted_base_is c f w.now.seats.holding.placing place is in
          rw same (granted_terrain c four w.now.words.marks (ground_of w) place (granted c w.now f) is (record {
            typed = granted_type c w.now f new (seat_operands c w.now seat b.known);
            base = base ∙ rw (← made);
            freed = refl;
            unreleased = refl;
          }) (rw same at laid))
      by _ is k = cc
  by_kind (Step.Mark p n) h = elim (cases_Bool (marks_place w.now.words o found p n)) [
    | inr is ↦ rw is laid
    | inl is ↦
        let x = marks_is w.now.words o found p n is in
        let placed = placed_now c w.now f x.place x.there in
        let same = own h.seat placed.new in
        let size = sized placed.new in
        let free = ap (header_at w.now.words) (sym x.marked.at) ∙ x.marked.free in
        rw is (rw x.there (rw same
        (mark_places c four w (rw same at laid) size placed.placed free (first_header o size))))
  ]
  by_kind Step.Begin h =
      let same = sym (fresh_claims c w.now.seats.holding.freed w.allocations) in
      record {
        scene = rw same at laid.scene;
        gone = rw same at laid.gone;
        first = laid.first;
        cells = cells_behind c w.allocations fresh_cells laid.cells;
      }
  by_kind Step.Release h =
      released_terrain _ w b.limits b.lengths.pages (rw (off_at w 3 h.phase (λ e. absurd (omega arith))) at laid)
      (λ run is. and_right _ _ (ap not (b.others.marked h.phase run is)))
  by_kind Step.End h = ended c _ w b.lengths.pages (rw h.phase at laid) h.holder
  by_kind _ h = laid
