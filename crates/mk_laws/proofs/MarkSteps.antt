-- What a step marks is touched: what the holder's hand or a marker's points into, or a cell without an allocation.
use Rattle.mk_laws.proofs.Vocabulary.{Bool, Caller, Cell, Config, Flight, Hand, Marker, MarkerStands, MarkerState}
use Rattle.mk_laws.proofs.Vocabulary.{Moment, NeverState, None, Null, Object, Option, Place, PlacedAllocation}
use Rattle.mk_laws.proofs.Vocabulary.{PointsInto, Seat, Some, Stage, Step, Words, World, ℕ, address_of, and_parts, ap}
use Rattle.mk_laws.proofs.Vocabulary.{arith, at_rest, bases_of, bit, cases_Bool, cell_at, cell_of_allocation, cell_seen}
use Rattle.mk_laws.proofs.Vocabulary.{d_of, eqb-true, false, first_page_shows, flight_among, flight_of, get_or-set_same}
use Rattle.mk_laws.proofs.Vocabulary.{granted, granted_base, has_bit, header_at, image_of, inl, inr, is_marked, is_some}
use Rattle.mk_laws.proofs.Vocabulary.{is_some_and, is_unmarked, length, ltb-true, marker_of, marks_place, object_made}
use Rattle.mk_laws.proofs.Vocabulary.{object_placed, part_not_free, place_now, placed_at, pointed_cell, refl, seen_bit}
use Rattle.mk_laws.proofs.Vocabulary.{seen_page, shown, slice_index, slice_index_or, storage_of, subst, sym, true}
use Rattle.mk_laws.proofs.Vocabulary.{words_within, ◌%◌, ◌*◌, ◌+◌, ◌/◌, ◌<◌, ◌^◌, ◌||◌, ◌∙◌, ◌≡◌}
use Rattle.mk_laws.proofs.Basics.{Behind, Came, IsNew, Stayed, Table, WorldBehind, reg_table, same_cell, tally_table}
use Rattle.mk_laws.proofs.Precise.{IsPrecise, PointsOnlyInto, Steps, came_behind, points_before}
use Rattle.mk_laws.proofs.{Worlds.{comes_back, headers, sized, stands}, GuardHistories.{left_fails, seen_cell}}
use Rattle.mk_geom.proofs.PointedCells.{address_points_into}
use Rattle.mk_core.proofs.{WordBits.{bit_of_cell, bit_of_power, more_bits}, ChangedAllocations.granted_at}
use Rattle.mk_core.proofs.{RegisterAccesses.register_is_small, ServingSteps.place_marked}
use Rattle.mk_core.specs.MarkingConditions.{marks_by_hand}

-- The allocation that a grant adds is touched: its caller's register points to it at the moment after.

-- a register that a call has and doesn't owe
given : (f : Flight) (d r x : ℕ) → f.stage ≡ Stage.Give → shown f r x ≡ x
given f d r x at = ap (λ s. shown (record f { stage = s }) r x) at

granted_points : (c : Config) (w : World) (n : NeverState) (k : ℕ) (after : NeverState) (T : ℕ → Type 0)
    → Steps c w n (Caller k) Step.Grant after T
    → (placed_at (WorldBehind c w (Caller k) Step.Grant).allocations (length w.allocations)).released ≡ false
    → T (length w.allocations)
granted_points c w n k after T s u =
    let v : World = WorldBehind c w (Caller k) Step.Grant in
    let i : ℕ = length w.allocations in
    let a : PlacedAllocation = placed_at v.allocations i in
    let f : Flight = flight_of w.now (Caller k) in
    let d : ℕ = d_of f.op in
    let d_small : d < 8 = register_is_small c f Stage.Put (s.before.known.now.operands k) in
    let there : k < c.callers = ltb-true k c.callers s.meets.seat in
    let base : ℕ = granted_base c f w.now.seats.holding.placing in
    let is : a ≡ granted c w.now f = granted_at w.allocations (granted c w.now f) in
    let word : slice_index v.now.words.registers (8 * k + d) ≡ address_of base % 2 ^ 64 =
    let few = s.before.known.now.small in
    let count = s.before.known.lengths.registers in
    get_or-set_same w.now.words.registers (8 * k + d) _ 0 (omega (arith, there, d_small)) in
    let fits : address_of base % 2 ^ 64 ≡ address_of base =
    let within = (stands c v after s.behind i u).within in
    let at : a.base ≡ base = rw is in
    let pages = s.before.known.limits.pages in
    omega arith in
    let flight : flight_among v.now.seats.flights k ≡ record f { stage = Stage.Give } =
    get_or-set_same w.now.seats.flights k (record f { stage = Stage.Give }) at_rest
    (let count = s.before.known.now.orderly.flights in omega (arith, there)) in
    let image : image_of (bases_of v.allocations) (slice_index_or after.registers (8 * k + d) Null) ≡ address_of base =
    let own : (8 * k + d) / 8 ≡ k = let lt = d_small in omega arith in
    let stage : (flight_among v.now.seats.flights ((8 * k + d) / 8)).stage ≡ Stage.Give = rw own (rw flight) in
    sym (s.behind.all.mirrors.images.registers (8 * k + d))
    ∙ given (flight_among v.now.seats.flights ((8 * k + d) / 8)) d ((8 * k + d) % 8) _ stage ∙ word ∙ fits in
    let into : PointsInto (address_of base) (storage_of c a) =
    let some = (words_within (object_placed c a) (sized c v after s.behind i u)).0 in
    let at : a.base ≡ base = rw is in
    subst (λ y. PointsInto (address_of y) (storage_of c a)) at
    ((address_points_into a.base (storage_of c a)).1 (omega arith, omega arith)) in
    s.there.registers (8 * k + d) i (u, rw image into)

pub new_is_touched : (c : Config) (w : World) (n : NeverState) (seat : Seat) (x : Step) (after : NeverState)
    (T : ℕ → Type 0) (i : ℕ) → Steps c w n seat x after T → x ≡ Step.Grant → i ≡ length w.allocations
    → (placed_at (WorldBehind c w seat x).allocations i).released ≡ false → T i
new_is_touched c w n (Marker k) Step.Grant after T i s is at u = let kind = s.meets.kind in cc
new_is_touched c w n seat x4 after x6 i s is at u = grind (arith, granted_points, and_parts)

-- What pointed only into members still does after a step.
pub points_behind : (c : Config) (w : World) (n : NeverState) (seat : Seat) (x : Step) (after : NeverState)
    (T : ℕ → Type 0) (v : ℕ) → Steps c w n seat x after T
    → PointsOnlyInto c w.allocations T v → PointsOnlyInto c (WorldBehind c w seat x).allocations T v
points_behind c w n seat x after T v s only b points = by (came_behind c w seat x b points.0)
  where
    by : Came w.allocations (WorldBehind c w seat x).allocations x b → T b
    by (Stayed was same) = only b (was, points_before c v same points.1)
    by (IsNew grant at) = new_is_touched c w n seat x after T b s grant at points.0

-- three kinds change marks
abbrev pub is_of_marks : Step → Bool
is_of_marks (Step.Clear p) = true
is_of_marks (Step.Mark p v) = true
is_of_marks Step.Mmark = true
is_of_marks _ = false

pub marks_same : (c : Config) (m : Moment) (seat : Seat) (x : Step) → is_of_marks x ≡ false
    → (Behind c m seat x).words.marks ≡ m.words.marks
marks_same c m seat Step.Reg out = ap (λ (t : Table). t.marks) (reg_table c m seat)
marks_same c m seat (Step.Tally n v) out = ap (λ (t : Table). t.marks) (tally_table m.words n v)
marks_same c m seat _ out = cc

-- `mark` by the hand

-- A hand that marks, and doesn't sweep
record MarksWith (w : Words) (pages : ℕ) (hand : Option Hand) (page value : ℕ) : Type 0 where
  holds : Hand
  there : hand ≡ Some holds
  unswept : is_unmarked holds.source ≡ false
  cell : (k : ℕ) → has_bit value k ≡ true
      → pointed_cell pages w.pages holds.value ≡ Some (record { page = page; index = k })

hand_marks : (w : Words) (pages : ℕ) (hand : Option Hand) (page value : ℕ) → marks_by_hand pages w hand page
    value ≡ true → is_some_and (λ (h : Hand). is_unmarked h.source) hand ≡ false → MarksWith w pages hand page value
hand_marks w pages None page value h unswept = cc
hand_marks w pages (Some x) page value h unswept = grind (arith, and_parts, eqb-true, bit_of_power)

left_holds : (a b : Bool) → (a || b) ≡ true → b ≡ false → a ≡ true
left_holds true b h none = refl
left_holds false b h none = cc

-- a place that is marked has no header yet
place_is_free : (w : Words) (o : Object) (place : Option Place) (page value : ℕ)
    → marks_place w o place page value ≡ true → header_at w page ≡ 0
place_is_free w o None page value h = cc
place_is_free w o (Some x) page value h = (place_marked w o x page value h).free

-- `mmark`: the cell that was seen is the one of now
record MarksSeen (c : Config) (w : Words) (x : MarkerState) (k : ℕ) : Type 0 where
  value : ℕ
  there : x.hand ≡ Some value
  cell : pointed_cell c.pages w.pages value ≡ Some (record { page = seen_page (cell_seen c x.seen x.hand); index = k })

seen_marks : {c : Config} {m : Moment} {x : MarkerState} (k : ℕ) → MarkerStands c m x
    → has_bit (seen_bit (cell_seen c x.seen x.hand)) k ≡ true
    → is_some (cell_seen c x.seen x.hand) ≡ true → MarksSeen c m.words x k
unfolding pointed_cell
seen_marks {c} {m} {x} k stand bit own =
    let s = seen_cell c x own in
    let page : seen_page (cell_seen c x.seen x.hand) ≡ s.cell.page = rw s.is in
    let same : k ≡ s.cell.index = bit_of_cell s.cell.index k (rw s.is at bit) in
    record {
      value = s.value;
      there = s.hand;
      cell = ap (λ p. cell_at c.pages (header_at m.words p) s.value) (sym (eqb-true s.under.page _ s.near))
          ∙ (stand.seen s.under s.seen).cell s.value s.cell s.at ∙ rw (page, same);
    }

module _ {c : Config} {w : World} (n : NeverState) {T : ℕ → Type 0} (precise : IsPrecise c w T) where
  -- Whatever of it stands there, a cell that is marked is touched.
  abbrev MarksTouched : Seat → Step → Type 0
  MarksTouched seat x = (b : ℕ) → (placed_at w.allocations b).released ≡ false → has_bit
      (slice_index (WorldBehind c w seat x).now.words.marks (cell_of_allocation c (placed_at w.allocations b)).page)
      (cell_of_allocation c (placed_at w.allocations b)).index ≡ true → T b

  marks_touched : (seat : Seat) (x : Step) (after : NeverState) → ((j : ℕ) → MarkerStands c w.now (marker_of w.now j))
      → Steps c w n seat x after T → MarksTouched seat x
  marks_touched seat (Step.Mark p v) after stand s b u bit =
      let cell : Cell = cell_of_allocation c (placed_at w.allocations b) in
      let o : Object = object_made c (flight_of w.now seat).op in
      let place : Option Place = place_now c w.now (flight_of w.now seat) in
      elim (more_bits w.now.words.marks p v cell.page cell.index bit) [
        | inl old ↦ precise.marked b u old
        | inr new ↦ elim (cases_Bool (marks_place w.now.words o place p v)) [
          | inl placed ↦
              let part = first_page_shows c w.now.words (placed_at w.allocations b) (sized c w n s.before b u)
              (headers c w n s.before b u) in
              absurd (part_not_free (object_placed c (placed_at w.allocations b)) 0
              (header_at w.now.words cell.page) part (rw new.0 (place_is_free w.now.words o place p v placed)))
          | inr unplaced ↦
              let hand : Option Hand = w.now.seats.holding.hand in
              let h = hand_marks w.now.words c.pages hand p v (left_holds _ _ s.meets.holder unplaced)
              (left_fails (is_some_and (λ (y : Hand). is_unmarked y.source) hand) _ s.unswept unplaced) in
              precise.hand h.holds h.there h.unswept b (
                u,
                comes_back c w n s.before s.early b h.holds.value u (h.cell cell.index new.1 ∙ rw (← new.0)),
              )
        ]
      ]
  marks_touched (Marker j) Step.Mmark after stand s b u bit =
      let cell : Cell = cell_of_allocation c (placed_at w.allocations b) in
      let y : Option Cell = cell_seen c (marker_of w.now j).seen (marker_of w.now j).hand in
      elim (more_bits w.now.words.marks (seen_page y) (seen_bit y) cell.page cell.index bit) [
        | inl old ↦ precise.marked b u old
        | inr new ↦
            let m = seen_marks cell.index (stand j) new.1 s.meets.marker in
            let at : pointed_cell c.pages w.now.words.pages m.value ≡ Some cell = m.cell ∙ rw (← new.0) in
            (precise.markers j).hand m.value m.there b (u, comes_back c w n s.before s.early b m.value u at)
      ]
  marks_touched _ Step.Mmark after stand s b u bit = let kind = s.meets.kind in cc
  marks_touched seat (Step.Clear p) after stand s b u bit =
      let zero = eqb-true _ 0 s.meets.phase in absurd (omega arith)
  marks_touched seat x after stand s b u bit = rest x refl b u bit
    where
      rest : (x : Step) → is_of_marks x ≡ false → MarksTouched seat x
      rest x out b u bit = precise.marked b u (rw (marks_same c w.now seat x out) at bit)

  pub marked_behind : {seat : Seat} {x : Step} {after : NeverState}
      → ((j : ℕ) → MarkerStands c w.now (marker_of w.now j)) → Steps c w n seat x after T → (b : ℕ)
      → (placed_at (WorldBehind c w seat x).allocations b).released ≡ false → is_marked (WorldBehind c w seat
      x).now.words (cell_of_allocation c (placed_at (WorldBehind c w seat x).allocations b)) ≡ true → T b
  marked_behind {seat} {x} {after} stand s b u marked = by (came_behind c w seat x b u)
    where
      a : PlacedAllocation
      a = placed_at (WorldBehind c w seat x).allocations b

      by : Came w.allocations (WorldBehind c w seat x).allocations x b → T b
      by (IsNew grant at) = new_is_touched c w n seat x after T b s grant at u
      by (Stayed was same) = marks_touched seat x after stand s b was
          (subst (λ (y : Cell). is_marked (WorldBehind c w seat x).now.words y ≡ true)
          (same_cell c (placed_at w.allocations b) a same.base same.ty) marked)
