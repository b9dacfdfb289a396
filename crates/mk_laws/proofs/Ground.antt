-- What one event leaves of the allocations, and what it may do to what stands on the pages and to the quarantine, by
-- the conditions under which it does so.
use Rattle.std.proofs.Common.{length-append}
use Rattle.mk_laws.proofs.Vocabulary.{Bool, Cell, Config, Flight, Granted, Ground, LeavesPlaces, List, Moment}
use Rattle.mk_laws.proofs.Vocabulary.{None, Option, Page, PlacedAllocation, Seat, Stage, Step}
use Rattle.mk_laws.proofs.Vocabulary.{Unplaced, Words, World, [], and_parts, ap, arith, carves, cases_Bool, cases_lt}
use Rattle.mk_laws.proofs.Vocabulary.{cell_freed, changed_at, chosen, empties, eqb-false, eqb-true, false, flight_of}
use Rattle.mk_laws.proofs.Vocabulary.{freed_leaves, freed_released, freed_where_it_stands, frees, fresh_leaves}
use Rattle.mk_laws.proofs.Vocabulary.{get_or_past, gives_back, granted, ground_of, header_at, if◌then◌else◌, inl, inr}
use Rattle.mk_laws.proofs.Vocabulary.{is_phase, is_release, is_undecided_new, is_used_once, length, length-map, map}
use Rattle.mk_laws.proofs.Vocabulary.{marks_place, no_longer_fresh, not-true, object_made, or_cases}
use Rattle.mk_laws.proofs.Vocabulary.{or_else, or_parts, phase_of, place_now, placed_at, refl, released_leaves}
use Rattle.mk_laws.proofs.Vocabulary.{run_of_cell, slice_set, sym, taken, takes_cell, target, true, unmaps, used_at}
use Rattle.mk_laws.proofs.Vocabulary.{with_released, ℕ, ◌%◌, ◌++◌, ◌/◌, ◌<◌, ◌^◌, ◌∙◌, ◌∷◌, ◌≡◌, ◌≢◌}
use Rattle.mk_laws.proofs.{Vocabulary.{◌≤◌, ◌⊎◌}, Actors.{Meets, give_phase, grants_new}}
use Rattle.mk_laws.proofs.{NextSteps.{at_no_take, at_take}, OthersMoves.WorldBehind}
use Rattle.mk_core.proofs.{ChangedAllocations.earlier_at, RegisterAccesses.{register_leaves, tally_leaves}}
use Rattle.mk_core.specs.{Allocations.allocations_by, TurnConditions.{drops, may_give}}
use Rattle.mk_core.specs.TurnConditions.{takes_snapshot}
pub use Rattle.mk_core.proofs.RegisterAccesses.{LeavesTable as KeepsGround}

-- An unreleased allocation is one of the list.
pub is_there : (xs : List PlacedAllocation) (i : ℕ) → (placed_at xs i).released ≡ false → i < length xs
is_there xs i u = grind (arith, cases_lt, get_or_past)

-- what a change of each allocation is
pub record ChangesOne (x : Step) (g : PlacedAllocation → PlacedAllocation) : Type 0 where
  pub places : LeavesPlaces g
  pub was : (a : PlacedAllocation) → (g a).released ≡ false → a.released ≡ false
  pub stays : is_release x ≡ false → (a : PlacedAllocation) → a.released ≡ false → (g a).released ≡ false

pub data AllocationStep (xs : List PlacedAllocation) (x : Step) : List PlacedAllocation → Type 0 where
  Leaves : AllocationStep xs x xs
  Changes : (g : PlacedAllocation → PlacedAllocation) → ChangesOne x g → AllocationStep xs x (map g xs)
  Grants : (a : PlacedAllocation) → x ≡ Step.Grant → AllocationStep xs x (xs ++ a ∷ [])

pub allocation_step : (c : Config) (m : Moment) (f : Flight) (x : Step) (xs : List PlacedAllocation)
    → AllocationStep xs x (allocations_by c m f x xs)
allocation_step c m f (Step.Quar p v) xs =
    Changes (freed_where_it_stands m.words (cell_freed c.pages m.words f p v)) (record {
      places = freed_leaves m.words _;
      was = λ a u. sym (freed_released m.words _ a) ∙ u;
      stays = λ other a u. freed_released m.words _ a ∙ u;
    })
allocation_step c m f Step.Begin xs =
    Changes no_longer_fresh (record { places = fresh_leaves; was = λ a u. u; stays = λ other a u. u })
allocation_step c m f x4 xs = grind (arith, released_leaves, or_parts, Grants, Changes, Leaves)

-- of one place and type
pub record AreOfOne (a b : PlacedAllocation) : Type 0 where
  pub base : b.base ≡ a.base
  pub ty : b.ty ≡ a.ty

pub of_one_same : (a b : PlacedAllocation) → b ≡ a → AreOfOne a b
of_one_same a b e = record { base = rw e; ty = rw e }

pub of_one_joined : (a b d : PlacedAllocation) → AreOfOne a b → AreOfOne b d → AreOfOne a d
of_one_joined a b d x y = record { base = y.base ∙ x.base; ty = y.ty ∙ x.ty }

-- If allocation i is unreleased after a step, it was there and unreleased, or it is the one granted.
pub data Came (xs ys : List PlacedAllocation) (x : Step) (i : ℕ) : Type 0 where
  Stayed : (placed_at xs i).released ≡ false → AreOfOne (placed_at xs i) (placed_at ys i) → Came xs ys x i
  IsNew : x ≡ Step.Grant → i ≡ length xs → Came xs ys x i

pub came : {xs ys : List PlacedAllocation} {x : Step} (i : ℕ) → AllocationStep xs x ys
    → (placed_at ys i).released ≡ false → Came xs ys x i
came i Leaves u = Stayed u (record { base = refl; ty = refl })
came i (Changes g ch) u = grind (arith, changed_at)
came {xs} i (Grants a grant) u = elim (cases_lt i (length xs)) [
  | inl lt ↦
      Stayed (rw (← (earlier_at xs a i lt)) u) (of_one_same _ _ (earlier_at xs a i lt))
  | inr past ↦
      let lt = is_there (xs ++ a ∷ []) i u in
      let count = length-append xs (a ∷ []) in
      IsNew grant (omega arith)
]

-- An allocation that is there stays in its place, and unreleased but for a `release`.
pub record GoesOn (xs ys : List PlacedAllocation) (x : Step) (i : ℕ) : Type 0 where
  pub there : i < length ys
  pub same : AreOfOne (placed_at xs i) (placed_at ys i)
  pub stays : is_release x ≡ false → (placed_at xs i).released ≡ false → (placed_at ys i).released ≡ false

pub goes_on : (xs ys : List PlacedAllocation) (x : Step) (i : ℕ) → AllocationStep xs x ys → i < length xs
    → GoesOn xs ys x i
goes_on xs _ x i Leaves lt = record { there = lt; same = record { base = refl; ty = refl }; stays = λ other u. u }
goes_on xs _ x i (Changes g ch) lt =
    let at = changed_at g xs i ch.places.none in
    record {
      there = omega (arith, length-map xs g);
      same = grind arith;
      stays = λ other u. ap (λ (a : PlacedAllocation). a.released) at ∙ ch.stays other _ u;
    }
goes_on xs _ x i (Grants a grant) lt =
    let at = earlier_at xs a i lt in
    let count = length-append xs (a ∷ []) in
    grind (arith, of_one_same)

abbrev pub with_header : Words → ℕ → ℕ → List Page
with_header w p n = slice_set w.pages p (record { header = n; used = used_at w p })

abbrev pub with_used : Words → ℕ → ℕ → List Page
with_used w p n = slice_set w.pages p (record { header = header_at w p; used = n })

-- the ground after a `quar` that frees that cell, or none
abbrev pub with_quarantine : World → ℕ → ℕ → Option Cell → Ground
with_quarantine w p n cell =
    record (ground_of w) {
      freed = slice_set w.now.words.freed p (n % 2 ^ 32);
      snapshot = slice_set w.now.words.snapshot p (n / 2 ^ 32);
      run = or_else (run_of_cell w.now.words cell) w.now.seats.holding.freed;
      allocations = map (freed_where_it_stands w.now.words cell) w.allocations;
    }

-- the ground after a `head` and a `used`, by what decides where a New's place is

abbrev pub headed : Config → World → Flight → ℕ → ℕ → Bool → Ground
headed c w f p n b =
    record (ground_of w) {
      pages = with_header w.now.words p n;
      placing = if b then w.now.seats.holding.placing else chosen w.now.seats.holding.placing (place_now c w.now f);
    }

abbrev pub used_up : Config → World → Flight → ℕ → ℕ → Bool → Ground
used_up c w f p n b =
    record (ground_of w) {
      pages = with_used w.now.words p n;
      placing = if b then w.now.seats.holding.placing else taken w.now.seats.holding.placing (place_now c w.now f);
    }

-- if a seat steps whose call is f
pub data GroundStep (c : Config) (w : World) (f : Flight) : Ground → Type 0 where
  Rests : GroundStep c w f (ground_of w)
  Starts : w.now.words.turn ≡ 0 → f.stage ≡ Stage.Idle
      → GroundStep c w f (record (ground_of w) { placing = Unplaced; run = None })
  Gives : may_give w.now f ≡ true → (phase_of w.now.words ≤ 1) ⊎ (phase_of w.now.words ≡ 5)
      → GroundStep c w f (record (ground_of w) { placing = Unplaced; run = None })
  Carves : (p n : ℕ) → carves w.now.words (object_made c f.op) (place_now c w.now f) p n ≡ true
      → phase_of w.now.words ≢ 4 → GroundStep c w f (headed c w f p n false)
  Unmaps : (p n : ℕ) → unmaps w.now.words w.now.seats.holding.freed p n ≡ true → phase_of w.now.words ≢ 4
      → GroundStep c w f (headed c w f p n false)
  Empties : (p n : ℕ) → empties w.now.words p n ≡ true → phase_of w.now.words ≡ 4
      → GroundStep c w f (record (ground_of w) { pages = with_header w.now.words p n })
  TakesCell : (p n : ℕ) → is_used_once w.now.seats.holding.placing ≡ false
      → takes_cell w.now.words (object_made c f.op) (place_now c w.now f) p n ≡ true → phase_of w.now.words ≢ 4
      → GroundStep c w f (used_up c w f p n false)
  GivesBack : (p n : ℕ) → gives_back w.now.words p n ≡ true → phase_of w.now.words ≡ 4
      → GroundStep c w f (record (ground_of w) { pages = with_used w.now.words p n })
  Frees : (p n : ℕ) (cell : Option Cell) → cell_freed c.pages w.now.words f p n ≡ cell
      → frees w.now.words (target c.pages w.now.words f) p n ≡ true → phase_of w.now.words ≢ 4
      → GroundStep c w f (with_quarantine w p n cell)
  Snapshots : (p n : ℕ) (cell : Option Cell) → cell_freed c.pages w.now.words f p n ≡ cell
      → takes_snapshot w.now.words p n ≡ true → GroundStep c w f (with_quarantine w p n cell)
  Drops : (p n : ℕ) (cell : Option Cell) → cell_freed c.pages w.now.words f p n ≡ cell
      → drops w.now.words p (n % 2 ^ 32) (n / 2 ^ 32) ≡ true → phase_of w.now.words ≡ 4
      → GroundStep c w f (with_quarantine w p n cell)
  Grants : is_undecided_new f ≡ true → is_used_once w.now.seats.holding.placing ≡ true
      → GroundStep c w f (record (ground_of w) {
        placing = Granted;
        allocations = w.allocations ++ granted c w.now f ∷ [];
      })
  Places : (p n : ℕ) → marks_place w.now.words (object_made c f.op) (place_now c w.now f) p n ≡ true
      → GroundStep c w f (record (ground_of w) { placing = chosen w.now.seats.holding.placing (place_now c w.now f) })
  Freshens : phase_of w.now.words ≡ 0
      → GroundStep c w f (record (ground_of w) { allocations = map no_longer_fresh w.allocations })
  Releases : phase_of w.now.words ≡ 3
      → GroundStep c w f (record (ground_of w) { allocations = map (with_released c w.now.words) w.allocations })

module _ (c : Config) (w : World) (seat : Seat) where
  abbrev f : Flight
  f = flight_of w.now seat

  rests : (x : Words) → KeepsGround w.now.words x
      → GroundStep c w f (record (ground_of w) { pages = x.pages; freed = x.freed; snapshot = x.snapshot })
  rests x g = rw g.pages (rw g.freed (rw g.snapshot Rests))

  -- all kinds, whatever the seat; some go by the phase
  pub ground_step : (x : Step) → Meets c w.now seat x → GroundStep c w f (ground_of (WorldBehind c w seat x))
  ground_step (Step.Take o) h = grind (arith, eqb-true, Starts, Rests, at_take, at_no_take)
  ground_step Step.Give h = Gives h.holder (give_phase _ h.phase)
  ground_step Step.Reg h = rests _ (register_leaves w.now.words _ _ _)
  ground_step (Step.Tally n v) h = rests _ (tally_leaves w.now.words n v)
  ground_step (Step.Head p n) h = elim (cases_Bool (is_phase w.now.words 4)) [
    | inl e ↦ rw e (Empties p n (rw e at h.holder) (eqb-true _ 4 e))
    | inr e ↦ rw e (grind (arith, or_cases, eqb-false, Carves, Unmaps))
  ]
  ground_step (Step.Used p n) h = elim (cases_Bool (is_phase w.now.words 4)) [
    | inl e ↦ rw e (GivesBack p n (rw e at h.holder) (eqb-true _ 4 e))
    | inr e ↦
        let k = and_parts _ _ (rw e at h.holder) in rw e (TakesCell p n (not-true _ k.0) k.1 (eqb-false _ 4 e))
  ]
  ground_step (Step.Quar p n) h = elim (cases_Bool (is_phase w.now.words 4)) [
    | inl e ↦ Drops p n _ refl (rw e at h.holder) (eqb-true _ 4 e)
    | inr e ↦ grind (arith, or_cases, eqb-false, Frees, Snapshots)
  ]
  ground_step Step.Grant h = Grants (grants_new c w.now seat h) h.holder
  ground_step (Step.Mark p n) h =
      elim (cases_Bool (marks_place w.now.words (object_made c f.op) (place_now c w.now f) p n)) [
        | inl e ↦ rw e (Places p n e)
        | inr e ↦ rw e Rests
      ]
  ground_step Step.Begin h = Freshens (eqb-true _ 0 h.phase)
  ground_step Step.Release h = Releases (eqb-true _ 3 h.phase)
  ground_step _ h = Rests
