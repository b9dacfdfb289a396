-- The flags of allocations: what stays of them, what one event does to them, and what a Free does.
use Rattle.mk_trace.proofs.Vocabulary.{AreLater, Cell, Config, Event, Flight, FreesNone, IsHistory, Moment, NeverState}
use Rattle.mk_trace.proofs.Vocabulary.{PlacedAllocation, Ptr, ReleasesNone, Step, Value, Words, World, after_free}
use Rattle.mk_trace.proofs.Vocabulary.{allocation_at, allocations_by, cell_freed, decides_freed, flight_of}
use Rattle.mk_trace.proofs.Vocabulary.{freed_where_it_stands, granted, has_step, histories_keep_the_invariant}
use Rattle.mk_trace.proofs.Vocabulary.{is_release, left, length-append, never_behind, never_granted, no_longer_fresh}
use Rattle.mk_trace.proofs.Vocabulary.{placed_at, unfreed, world_behind}
use Rattle.mk_heap.proofs.Below.Laws.Vocabulary.{ap, arith, cases_eq, cases_lt, changed_at, false, freed_leaves}
use Rattle.mk_heap.proofs.Below.Laws.Vocabulary.{freed_released}
use Rattle.mk_heap.proofs.Below.Laws.Vocabulary.{fresh_leaves, get_or-set_other, get_or-set_same, get_or_past}
use Rattle.mk_heap.proofs.Below.Laws.Vocabulary.{if◌then◌else◌, inl}
use Rattle.mk_heap.proofs.Below.Laws.Vocabulary.{inr, is_some, length, length-map, length-set, map, no_allocation}
use Rattle.mk_heap.proofs.Below.Laws.Vocabulary.{none_freed}
use Rattle.mk_heap.proofs.Below.Laws.Vocabulary.{or_parts, refl, released_leaves, set_past, slice_index_or, subst, suc}
use Rattle.mk_heap.proofs.Below.Laws.Vocabulary.{sym, true}
use Rattle.mk_heap.proofs.Below.Laws.{Vocabulary.{with_freed, zero, [], ◌++◌, ◌<◌, ◌∙◌, ◌∷◌, ◌≡◌, ◌≤◌}, Images.AreTwins}
use Rattle.mk_never.specs.Laws.{LeadsTo}
use Rattle.mk_core.{proofs.ChangedAllocations.earlier_at, specs.History.left_from}
use Rattle.mk_heap.proofs.Below.Laws.Vocabulary.{Bool, LeavesPlaces, List, NeverAllocation as Allocation, None, Option}
use Rattle.mk_heap.proofs.Below.Laws.Vocabulary.{Some, ℕ}

-- What stays of allocations over a list of events: their places and types, that they are released, and, where nothing
-- is released, that they are not.

abbrev pub SameReleased : List PlacedAllocation → List PlacedAllocation → Type 0
SameReleased xs ys = (i : ℕ) → i < length xs → (placed_at ys i).released ≡ (placed_at xs i).released

pub later_same : (xs : List PlacedAllocation) → AreLater xs xs
later_same xs = record { count = omega arith; base = λ i lt. refl; ty = λ i lt. refl; released = λ i lt is. is }

pub later_then : {xs ys zs : List PlacedAllocation} → AreLater xs ys → AreLater ys zs → AreLater xs zs
later_then {xs} {ys} one two = grind arith

changed : {change : PlacedAllocation → PlacedAllocation} (xs : List PlacedAllocation) → LeavesPlaces change
    → ((a : PlacedAllocation) → a.released ≡ true → (change a).released ≡ true) → AreLater xs (map change xs)
changed {change} xs leaves keeps =
    let at : (i : ℕ) → placed_at (map change xs) i ≡ change (placed_at xs i) = grind (arith, changed_at) in
    record {
      count = omega (arith, length-map xs change);
      base = λ i lt. ap (λ (a : PlacedAllocation). a.base) (at i) ∙ leaves.base (placed_at xs i);
      ty = λ i lt. ap (λ (a : PlacedAllocation). a.ty) (at i) ∙ leaves.ty (placed_at xs i);
      released = λ i lt is. ap (λ (a : PlacedAllocation). a.released) (at i) ∙ keeps (placed_at xs i) is;
    }

more : (xs : List PlacedAllocation) (a : PlacedAllocation) → AreLater xs (xs ++ a ∷ [])
more xs a = record {
  count = omega (arith, length-append xs (a ∷ []));
  base = λ i lt. ap (λ (x : PlacedAllocation). x.base) (earlier_at xs a i lt);
  ty = λ i lt. ap (λ (x : PlacedAllocation). x.ty) (earlier_at xs a i lt);
  released = λ i lt is. ap (λ (x : PlacedAllocation). x.released) (earlier_at xs a i lt) ∙ is;
}

pub step_later : (c : Config) (m : Moment) (f : Flight) (s : Step) (xs : List PlacedAllocation)
    → AreLater xs (allocations_by c m f s xs)
step_later c m f Step.Grant xs = more xs (granted c m f)
step_later c m f (Step.Quar p v) xs =
    let cell = cell_freed c.pages m.words f p v in
    changed xs (freed_leaves m.words cell) (λ a is. freed_released m.words cell a ∙ is)
step_later c m f Step.Begin xs = changed xs fresh_leaves (λ a is. is)
step_later c m f Step.Release xs = changed xs (released_leaves c m.words) (λ a is. grind arith)
step_later c m f s xs = later_same xs

pub later_left : (c : Config) (w : World) (es : List Event) → AreLater w.allocations (left_from c w es).allocations
unfolding left_from
later_left c w [] = later_same w.allocations
later_left c w (e ∷ es) =
    later_then (step_later c w.now (flight_of w.now e.seat) e.step w.allocations) (later_left c (world_behind c w e) es)

-- What one event does to the flags of allocations: only a `release` releases, and only what decides a Free frees.

-- lists

pub same_releases : (xs : List PlacedAllocation) → ReleasesNone xs xs
same_releases xs = record { count = omega arith; released = λ n lt. refl }

pub releases_then : {xs ys zs : List PlacedAllocation} → ReleasesNone xs ys → ReleasesNone ys zs → ReleasesNone xs zs
releases_then h g = grind arith

pub frees_then : (xs ys zs : List PlacedAllocation) → FreesNone xs ys → FreesNone ys zs → FreesNone xs zs
frees_then xs ys zs h g n = g n ∙ h n

-- one more, and each changed

more_frees : (xs : List PlacedAllocation) (a : PlacedAllocation) → a.freed ≡ false → FreesNone xs (xs ++ a ∷ [])
more_frees [] a unfreed zero = unfreed
more_frees [] a unfreed (suc n) = refl
more_frees (x ∷ xs) a unfreed zero = refl
more_frees (x ∷ xs) a unfreed (suc n) = more_frees xs a unfreed n

changed_releases : (change : PlacedAllocation → PlacedAllocation) (xs : List PlacedAllocation) → change never_granted
    ≡ never_granted → ((a : PlacedAllocation) → (change a).released ≡ a.released) → ReleasesNone xs (map change xs)
changed_releases change xs none keeps = record {
  count = omega (arith, length-map xs change);
  released = λ n lt. ap (λ (a : PlacedAllocation). a.released) (changed_at change xs n none) ∙ keeps (placed_at xs n);
}

-- one step

pub releases_by : (c : Config) (m : Moment) (f : Flight) (s : Step) (xs : List PlacedAllocation) → is_release s ≡ false
    → ReleasesNone xs (allocations_by c m f s xs)
releases_by c m f Step.Grant xs none = record {
  count = (more xs (granted c m f)).count;
  released = λ n lt. ap (λ (x : PlacedAllocation). x.released) (earlier_at xs (granted c m f) n lt);
}
releases_by c m f (Step.Quar p v) xs none =
    let cell = cell_freed c.pages m.words f p v in
    changed_releases (freed_where_it_stands m.words cell) xs (freed_leaves m.words cell).none
    (freed_released m.words cell)
releases_by c m f Step.Begin xs none = changed_releases no_longer_fresh xs refl (λ a. refl)
releases_by c m f Step.Release xs none = cc
releases_by c m f _ xs none = same_releases xs

-- What frees nothing changes nothing.
pub unfreed_all : (w : Words) (cell : Option Cell) (xs : List PlacedAllocation) → is_some cell ≡ false
    → map (freed_where_it_stands w cell) xs ≡ xs
unfreed_all w x1 xs none = grind (arith, none_freed)

pub frees_by : (c : Config) (m : Moment) (f : Flight) (s : Step) (xs : List PlacedAllocation)
    → decides_freed c m f s ≡ false → FreesNone xs (allocations_by c m f s xs)
frees_by c m f x3 xs none = grind (arith, more_frees, unfreed_all, changed_at)

-- Where nothing is released, flags stay over a list.
pub same_released : (c : Config) (w : World) (es : List Event) → has_step is_release es ≡ false
    → SameReleased w.allocations (left_from c w es).allocations
unfolding left_from
same_released c w [] none = λ i lt. refl
same_released c w (e ∷ es) none = λ i lt.
    let parts = or_parts (is_release e.step) (has_step is_release es) none in
    let one = releases_by c w.now (flight_of w.now e.seat) e.step w.allocations parts.0 in
    same_released c (world_behind c w e) es parts.1 i (omega (arith, lt, one.count)) ∙ one.released i lt

-- Which allocations are freed after a history says the heap that never reuses storage, and so what an operation frees.

pub twins : {c : Config} {es : List Event} → IsHistory c es → AreTwins (left c es).allocations (never_behind c es)
twins {c} {es} history = (histories_keep_the_invariant c es history).mirrors.twins

pub none_past : (xs : List PlacedAllocation) (i : ℕ) → length xs ≤ i → (placed_at xs i).freed ≡ false
none_past xs i le = ap (λ (a : PlacedAllocation). a.freed) (get_or_past xs i never_granted le)

-- Whether it is freed, of any number.
pub is_freed_there : {c : Config} {es : List Event} → IsHistory c es → (i : ℕ)
    → (placed_at (left c es).allocations i).freed ≡ (allocation_at (never_behind c es) i).freed
is_freed_there {c} {es} history i = grind (arith, cases_lt, twins, none_past, get_or_past)

-- What a Free does to the flags.

chosen : (b : Bool) (number i : ℕ) → (if b then None else Some number) ≡ Some i → (b ≡ false) × (number ≡ i)
chosen x0 number i is = grind arith

pub points_there : (n : NeverState) (v : Value) (i : ℕ) → unfreed n v ≡ Some i → LeadsTo v i
points_there n x1 i is = grind (arith, chosen)

pub was_unfreed : (n : NeverState) (v : Value) (i : ℕ) → unfreed n v ≡ Some i → (allocation_at n i).freed ≡ false
was_unfreed n x1 i is = grind (arith, chosen)

pub is_freed_behind : (n : NeverState) (v : Value) (i : ℕ) → unfreed n v ≡ Some i → i < length n.allocations
    → (allocation_at (after_free n v) i).freed ≡ true
is_freed_behind n (Ptr number ty offset) i is lt =
    let same = (chosen (allocation_at n number).freed number i is).1 in
    ap (λ (k : ℕ). (allocation_at (with_freed n k) i).freed) same ∙ ap (λ (a : Allocation). a.freed)
    (get_or-set_same n.allocations i (record (allocation_at n i) { freed = true }) no_allocation lt)
is_freed_behind n _ i is lt = absurd cc

kept_at : (n : NeverState) (i : ℕ) (b : Bool) → b ≡ (allocation_at n i).freed
    → ((if b then None else Some i) ≡ Some i → ⊥) → (allocation_at (with_freed n i) i).freed ≡ (allocation_at n i).freed
kept_at n i false is out = absurd (out refl)
kept_at n i true is out = elim (cases_lt i (length n.allocations)) [
  | inl lt ↦ cc (get_or-set_same n.allocations i (record (allocation_at n i) { freed = true }) no_allocation lt, is)
  | inr le ↦ ap (λ (l : List Allocation). (slice_index_or l i no_allocation).freed)
      (set_past n.allocations i (record (allocation_at n i) { freed = true }) le)
]

pub others_kept : (n : NeverState) (v : Value) (i : ℕ) → (unfreed n v ≡ Some i → ⊥)
    → (allocation_at (after_free n v) i).freed ≡ (allocation_at n i).freed
others_kept n (Ptr number ty offset) i out = elim (cases_eq i number) [
  | inr ne ↦ ap (λ (a : Allocation). a.freed)
      (get_or-set_other n.allocations number i (record (allocation_at n number) { freed = true }) no_allocation ne)
  | inl same ↦ subst (λ (k : ℕ). (allocation_at (with_freed n k) i).freed ≡ (allocation_at n i).freed) same
      (kept_at n i (allocation_at n i).freed refl
      (subst (λ (k : ℕ). (if (allocation_at n k).freed then None else Some k) ≡ Some i → ⊥) (sym same) out))
]
others_kept n _ i out = refl

pub as_many_behind : (n : NeverState) (v : Value) → length (after_free n v).allocations ≡ length n.allocations
as_many_behind n (Ptr number ty offset) = length-set n.allocations number _
as_many_behind n _ = refl
