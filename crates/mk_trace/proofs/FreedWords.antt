-- The words of quarantined allocations, and of held ones, where a type says how many words one has.
use Rattle.std.proofs.lemmas.List.Sums.{sum_by-le-sum_by}
use Rattle.mk_trace.proofs.Vocabulary.{AreLater, Cell, Config, Event, Flight, IsHistory, Moment, NeverState}
use Rattle.mk_trace.proofs.Vocabulary.{PlacedAllocation, Step, Value, Words, World, after_free, allocations_by}
use Rattle.mk_trace.proofs.Vocabulary.{exists_placed, flight_of, freed_where_it_stands, held_by_allocations, is_grant}
use Rattle.mk_trace.proofs.Vocabulary.{is_large, is_quarantined, is_some_and, kinds_of, left, lets_go, never_behind}
use Rattle.mk_trace.proofs.Vocabulary.{never_granted, placed_at, quarantined_words, reach_is_kept, reserved_words}
use Rattle.mk_trace.proofs.Vocabulary.{stands_in, sum_by, sum_by-append, sum_by-cons, unfreed, with_released}
use Rattle.mk_trace.proofs.{Vocabulary.{words_of_some, world_behind}, FlagSteps.{SameReleased, as_many_behind}}
use Rattle.mk_trace.proofs.FlagSteps.{is_freed_behind, is_freed_there, others_kept, twins, was_unfreed}
use Rattle.mk_heap.proofs.Below.Laws.Vocabulary.{Bool, List, None, Option, Some, ℕ, arith, cases_lt, false, get_or_past}
use Rattle.mk_heap.proofs.Below.Laws.Vocabulary.{if◌then◌else◌, length, map, not, refl, suc, sym, true, words_made}
use Rattle.mk_heap.proofs.Below.Laws.Vocabulary.{zero, [], ◌&&◌}
use Rattle.mk_heap.proofs.Below.Laws.{Vocabulary.{◌+◌, ◌||◌, ◌∙◌, ◌∷◌, ◌≡◌, ◌≢◌, ◌≤◌}, FreshWords.sum_filtered}
use Rattle.mk_never.specs.Laws.{IsReachable}
use Rattle.mk_core.specs.NewPlaces.{object_of}
use Rattle.mk_heap.proofs.Below.Objects.HeldFreed.{held_part, held_sum}

-- The words of quarantined allocations, where a type says how many words one has.

-- what an allocation adds, and what all add
abbrev pub part : (ℕ → ℕ) → PlacedAllocation → ℕ
part weight a = if is_quarantined a then weight a.ty else 0

abbrev pub weighed : (ℕ → ℕ) → List PlacedAllocation → ℕ
weighed weight xs = sum_by (part weight) xs

-- the storage of a type's allocations, and that of a large type's
abbrev pub storage_weight : Config → ℕ → ℕ
storage_weight c ty = words_made (object_of (kinds_of c.types ty))

abbrev pub large_weight : Config → ℕ → ℕ
large_weight c ty = if is_large (kinds_of c.types ty) then storage_weight c ty else 0

-- Sums of what is alike.
pub sum_alike : {X : Type 0} (f g : X → ℕ) → ((x : X) → f x ≡ g x) → (xs : List X) → sum_by f xs ≡ sum_by g xs
sum_alike f g same [] = refl
sum_alike f g same (x ∷ xs) = omega (arith, sum_by-cons f x xs, sum_by-cons g x xs, same x, sum_alike f g same xs)

pub quarantined_is : (c : Config) (xs : List PlacedAllocation) → quarantined_words c xs ≡ weighed (storage_weight c) xs
quarantined_is c xs = sum_filtered (λ (a : PlacedAllocation). storage_weight c a.ty) is_quarantined xs

pub reserved_is : (c : Config) (xs : List PlacedAllocation) → reserved_words c xs ≡ weighed (large_weight c) xs
reserved_is c xs = grind (arith, sum_filtered, storage_weight, sum_alike, part, large_weight)

-- Lists of as many that add the same at each place, or at each but one.

pub sums_but_one : (f : PlacedAllocation → ℕ) (n : ℕ) (xs ys : List PlacedAllocation) → length xs ≡ length ys
    → ((i : ℕ) → i ≢ n → f (placed_at xs i) ≡ f (placed_at ys i))
    → sum_by f ys + f (placed_at xs n) ≡ sum_by f xs + f (placed_at ys n)
sums_but_one f n [] [] count same = refl
sums_but_one f n [] (y ∷ ys) count same = absurd (omega (arith, count))
sums_but_one f n (x ∷ xs) [] count same = absurd (omega (arith, count))
sums_but_one f zero (x ∷ xs) (y ∷ ys) count same =
    let rest = sums_but_one f zero xs ys (omega (arith, count)) (λ i ne. same (suc i) (λ e. omega (arith, e))) in
    let next : f (placed_at xs 0) ≡ f (placed_at ys 0) = same 1 (λ e. omega (arith, e)) in
    omega (arith, rest, next, sum_by-cons f x xs, sum_by-cons f y ys)
sums_but_one f (suc n) (x ∷ xs) (y ∷ ys) count same =
    let first : f x ≡ f y = same 0 (λ (e : 0 ≡ suc n). omega (arith, e)) in
    let rest = sums_but_one f n xs ys (omega (arith, count))
    (λ i ne. same (suc i) (λ (e : suc i ≡ suc n). ne (omega (arith, e)))) in
    omega (arith, first, rest, sum_by-cons f x xs, sum_by-cons f y ys)

pub same_sums : (f : PlacedAllocation → ℕ) (xs ys : List PlacedAllocation) → length xs ≡ length ys
    → ((i : ℕ) → f (placed_at xs i) ≡ f (placed_at ys i)) → sum_by f xs ≡ sum_by f ys
same_sums f xs ys count same = omega (arith, sums_but_one f 0 xs ys count (λ i ne. same i), same 0)

-- Changes one by one.

pub sum_mapped : {X Y : Type 0} (f : Y → ℕ) (change : X → Y) (xs : List X)
    → sum_by f (map change xs) ≡ sum_by (λ (x : X). f (change x)) xs
sum_mapped f change [] = refl
sum_mapped {X} f change (x ∷ xs) = omega (
  arith,
  sum_by-cons f (change x) (map change xs),
  sum_by-cons (λ (y : X). f (change y)) x xs,
  sum_mapped f change xs,
)

pub sum_falls : (f : PlacedAllocation → ℕ) (change : PlacedAllocation → PlacedAllocation) → ((a : PlacedAllocation)
    → f (change a) ≤ f a) → (xs : List PlacedAllocation) → sum_by f (map change xs) ≤ sum_by f xs
sum_falls f change falls xs = rw (sum_mapped f change xs) (sum_by-le-sum_by _ f xs falls)

pub sum_rises : (f : PlacedAllocation → ℕ) (change : PlacedAllocation → PlacedAllocation) → ((a : PlacedAllocation)
    → f a ≤ f (change a)) → (xs : List PlacedAllocation) → sum_by f xs ≤ sum_by f (map change xs)
sum_rises f change rises xs = rw (sum_mapped f change xs) (sum_by-le-sum_by f _ xs rises)

-- What a Free adds to the words of the quarantined allocations, where nothing is released meanwhile.

module _ (c : Config) (es fs : List Event) (history : IsHistory c es) (whole : IsHistory c fs) (v : Value)
    (reached : (number : ℕ) → unfreed (never_behind c es) v ≡ Some number → IsReachable (never_behind c es) number)
    (never : never_behind c fs ≡ after_free (never_behind c es) v) (later : AreLater (left c es).allocations
    (left c fs).allocations) (same : SameReleased (left c es).allocations (left c fs).allocations) where
  abbrev xs : List PlacedAllocation
  xs = (left c es).allocations

  abbrev ys : List PlacedAllocation
  ys = (left c fs).allocations

  abbrev n : NeverState
  n = never_behind c es

  count : length xs ≡ length ys
  count = cc ((twins history).count, as_many_behind n v, never, (twins whole).count)

  past_both : (i : ℕ) → length xs ≤ i → placed_at xs i ≡ placed_at ys i
  past_both i le = get_or_past xs i never_granted le ∙ sym (get_or_past ys i never_granted (omega (arith, le, count)))

  module _ (weight : ℕ → ℕ) where
    part_kept : (i : ℕ) → (unfreed n v ≡ Some i → ⊥) → part weight (placed_at xs i) ≡ part weight (placed_at ys i)
    part_kept i out = grind (arith, cases_lt, xs, ys, part, past_both, is_freed_there, others_kept)

    none_before : (number : ℕ) → unfreed n v ≡ Some number → part weight (placed_at xs number) ≡ 0
    none_before number is = cc (is_freed_there history number, was_unfreed n v number is)

    by_number : (x : Option ℕ) → unfreed n v ≡ x
        → weighed weight ys ≡ weighed weight xs + words_of_some (λ (a : PlacedAllocation). weight a.ty) xs x
    by_number None is = grind (arith, weighed, xs, ys, same_sums, part, count, part_kept)
    by_number (Some number) is = grind (
      arith,
      sums_but_one,
      part,
      xs,
      ys,
      count,
      part_kept,
      none_before,
      exists_placed,
      is_freed_there,
      is_freed_behind,
      twins,
      reach_is_kept,
    )

    pub freed_adds : weighed weight ys
        ≡ weighed weight xs + words_of_some (λ (a : PlacedAllocation). weight a.ty) xs (unfreed n v)
    freed_adds = by_number (unfreed n v) refl

-- What events do to the held words: a grant alone makes them more, and a free or a release alone makes them less.

freed_part : (n : ℕ) (released freed large : Bool)
    → (if not released && not (true && large) then n else 0) ≤ (if not released && not (freed && large) then n else 0)
freed_part n released freed large = grind arith

released_part : (n : ℕ) (released mapped more : Bool)
    → (if not (released || more) && mapped then n else 0) ≤ (if not released && mapped then n else 0)
released_part n released mapped more = grind arith

free_by_test : (c : Config) (a : PlacedAllocation) (b : Bool)
    → held_part c (if b then record a { freed = true; fresh = true } else a) ≤ held_part c a
free_by_test c a x2 = grind (arith, freed_part)

free_falls : (c : Config) (w : Words) (cell : Option Cell) (a : PlacedAllocation)
    → held_part c (freed_where_it_stands w cell a) ≤ held_part c a
free_falls c w cell a = free_by_test c a (is_some_and (λ (x : Cell). stands_in w x a) cell)

release_falls : (c : Config) (w : Words) (a : PlacedAllocation) → held_part c (with_released c w a) ≤ held_part c a
release_falls c w a = released_part _ a.released (not (a.freed && is_large (kinds_of c.types a.ty))) _

-- One step.

step_rises : (c : Config) (m : Moment) (f : Flight) (s : Step) (xs : List PlacedAllocation) → lets_go s ≡ false
    → held_by_allocations c xs ≤ held_by_allocations c (allocations_by c m f s xs)
step_rises c m f s xs h = grind (arith, held_sum, sum_by-append, held_part, sum_rises)

-- One event.

pub held_falls_at : (c : Config) (w : World) (e : Event) → is_grant e.step ≡ false
    → held_by_allocations c (world_behind c w e).allocations ≤ held_by_allocations c w.allocations
held_falls_at c w e none = grind (arith, free_falls, release_falls, held_sum, sum_falls, held_part)

pub held_rises_at : (c : Config) (w : World) (e : Event) → lets_go e.step ≡ false
    → held_by_allocations c w.allocations ≤ held_by_allocations c (world_behind c w e).allocations
held_rises_at c w e none = step_rises c w.now (flight_of w.now e.seat) e.step w.allocations none
