-- What one event makes of the words that are held, fresh and given back.
use Rattle.std.proofs.{Common.filter, Common.sum_by, lemmas.List.Sums.sum_by-append, lemmas.List.Sums.sum_by-cons}
use Rattle.mk_caller.proofs.Below.Laws.Vocabulary.{address_of, is_large, is_left_unmarked, kinds_of, map, none_freed}
use Rattle.mk_caller.proofs.{Below.Laws.Vocabulary.pointed_cell, Below.Laws.FreshWords.{fresh_part, fresh_pushed}}
use Rattle.mk_caller.proofs.Below.Laws.FreshWords.{fresh_sum, none_fresh, sum_filtered}
use Rattle.mk_alloc.proofs.QuarantineVocabulary.{Bool, Cell, Config, Event, List, Option, PlacedAllocation, Seat, Step}
use Rattle.mk_alloc.proofs.QuarantineVocabulary.{World, WorldBehind, ℕ, arith, decides_freed, false, first_world}
use Rattle.mk_alloc.proofs.QuarantineVocabulary.{flight_of, freed_where_it_stands, fresh_words_of, given_back}
use Rattle.mk_alloc.proofs.QuarantineVocabulary.{given_back_behind, held_by_allocations, if◌then◌else◌, is_begin}
use Rattle.mk_alloc.proofs.QuarantineVocabulary.{is_release, is_some, is_some_and, left, not, refl, storage_words, true}
use Rattle.mk_alloc.proofs.QuarantineVocabulary.{with_released, world_behind, [], ◌&&◌, ◌*◌, ◌++◌, ◌+◌, ◌||◌, ◌∷◌, ◌≡◌}
use Rattle.mk_alloc.proofs.{QuarantineVocabulary.{◌≤◌, is_mapped}, HeldFreed.{held_part, held_sum}}
use Rattle.mk_alloc.specs.Bounds.{given_back_from, words_given_back}
use Rattle.mk_core.specs.History.{left_from}

-- a sum over those that pass a test, where each that does passes one of two others
pub filtered_in_parts : (f : PlacedAllocation → ℕ) (p q r : PlacedAllocation → Bool)
    → ((a : PlacedAllocation) → (if p a then f a else 0) ≤ (if q a then f a else 0) + (if r a then f a else 0))
    → (xs : List PlacedAllocation) → sum_by f (filter p xs) ≤ sum_by f (filter q xs) + sum_by f (filter r xs)
filtered_in_parts f p q r each xs =
    omega (arith, in_parts xs, sum_filtered f p xs, sum_filtered f q xs, sum_filtered f r xs)
  where
    in_parts : (xs : List PlacedAllocation) → sum_by (λ (a : PlacedAllocation). if p a then f a else 0) xs
        ≤ sum_by (λ (a : PlacedAllocation). if q a then f a else 0) xs
        + sum_by (λ (a : PlacedAllocation). if r a then f a else 0) xs
    in_parts [] = omega arith
    in_parts (a ∷ xs) =
        let rest = in_parts xs in
        let all = sum_by-cons (λ (b : PlacedAllocation). if p b then f b else 0) a xs in
        let one = sum_by-cons (λ (b : PlacedAllocation). if q b then f b else 0) a xs in
        let two = sum_by-cons (λ (b : PlacedAllocation). if r b then f b else 0) a xs in
        omega arith

abbrev given_part : Config → World → PlacedAllocation → ℕ
given_part c w a = if is_mapped c a && (with_released c w.now.words a).released then storage_words c a else 0

-- A `release` gives back what is held no more, and makes nothing fresh.

released_part : (n : ℕ) (released more mapped : Bool) → (if not (released || more) && mapped then n else 0)
    + (if (not released && mapped) && (released || more) then n else 0) ≡ (if not released && mapped then n else 0)
released_part n released more mapped = grind arith

module _ (c : Config) (w : World) where
  abbrev released : PlacedAllocation → PlacedAllocation
  released a = with_released c w.now.words a

  abbrev more_of : PlacedAllocation → Bool
  more_of a = is_some_and (is_left_unmarked w.now.words) (pointed_cell c.pages w.now.words.pages (address_of a.base))

  abbrev mapped_of : PlacedAllocation → Bool
  mapped_of a = not (a.freed && is_large (kinds_of c.types a.ty))

  sums_released : (xs : List PlacedAllocation)
      → sum_by (held_part c) (map released xs) + sum_by (given_part c w) xs ≡ sum_by (held_part c) xs
  sums_released [] = refl
  sums_released (a ∷ xs) =
      let one = released_part (storage_words c a) a.released (more_of a) (mapped_of a) in
      let behind = sum_by-cons (held_part c) (released a) (map released xs) in
      omega (arith, one, behind, sum_by-cons (given_part c w) a xs, sum_by-cons (held_part c) a xs, sums_released xs)

  held_released : held_by_allocations c (map released w.allocations) + words_given_back c w
      ≡ held_by_allocations c w.allocations
  held_released = grind (arith, held_sum, released, sum_filtered, sums_released)

  sums_stale : (xs : List PlacedAllocation) → sum_by (fresh_part c) (map released xs) ≤ sum_by (fresh_part c) xs
  sums_stale [] = omega arith
  sums_stale (a ∷ xs) =
      let one : (if (not (a.released || (more_of a)) && (mapped_of a)) && a.fresh then (storage_words c a) else 0) ≤
      (if (not a.released && (mapped_of a)) && a.fresh then (storage_words c a) else 0) = grind arith in
      let behind = sum_by-cons (fresh_part c) (released a) (map released xs) in
      omega (arith, one, behind, sum_by-cons (fresh_part c) a xs, sums_stale xs)

  fresh_released : fresh_words_of c (map released w.allocations) ≤ fresh_words_of c w.allocations
  fresh_released = search (sums_stale, fresh_sum, released)

-- A quarter, where n words were given back.
abbrev pub IsQuarter : Config → World → ℕ → Type 0
IsQuarter c w n = 4 * fresh_words_of c w.allocations ≤ held_by_allocations c w.allocations + n

-- what a `quar` frees, if it doesn't decide a Free
frees_none : (c : Config) (w : World) (cell : Option Cell) → is_some cell ≡ false
    → map (freed_where_it_stands w.now.words cell) w.allocations ≡ w.allocations
frees_none c w x3 none = grind (arith, none_freed)

-- An event that frees nothing leaves it a quarter.
pub quarter_stays : (c : Config) (w : World) (seat : Seat) (x : Step) (n : ℕ)
    → decides_freed c w.now (flight_of w.now seat) x ≡ false → IsQuarter c w n
    → IsQuarter c (WorldBehind c w seat x) (given_back_behind c w x n)
quarter_stays c w seat Step.Grant n none quarter = grind (arith, fresh_pushed, held_sum, sum_by-append, held_part)
quarter_stays c w seat (Step.Quar p v) n none quarter = grind (arith, frees_none)
quarter_stays c w seat Step.Begin n none quarter = let fresh = none_fresh c w.allocations in omega arith
quarter_stays c w seat Step.Release n none quarter = omega (arith, held_released c w, fresh_released c w)
quarter_stays c w seat _ n none quarter = quarter

-- After a `begin` nothing is fresh,
pub none_fresh_begun : (c : Config) (w : World) (seat : Seat) (x : Step) → is_begin x ≡ true
    → fresh_words_of c (WorldBehind c w seat x).allocations ≡ 0
none_fresh_begun c w seat x4 is = grind (arith, none_fresh)

-- and so it stays where nothing is freed.
pub none_fresh_stays : (c : Config) (w : World) (seat : Seat) (x : Step)
    → decides_freed c w.now (flight_of w.now seat) x ≡ false → fresh_words_of c w.allocations ≡ 0
    → fresh_words_of c (WorldBehind c w seat x).allocations ≡ 0
none_fresh_stays c w seat Step.Grant none stale = grind (arith, fresh_pushed)
none_fresh_stays c w seat (Step.Quar p v) none stale = grind (arith, frees_none)
none_fresh_stays c w seat Step.Begin none stale = none_fresh c w.allocations
none_fresh_stays c w seat Step.Release none stale = let fresh = fresh_released c w in omega arith
none_fresh_stays c w seat _ none stale = stale

-- What was given back, with one event more.

given_more_from : (c : Config) (w : World) (n : ℕ) (es : List Event) (e : Event) → given_back_from c w n (es ++ e ∷ [])
    ≡ given_back_behind c (left_from c w es) e.step (given_back_from c w n es)
unfolding given_back_from left_from
given_more_from c w n [] e = refl
given_more_from c w n (x ∷ es) e = given_more_from c (world_behind c w x) (given_back_behind c w x.step n) es e

pub given_more : (c : Config) (es : List Event) (e : Event)
    → given_back c (es ++ e ∷ []) ≡ given_back_behind c (left c es) e.step (given_back c es)
given_more c es e = given_more_from c (first_world c) 0 es e

pub none_given : (c : Config) → given_back c [] ≡ 0
unfolding given_back_from
none_given c = refl

-- Only a `release` gives back.
pub given_at : (c : Config) (w : World) (x : Step) → is_release x ≡ false → given_back_behind c w x 0 ≡ 0
given_at c w x3 none = grind arith
