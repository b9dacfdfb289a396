-- What one freed object changes among the allocations, and of the held words.
use Rattle.std.proofs.{Common.{ext_get_or, sum_by}, lemmas.List.Sums.sum_by-set}
use Rattle.mk_caller.proofs.Below.Laws.Vocabulary.{Bool, Cell, Config, List, PlacedAllocation, Some, Storage, Words, ℕ}
use Rattle.mk_caller.proofs.Below.Laws.Vocabulary.{ap, arith, cases_eq, changed_at, cond-false, cond-true, false}
use Rattle.mk_caller.proofs.Below.Laws.Vocabulary.{freed_leaves, freed_where_it_stands, get_or-set_other}
use Rattle.mk_caller.proofs.Below.Laws.Vocabulary.{get_or-set_same, if◌then◌else◌, inl, inr, is_large, is_mapped}
use Rattle.mk_caller.proofs.Below.Laws.Vocabulary.{kinds_of, length, length-map, length-set, map, never_granted}
use Rattle.mk_caller.proofs.Below.Laws.Vocabulary.{placed_at, refl, slice_set, stands_in, storage_of, storage_words}
use Rattle.mk_caller.proofs.Below.Laws.Vocabulary.{sym, true, [], ◌+◌, ◌<◌, ◌∙◌, ◌∷◌, ◌≡◌, ◌≢◌}
use Rattle.mk_alloc.proofs.ObjectVocabulary.{freed_and_fresh, held_by_allocations, sum_by-cons}
use Rattle.mk_geom.specs.Storages.{held_by_storages}
use Rattle.mk_core.specs.Allocations.{unreleased_storage}

-- what one allocation holds
abbrev pub held_part : Config → PlacedAllocation → ℕ
held_part c a = if is_mapped c a then storage_words c a else 0

abbrev words_mapped : Storage → ℕ
words_mapped s = if s.mapped then s.words else 0

held_first : (c : Config) (a : PlacedAllocation) (xs : List PlacedAllocation) (b : Bool) → a.released ≡ b
    → held_by_storages (if b then unreleased_storage c xs else storage_of c a ∷ unreleased_storage c xs) ≡ held_part c
    a + held_by_allocations c xs
held_first c a xs true is = grind (arith, held_part)
held_first c a xs false is = sum_by-cons words_mapped (storage_of c a) (unreleased_storage c xs)

pub held_sum : (c : Config) (xs : List PlacedAllocation) → held_by_allocations c xs ≡ sum_by (held_part c) xs
unfolding unreleased_storage
held_sum c [] = refl
held_sum c (a ∷ xs) = cc (held_first c a xs a.released refl, held_sum c xs, sum_by-cons (held_part c) a xs)

pub held_set : (c : Config) (xs : List PlacedAllocation) (n : ℕ) (y : PlacedAllocation) → n < length xs
    → held_by_allocations c (slice_set xs n y) + held_part c (placed_at xs n) ≡ held_by_allocations c xs + held_part c y
held_set c xs n y lt = grind (arith, sum_by-set, held_part, held_sum)

-- A free changes the allocation that stands in the cell, and no other.
pub freed_one : (w : Words) (cell : Cell) (xs : List PlacedAllocation) (n : ℕ) → n < length xs
    → stands_in w cell (placed_at xs n) ≡ true → ((i : ℕ) → i ≢ n → stands_in w cell (placed_at xs i) ≡ false)
    → map (freed_where_it_stands w (Some cell)) xs ≡ slice_set xs n (freed_and_fresh (placed_at xs n))
freed_one w cell xs n lt stands others =
    ext_get_or never_granted (map (freed_where_it_stands w (Some cell)) xs)
    (slice_set xs n (freed_and_fresh (placed_at xs n))) (length-map xs (freed_where_it_stands w (Some cell)) ∙ sym
    (length-set xs n (freed_and_fresh (placed_at xs n)))) (λ i le. elim (cases_eq i n) [
      | inl e ↦
          changed_at _ xs i (freed_leaves w (Some cell)).none ∙ ap (λ j. freed_where_it_stands w (Some cell) (placed_at
          xs j)) e ∙ cond-true _ _ _ stands ∙ sym (get_or-set_same xs n (freed_and_fresh (placed_at xs n)) never_granted
          lt) ∙ ap (λ j. placed_at (slice_set xs n (freed_and_fresh (placed_at xs n))) j) (sym e)
      | inr ne ↦
          changed_at _ xs i (freed_leaves w (Some cell)).none ∙ cond-false _ _ _ (others i ne) ∙ sym (get_or-set_other
          xs n i (freed_and_fresh (placed_at xs n)) never_granted ne)
    ])

-- A small object that is freed stays mapped, and a large one doesn't.
pub small_part : (c : Config) (a : PlacedAllocation) → is_large (kinds_of c.types a.ty) ≡ false
    → held_part c (freed_and_fresh a) ≡ held_part c a
small_part c a small = grind arith

pub large_part : (c : Config) (a : PlacedAllocation) → is_large (kinds_of c.types a.ty) ≡ true
    → held_part c (freed_and_fresh a) ≡ 0
large_part c a large = grind arith

pub live_part : (c : Config) (a : PlacedAllocation) → a.released ≡ false → a.freed ≡ false
    → held_part c a ≡ storage_words c a
live_part c a unreleased live = rw (unreleased, live) refl
