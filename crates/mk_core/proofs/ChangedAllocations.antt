-- Allocations that change one by one, and stay at their places.
use Rattle.mk_core.proofs.Vocabulary.{Cell, Config, HasItsHeaders, IsHeaderOf, List, None, Option, PlacedAllocation}
use Rattle.mk_core.proofs.Vocabulary.{Some, Words, ℕ, and-false, ap, arith, get_or_append_left, header_at}
use Rattle.mk_core.proofs.Vocabulary.{is_small_object, kinds_of, length, map, never_granted, object_placed, pages_made}
use Rattle.mk_core.proofs.Vocabulary.{placed_at, refl, stands_in, storage_of, subst, sym, true, unreleased_storage, []}
use Rattle.mk_core.proofs.{Vocabulary.{◌++◌, ◌+◌, ◌/◌, ◌<◌, ◌∷◌, ◌≡◌}, Sizes.large_is_not_small}
use Rattle.mk_core.proofs.UnreleasedStorage.{unreleased_kept}
use Rattle.mk_core.specs.{Allocations.{freed_where_it_stands, no_longer_fresh, with_released}, NewPlaces.object_of}
use Rattle.std.proofs.{Math.ListN.get_or-map as get_or-map-default, Math.Seq.get_or-append_seam, lemmas.Bool.cond_both}

-- what a change leaves as it is
pub record LeavesPlaces (change : PlacedAllocation → PlacedAllocation) : Type 0 where
  pub base : (a : PlacedAllocation) → (change a).base ≡ a.base
  pub ty : (a : PlacedAllocation) → (change a).ty ≡ a.ty
  pub none : change never_granted ≡ never_granted

pub changed_at : (change : PlacedAllocation → PlacedAllocation) (xs : List PlacedAllocation) (i : ℕ)
    → change never_granted ≡ never_granted → placed_at (map change xs) i ≡ change (placed_at xs i)
changed_at change xs i e = cc (e, get_or-map-default change xs i never_granted)

-- with one more at the end
pub granted_at : (xs : List PlacedAllocation) (a : PlacedAllocation) → placed_at (xs ++ a ∷ []) (length xs) ≡ a
granted_at xs a = get_or-append_seam xs a [] never_granted

pub earlier_at : (xs : List PlacedAllocation) (a : PlacedAllocation) (i : ℕ) → i < length xs
    → placed_at (xs ++ a ∷ []) i ≡ placed_at xs i
earlier_at xs a i lt = get_or_append_left xs (a ∷ []) never_granted i lt

-- what is so of it, freed or not, is so after a free
freed_or_not : (w : Words) (cell : Cell) (a : PlacedAllocation) (P : PlacedAllocation → Type 0)
    → P (record a { freed = true; fresh = true }) → P a → P (freed_where_it_stands w (Some cell) a)
freed_or_not w cell a P freed not_freed =
    cond_both (stands_in w cell a) (record a { freed = true; fresh = true }) a P (λ _. freed) (λ _. not_freed)

-- The three changes leave the places,
pub freed_leaves : (w : Words) (cell : Option Cell) → LeavesPlaces (freed_where_it_stands w cell)
freed_leaves w x1 = grind (arith, freed_or_not)

pub released_leaves : (c : Config) (w : Words) → LeavesPlaces (with_released c w)
released_leaves c w = record { base = λ a. refl; ty = λ a. refl; none = refl }

pub fresh_leaves : LeavesPlaces no_longer_fresh
fresh_leaves = record { base = λ a. refl; ty = λ a. refl; none = refl }

-- and a free releases none,
pub freed_released : (w : Words) (cell : Option Cell) (a : PlacedAllocation)
    → (freed_where_it_stands w cell a).released ≡ a.released
freed_released w None a = refl
freed_released w (Some cell) a = freed_or_not w cell a (λ x. x.released ≡ a.released) refl refl

-- nor changes the storage of a small object.
pub freed_storage : (c : Config) (w : Words) (cell : Option Cell) (a : PlacedAllocation)
    → is_small_object (object_placed c a) ≡ true → storage_of c (freed_where_it_stands w cell a) ≡ storage_of c a
freed_storage c w x2 a small = grind (arith, freed_or_not, large_is_not_small, and-false)

-- If nothing is freed, nothing changes.
pub none_freed : (w : Words) (xs : List PlacedAllocation) → map (freed_where_it_stands w None) xs ≡ xs
none_freed w [] = refl
none_freed w (a ∷ xs) = ap (λ (ys : List PlacedAllocation). a ∷ ys) (none_freed w xs)

pub fresh_storage : (c : Config) (xs : List PlacedAllocation)
    → unreleased_storage c (map no_longer_fresh xs) ≡ unreleased_storage c xs
fresh_storage c xs = unreleased_kept c no_longer_fresh (λ a. refl) (λ a unreleased. refl) xs

pub same_headers : (c : Config) (w : Words) (a b : PlacedAllocation) → b.base ≡ a.base → b.ty ≡ a.ty
    → HasItsHeaders c w a → HasItsHeaders c w b
same_headers c w a b base ty has = subst (λ n. (d : ℕ) → d < pages_made (object_placed c b) → IsHeaderOf
    (object_placed c b) d (header_at w (n / 64 + d))) (sym base) (subst (λ t. (d : ℕ) → d < pages_made (object_of
    (kinds_of c.types t)) → IsHeaderOf (object_of (kinds_of c.types t)) d (header_at w (a.base / 64 + d))) (sym ty) has)
