-- The unreleased storage: in parts, after changes, and which allocation has a storage of it.
use Rattle.std.proofs.Common.{Contains}
use Rattle.mk_core.proofs.Vocabulary.{Config, List, PlacedAllocation, Storage, ℕ, ap, arith, cases_Bool, cond-false}
use Rattle.mk_core.proofs.Vocabulary.{cond-true, false, inl, inr, map, placed_at, refl, storage_of, subst, suc, sym}
use Rattle.mk_core.proofs.Vocabulary.{true, true≢false, unreleased_storage, zero, [], ◌++◌, ◌∙◌, ◌∷◌, ◌≡◌}
use Rattle.mk_core.specs.Allocations.{HasStorage, UnreleasedStorageInParts, UnreleasedStorageIsOfAllocations}

-- one allocation more at the front
pub unreleased_front : (c : Config) (a : PlacedAllocation) (xs : List PlacedAllocation) → a.released ≡ false
    → unreleased_storage c (a ∷ xs) ≡ storage_of c a ∷ unreleased_storage c xs
unfolding unreleased_storage
unreleased_front c a xs unreleased = grind (arith, cond-false)

pub released_front : (c : Config) (a : PlacedAllocation) (xs : List PlacedAllocation) → a.released ≡ true
    → unreleased_storage c (a ∷ xs) ≡ unreleased_storage c xs
unfolding unreleased_storage
released_front c a xs released = grind (arith, cond-true)

none_unreleased : (c : Config) → unreleased_storage c [] ≡ []
unfolding unreleased_storage
none_unreleased c = refl

pub unreleased_in_parts : UnreleasedStorageInParts
unreleased_in_parts c [] ys = ap (λ (ss : List Storage). ss ++ unreleased_storage c ys) (sym (none_unreleased c))
unreleased_in_parts c (a ∷ xs) ys = elim (cases_Bool a.released) [
  | inl released ↦
      cc (released_front c a (xs ++ ys) released, unreleased_in_parts c xs ys, released_front c a xs released)
  | inr unreleased ↦
      cc (unreleased_front c a (xs ++ ys) unreleased, unreleased_in_parts c xs ys, unreleased_front c a xs unreleased)
]

-- with one allocation more at the end
pub unreleased_more : (c : Config) (xs : List PlacedAllocation) (a : PlacedAllocation) → a.released ≡ false
    → unreleased_storage c (xs ++ a ∷ []) ≡ unreleased_storage c xs ++ storage_of c a ∷ []
unreleased_more c xs a unreleased = grind (arith, unreleased_in_parts, unreleased_front, none_unreleased)

-- A change of each allocation that releases none and leaves each storage leaves all.
pub unreleased_kept : (c : Config) (f : PlacedAllocation → PlacedAllocation) → ((a : PlacedAllocation)
    → (f a).released ≡ a.released) → ((a : PlacedAllocation) → a.released ≡ false → storage_of c (f a) ≡ storage_of c a)
    → (xs : List PlacedAllocation) → unreleased_storage c (map f xs) ≡ unreleased_storage c xs
unreleased_kept c f same storage [] = refl
unreleased_kept c f same storage (a ∷ xs) = elim (cases_Bool a.released) [
  | inl released ↦ released_front c (f a) (map f xs) (same a ∙ released) ∙ unreleased_kept c f same storage xs
      ∙ sym (released_front c a xs released)
  | inr unreleased ↦ unreleased_front c (f a) (map f xs) (same a ∙ unreleased)
      ∙ ap (λ (s : Storage). s ∷ unreleased_storage c (map f xs)) (storage a unreleased)
      ∙ ap (λ (ss : List Storage). storage_of c a ∷ ss) (unreleased_kept c f same storage xs)
      ∙ sym (unreleased_front c a xs unreleased)
]

-- Which allocation has it.

contains_more : (xs : List Storage) (x s : Storage) → Contains xs s → Contains (x ∷ xs) s
contains_more xs x s (k, within, at) = (suc k, omega arith, at)

-- the storage of the unreleased allocation i
pub has_its_storage : (c : Config) (xs : List PlacedAllocation) (i : ℕ) → (placed_at xs i).released ≡ false
    → Contains (unreleased_storage c xs) (storage_of c (placed_at xs i))
has_its_storage c [] i unreleased = absurd (true≢false unreleased)
has_its_storage c (a ∷ xs) zero unreleased = grind (arith, unreleased_front)
has_its_storage c (a ∷ xs) (suc i) unreleased = elim (cases_Bool a.released) [
  | inl released ↦
      subst (λ (ss : List Storage). Contains ss (storage_of c (placed_at xs i))) (sym (released_front c a xs released))
      (has_its_storage c xs i unreleased)
  | inr here ↦
      subst (λ (ss : List Storage). Contains ss (storage_of c (placed_at xs i))) (sym (unreleased_front c a xs here))
      (contains_more (unreleased_storage c xs) (storage_of c a) (storage_of c (placed_at xs i))
      (has_its_storage c xs i unreleased))
]

has_more : {c : Config} (a : PlacedAllocation) {xs : List PlacedAllocation} {s : Storage} → HasStorage c xs s
    → HasStorage c (a ∷ xs) s
has_more a h = record { number = suc h.number; unreleased = h.unreleased; storage = h.storage }

pub storage_is_of : (c : Config) (xs : List PlacedAllocation) (s : Storage) → Contains (unreleased_storage c xs) s
    → HasStorage c xs s
storage_is_of c [] s h = grind (arith, none_unreleased)
storage_is_of c (a ∷ xs) s h = elim (cases_Bool a.released) [
  | inl released ↦ has_more a
      (storage_is_of c xs s (subst (λ (ss : List Storage). Contains ss s) (released_front c a xs released) h))
  | inr unreleased ↦ by unreleased (λ k. has_more a (storage_is_of c xs s k))
      (subst (λ (ss : List Storage). Contains ss s) (unreleased_front c a xs unreleased) h)
]
  where
    by : a.released ≡ false → (Contains (unreleased_storage c xs) s → HasStorage c (a ∷ xs) s)
        → Contains (storage_of c a ∷ unreleased_storage c xs) s → HasStorage c (a ∷ xs) s
    by unreleased rest (zero, within, at) = record { number = 0; unreleased = unreleased; storage = sym at }
    by unreleased rest (suc k, within, at) = rest (k, omega arith, at)

pub unreleased_is_of_allocations : UnreleasedStorageIsOfAllocations
unreleased_is_of_allocations c xs s = (
  storage_is_of c xs s,
  λ h. subst (λ (x : Storage). Contains (unreleased_storage c xs) x) (sym h.storage)
      (has_its_storage c xs h.number h.unreleased),
)
