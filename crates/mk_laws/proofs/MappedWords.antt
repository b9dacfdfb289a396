-- Words of mapped allocations, after a change of the allocations.
use Rattle.mk_laws.proofs.Vocabulary.{Bool, Config, HasItsHeaders, IsWithinLimits, IsWordOfMapped, LeavesPlaces, List}
use Rattle.mk_laws.proofs.Vocabulary.{PlacedAllocation, StandsOnHeap, Words, ℕ, and_from, and_parts, ap, arith}
use Rattle.mk_laws.proofs.Vocabulary.{cases_lt, cell_of_allocation, changed_at, false, fresh_leaves, get_or_past}
use Rattle.mk_laws.proofs.Vocabulary.{is_large, is_left_unmarked, is_mapped, kinds_of, map, no_longer_fresh, not}
use Rattle.mk_laws.proofs.Vocabulary.{not-true, placed_at, released_leaves, released_where_left, true, with_released}
use Rattle.mk_laws.proofs.Vocabulary.{[], ◌&&◌, ◌++◌, ◌∙◌, ◌∷◌, ◌≡◌}
use Rattle.mk_core.proofs.ChangedAllocations.{earlier_at}

-- A mapped allocation isn't released, so it is there.
pub mapped_stays : (c : Config) (a : PlacedAllocation) → is_mapped c a ≡ true → a.released ≡ false
mapped_stays c a h = not-true a.released (and_parts _ _ h).0

-- with one more at the end
pub word_of_longer : (c : Config) (xs : List PlacedAllocation) (a : PlacedAllocation) (n : ℕ) → IsWordOfMapped c xs n
    → IsWordOfMapped c (xs ++ a ∷ []) n
word_of_longer c xs a n m = grind (arith, earlier_at, cases_lt, get_or_past, mapped_stays)

-- An allocation that stays at its place, and mapped, keeps its words.
pub word_of_changed : {c : Config} {g : PlacedAllocation → PlacedAllocation} {xs : List PlacedAllocation} {n : ℕ}
    → LeavesPlaces g
    → (m : IsWordOfMapped c xs n) → is_mapped c (g (placed_at xs m.number)) ≡ true → IsWordOfMapped c (map g xs) n
word_of_changed leaves m stays = grind (arith, changed_at)

-- `begin`
pub word_of_fresh : (c : Config) (xs : List PlacedAllocation) (n : ℕ) → IsWordOfMapped c xs n
    → IsWordOfMapped c (map no_longer_fresh xs) n
word_of_fresh c xs n m = word_of_changed fresh_leaves m m.mapped

-- `release`, if the allocation's cell isn't left unmarked
pub word_of_unreleased : {c : Config} (w : Words) {xs : List PlacedAllocation} {n : ℕ} → IsWithinLimits c
    → (m : IsWordOfMapped c xs n) → StandsOnHeap c (placed_at xs m.number) → HasItsHeaders c w (placed_at xs m.number)
    → is_left_unmarked w (cell_of_allocation c (placed_at xs m.number)) ≡ false
    → IsWordOfMapped c (map (with_released c w) xs) n
word_of_unreleased {c} w {xs = xs} {n = n} limits m stands headers kept =
    let a : PlacedAllocation = placed_at xs m.number in
    let unmapped : Bool = a.freed && is_large (kinds_of c.types a.ty) in
    word_of_changed (released_leaves c w) m (and_from _ (not unmapped)
    (ap not (released_where_left c w a limits stands headers ∙ kept)) (and_parts _ (not unmapped) m.mapped).1)
