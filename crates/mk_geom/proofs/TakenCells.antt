-- The cells of a page that storages take.
use Rattle.std.proofs.Common.{All, Bool, Contains, List, ℕ, arith, eq-eqb, eqb-true, false, get_or, get_or-set_other}
use Rattle.std.proofs.Common.{get_or-set_same, inl, inr, length, length-set, set, sym, true, ◌*◌, ◌+◌, ◌<◌, ◌==◌, ◌∙◌}
use Rattle.std.proofs.{Common.{◌≡◌, ◌≢◌, ◌≤◌}, lemmas.Bool.{cases_eq, cases_order, false_from_ne_true, false≢true}}
use Rattle.std.proofs.lemmas.List.FromFn.{get_or-map-range_with_len, length-map-range_with_len}
use Rattle.std.proofs.lemmas.{List.{same_lists, Elements.All-contains}, Nat.mul-le}
use Rattle.mk_geom.proofs.{ClassTable.{cell_ends, class_words_within}, ListSearch.{list_any_found, list_any_from}}
use Rattle.mk_geom.{proofs.Standing.{stands_at_first}, specs.Addresses.{cells_of, class_words_of}}
use Rattle.mk_geom.specs.Storages.{IsStorage, Storage, is_cell_taken, stands_on, taken_cells}

-- each of these storages that stands on the page is one of those
abbrev pub Carries : ℕ → List Storage → List Storage → Type 0
Carries page xs ys = (s : Storage) → stands_on page s ≡ true → Contains xs s → Contains ys s

pub same_from_both : (a b : Bool) → (a ≡ true → b ≡ true) → (b ≡ true → a ≡ true) → a ≡ b
same_from_both x0 b there back = grind arith

-- the storage that begins at a taken cell stands on the page
pub cell_taken_by : (n page class k : ℕ) (xs : List Storage) → class < 8 → k < cells_of class → All (IsStorage n) xs
    → is_cell_taken xs page (class_words_of class) k ≡ true
    → (s : Storage) × Contains xs s × (s.first ≡ 64 * page + k * class_words_of class) × (stands_on page s ≡ true)
cell_taken_by n page class k xs known within each taken =
    let (s, inside, at) = list_any_found (λ (s : Storage). s.first == 64 * page + k * class_words_of class) xs taken in
    let first : s.first ≡ 64 * page + k * class_words_of class = grind (arith, eqb-true) in
    let range = class_words_within class known in
    let ends = cell_ends k (class_words_of class) within in
    (s, inside, first, stands_at_first n s page (All-contains (IsStorage n) xs s each inside) (omega arith))

pub cell_taken_from : (page words k : ℕ) (xs : List Storage) (s : Storage) → Contains xs s
    → s.first ≡ 64 * page + k * words → is_cell_taken xs page words k ≡ true
cell_taken_from page words k xs s inside first =
    list_any_from (λ (s : Storage). s.first == 64 * page + k * words) xs s inside
    (eq-eqb s.first (64 * page + k * words) first)

pub length-taken_cells : (xs : List Storage) (page class : ℕ) → length (taken_cells xs page class) ≡ cells_of class
length-taken_cells xs page class = grind (arith, length-map-range_with_len)

pub get_or-taken_cells : (xs : List Storage) (page class k : ℕ) (d : Bool) → k < cells_of class
    → get_or (taken_cells xs page class) k d ≡ is_cell_taken xs page (class_words_of class) k
get_or-taken_cells xs page class k d within = grind (arith, get_or-map-range_with_len)

-- the same storages on a page take the same cells
pub taken_same : (n page class : ℕ) (xs ys : List Storage) → class < 8 → All (IsStorage n) xs → All (IsStorage n) ys
    → Carries page xs ys → Carries page ys xs → taken_cells xs page class ≡ taken_cells ys page class
taken_same n page class xs ys known xs_each ys_each there back = same_lists _ _ same_length each
  where
    same_length : length (taken_cells xs page class) ≡ length (taken_cells ys page class)
    same_length = length-taken_cells xs page class ∙ sym (length-taken_cells ys page class)

    along : (us vs : List Storage) → All (IsStorage n) us → Carries page us vs → (k : ℕ) → k < cells_of class
        → is_cell_taken us page (class_words_of class) k ≡ true → is_cell_taken vs page (class_words_of class) k ≡ true
    along us vs each carries k within taken =
        let (s, inside, first, stands) = cell_taken_by n page class k us known within each taken in
        cell_taken_from page (class_words_of class) k vs s (carries s stands inside) first

    one : (k : ℕ) → k < cells_of class
        → is_cell_taken xs page (class_words_of class) k ≡ is_cell_taken ys page (class_words_of class) k
    one k within = same_from_both _ _ (along xs ys xs_each there k within) (along ys xs ys_each back k within)

    each : (k : ℕ) (d : Bool) → k < length (taken_cells xs page class)
        → get_or (taken_cells xs page class) k d ≡ get_or (taken_cells ys page class) k d
    each k d below =
        let within : k < cells_of class = omega (arith, length-taken_cells xs page class) in
        get_or-taken_cells xs page class k d within ∙ one k within ∙ sym (get_or-taken_cells ys page class k d within)

-- Only one cell of a page is another.
pub taken_cells-set : (page class index : ℕ) (xs ys : List Storage) (b : Bool)
    → is_cell_taken ys page (class_words_of class) index ≡ b → ((k : ℕ) → k < cells_of class → k ≢ index
    → is_cell_taken ys page (class_words_of class) k ≡ is_cell_taken xs page (class_words_of class) k)
    → taken_cells ys page class ≡ set (taken_cells xs page class) index b
taken_cells-set page class index xs ys b here others = same_lists _ _ same_length each
  where
    old : List Bool
    old = taken_cells xs page class

    same_length : length (taken_cells ys page class) ≡ length (set (taken_cells xs page class) index b)
    same_length = cc (length-taken_cells ys page class, length-taken_cells xs page class, length-set old index b)

    each : (k : ℕ) (d : Bool) → k < length (taken_cells ys page class)
        → get_or (taken_cells ys page class) k d ≡ get_or (set (taken_cells xs page class) index b) k d
    each k d below =
        let within : k < cells_of class = omega (arith, length-taken_cells ys page class) in
        get_or-taken_cells ys page class k d within ∙ elim (cases_eq k index) [
          | inl same ↦ cc (here, get_or-set_same old index b d (omega (arith, length-taken_cells xs page class, same)))
          | inr other ↦ others k within other ∙ sym (get_or-taken_cells xs page class k d within)
              ∙ sym (get_or-set_other old index k b d other)
        ]

-- two cells of a page begin at one word only if they are one
pub same_index : (words i j : ℕ) → 1 ≤ words → i * words ≡ j * words → i ≡ j
same_index words i j some same = grind (arith, cases_order, mul-le)

-- where there is no storage, no cell is taken
pub none_taken : (n page class : ℕ) (xs : List Storage) → class < 8 → All (IsStorage n) xs
    → ((s : Storage) → Contains xs s → stands_on page s ≡ false) → (k : ℕ) → k < cells_of class
    → is_cell_taken xs page (class_words_of class) k ≡ false
none_taken n page class xs known each none k within = false_from_ne_true _ (λ taken.
    let (s, inside, first, stands) =
    cell_taken_by n page class k xs known within each taken in false≢true (sym (none s inside) ∙ stands))
