-- The classes, one by one, and the cells of a page.
use Rattle.std.proofs.Common.{List, None, Option, Some, ℕ, ap, arith, get_or, leb-true, map, refl, slice_index, sym, []}
use Rattle.std.proofs.{Common.{◌*◌, ◌+◌, ◌-◌, ◌/◌, ◌<◌, ◌∙◌, ◌∷◌, ◌≡◌, ◌≤◌}, lemmas.Bool.{cond-false, cond-true}}
use Rattle.std.proofs.lemmas.List.{FromFn.get_or-map-range_with_len, Quantifiers.position-Some}
use Rattle.std.{proofs.{lemmas.Nat.{le-div, mul-le}, lemmas.Option.none-some}, specs.List.{range_with_len}}
use Rattle.mk_geom.specs.Addresses.{cells_of, class_for, class_words_of}

pub class_for-class_words_of : (class : ℕ) → class < 8 → class_for (class_words_of class) ≡ Some class
class_for-class_words_of x0 known = grind arith

pub class_words_within : (class : ℕ) → class < 8 → (2 ≤ class_words_of class) × (class_words_of class ≤ 32)
class_words_within x0 known = grind arith

-- the class of a small object, by its pairs of words
abbrev pub class_by_pairs : List ℕ
class_by_pairs = 0 ∷ 0 ∷ 1 ∷ 2 ∷ 3 ∷ 4 ∷ 4 ∷ 5 ∷ 5 ∷ 6 ∷ 6 ∷ 6 ∷ 6 ∷ 7 ∷ 7 ∷ 7 ∷ 7 ∷ []

abbrev listed_class : ℕ → Option ℕ
listed_class words = Some (slice_index class_by_pairs ((words + 1) / 2))

same_classes : map class_for (range_with_len 1 32) ≡ map listed_class (range_with_len 1 32)
same_classes = refl

pub classes_listed : (words : ℕ) → 1 ≤ words → words ≤ 32 → class_for words
    ≡ Some (slice_index class_by_pairs ((words + 1) / 2))
classes_listed words some small =
    let place : words - 1 < 32 = omega (arith, some, small) in
    let is : 1 + (words - 1) ≡ words = omega (arith, some) in
    sym (get_or-map-range_with_len class_for 1 32 (words - 1) words None place is) ∙ ap (λ xs. get_or xs
    (words - 1) None) same_classes ∙ get_or-map-range_with_len listed_class 1 32 (words - 1) words None place is

-- the cells of a block, by class
pub cells_listed : (class : ℕ) → class < 8 → slice_index (32 ∷ 16 ∷ 10 ∷ 8 ∷ 5 ∷ 4 ∷ 2 ∷ 2 ∷ []) class ≡ cells_of class
cells_listed x0 known = grind arith

-- a word of a page, divided by the words of a cell
pub divided_by_shares : (class word : ℕ) → class < 8 → word < 64
    → word * slice_index (512 ∷ 256 ∷ 171 ∷ 128 ∷ 86 ∷ 64 ∷ 43 ∷ 32 ∷ []) class / 1024 ≡ word / class_words_of class
divided_by_shares x0 word known within = grind arith

-- a cell of this many words ends within its page
pub cell_ends : (index words : ℕ) → index < 64 / words → index * words + words ≤ 64
cell_ends index words within = grind (arith, mul-le)

pub class_for-some : (words class : ℕ) → class_for words ≡ Some class → (class < 8) × (words ≤ class_words_of class)
class_for-some words class is = grind (arith, none-some, cond-true, position-Some, cond-false, leb-true)

pub some_cells : (class : ℕ) → class < 8 → 0 < cells_of class
some_cells class known = grind (arith, class_words_within, le-div)
