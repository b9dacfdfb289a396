-- Which pages a storage stands on, and what two storages on one page share.
use Rattle.std.proofs.Common.{Contains, List, ℕ, ap, arith, false, get_or, inl, inr, le-leb, leb-true, refl, subst, sym}
use Rattle.std.proofs.{Common.{true, ◌%◌, ◌+◌, ◌-◌, ◌/◌, ◌<◌, ◌∙◌, ◌≡◌, ◌≤◌, ◌⊎◌}, lemmas.Bool.{and_from, and_parts}}
use Rattle.std.proofs.lemmas.{Bool.{cases_eq, false≢true, lt-leb}, List.get_or_default}
use Rattle.std.proofs.lemmas.List.Elements.{All-contains}
use Rattle.mk_geom.proofs.ClassTable.{cell_ends, class_for-class_words_of, class_words_within}
use Rattle.mk_geom.specs.Storages.{AreLaidOut, IsCell, IsRun, IsStorage, LieApart, Storage, class_of_storage, is_small}
use Rattle.mk_geom.specs.{Storages.stands_on, Addresses.class_words_of}

-- a cell lies within a page
pub cell_within : (s : Storage) → IsCell s → (1 ≤ s.words) × (s.words ≤ 32) × (s.first % 64 + s.words ≤ 64)
cell_within s cell = grind (arith, class_words_within, cell_ends)

pub class_of_words : (s : Storage) (class : ℕ) → class < 8 → s.words ≡ class_words_of class → class_of_storage s ≡ class
class_of_words s class known words = rw (words, class_for-class_words_of class known) refl

pub class_of_cell : (s : Storage) (cell : IsCell s) → class_of_storage s ≡ cell.class
class_of_cell s cell = class_of_words s cell.class cell.known cell.words

pub small_is_cell : (n : ℕ) (s : Storage) → IsStorage n s → is_small s ≡ true → IsCell s
small_is_cell n s (inl cell, inside) small = cell
small_is_cell n s (inr run, inside) small = grind (arith, lt-leb)

pub large_is_run : (n : ℕ) (s : Storage) → IsStorage n s → is_small s ≡ false → IsRun s
large_is_run n s (inl cell, inside) large = absurd (false≢true (sym large ∙ (le-leb s.words 32 (cell_within s cell).1)))
large_is_run n s (inr run, inside) large = run

pub has_words : (n : ℕ) (s : Storage) → IsStorage n s → 1 ≤ s.words
has_words n s x2 = grind (arith, cell_within)

pub stands_parts : (page : ℕ) (s : Storage) → stands_on page s ≡ true
    → (s.first / 64 ≤ page) × (page ≤ (s.first + s.words - 1) / 64)
stands_parts page s stands = grind (arith, and_parts, leb-true)

pub stands_from : (page : ℕ) (s : Storage) → s.first / 64 ≤ page → page ≤ (s.first + s.words - 1) / 64
    → stands_on page s ≡ true
stands_from page s begins ends = and_from _ _ (le-leb _ page begins) (le-leb page _ ends)

-- a storage stands on the page of its first word, and a cell on no other
pub stands_at_first : (n : ℕ) (s : Storage) (page : ℕ) → IsStorage n s → s.first / 64 ≡ page → stands_on page s ≡ true
stands_at_first n s page is at = stands_from page s (omega arith) (omega (arith, has_words n s is))

pub cell_stands_at : (s : Storage) (page : ℕ) → IsCell s → stands_on page s ≡ true → s.first / 64 ≡ page
cell_stands_at s page cell stands = omega (arith, stands_parts page s stands, cell_within s cell)

-- what two storages that share a page have in common
pub record AreAlike (s t : Storage) : Type 0 where
  pub small : is_small s ≡ true
  pub small_too : is_small t ≡ true
  pub words : s.words ≡ t.words
  pub leaf : s.leaf ≡ t.leaf

pub storage_in : (n : ℕ) (xs : List Storage) (s : Storage) → AreLaidOut n xs → Contains xs s → IsStorage n s
storage_in n xs s laid inside = All-contains (IsStorage n) xs s laid.each inside

pub same_or_apart : (n : ℕ) (xs : List Storage) (s t : Storage) → AreLaidOut n xs → Contains xs s → Contains xs t
    → (s ≡ t) ⊎ LieApart s t
same_or_apart n xs s t laid (i, i_within, i_is) (j, j_within, j_is) = elim (cases_eq i j) [
  | inl same ↦ inl (sym i_is ∙ get_or_default xs i s t i_within ∙ ap (λ k. get_or xs k t) same ∙ j_is)
  | inr other ↦
      let s_is : get_or xs i t ≡ s = get_or_default xs i t s i_within ∙ i_is in
      let apart = laid.apart i j t i_within j_within other in
      inr (subst (λ (x : Storage). LieApart x t) s_is (subst (λ (x : Storage). LieApart (get_or xs i t) x) j_is apart))
]

pub same_or_alike : (n : ℕ) (xs : List Storage) (page : ℕ) (s t : Storage) → AreLaidOut n xs → Contains xs s
    → Contains xs t → stands_on page s ≡ true → stands_on page t ≡ true → (s ≡ t) ⊎ AreAlike s t
same_or_alike n xs page s t laid s_in t_in s_stands t_stands = elim (same_or_apart n xs s t laid s_in t_in) [
  | inl same ↦ inl same
  | inr apart ↦
      let alike = apart.alike page s_stands t_stands in
      inr (record { small = alike.0; small_too = alike.1; words = alike.2; leaf = alike.3 })
]
