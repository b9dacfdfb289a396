-- The words of a page, by any storage that stands on it.
use Rattle.std.proofs.Common.{Contains, List, Some, ℕ, ap, arith, false, inl, inr, le-leb, sym, true, ◌*◌, ◌+◌, ◌-◌}
use Rattle.std.proofs.{Common.{◌/◌, ◌<◌, ◌∙◌, ◌≡◌}, lemmas.Bool.{cond-false, cond-true, false≢true, lt-leb}}
use Rattle.mk_geom.proofs.Standing.{class_of_words, same_or_alike, stands_at_first, stands_from, storage_in}
use Rattle.mk_geom.proofs.{ClassTable.{cell_ends, class_words_within}, ListSearch.find_cases}
use Rattle.mk_geom.specs.Storages.{AreLaidOut, Storage, block_page, class_of_storage, first_page, free_page, is_small}
use Rattle.mk_geom.specs.Storages.{run_page, stands_on, taken_cells, used_word, words_by, words_of_storages}
use Rattle.mk_geom.specs.Addresses.{cells_of, class_words_of}

pub words_by_small : (page : ℕ) (xs : List Storage) (s : Storage) → is_small s ≡ true → words_by xs page (Some s)
    ≡ block_page (class_of_storage s) s.leaf (used_word (taken_cells xs page (class_of_storage s)))
words_by_small page xs s small = cond-true (is_small s) _ _ small

pub words_by_large : (page : ℕ) (xs : List Storage) (s : Storage) → is_small s ≡ false
    → words_by xs page (Some s) ≡ run_page (s.words / 64) s.mapped s.leaf (page - first_page s)
words_by_large page xs s large = cond-false (is_small s) _ _ large

-- Any storage on a page says what its words are, and if there is none they are 0.
pub words_at : (n page : ℕ) (xs : List Storage) (s : Storage) → AreLaidOut n xs → Contains xs s
    → stands_on page s ≡ true → words_of_storages xs page ≡ words_by xs page (Some s)
words_at n page xs s laid inside stands = elim (find_cases (stands_on page) xs) [
  | inl (t, found, t_inside, t_stands) ↦
      ap (words_by xs page) found ∙ elim (same_or_alike n xs page t s laid t_inside inside t_stands stands) [
        | inl same ↦ ap (λ (x : Storage). words_by xs page (Some x)) same
        | inr alike ↦ grind (arith, words_by_small)
      ]
  | inr (none, others) ↦ absurd (false≢true (sym (others s inside) ∙ stands))
]

-- The words of a page, if a storage is on it: `words_at` reads them off any storage there is, and these two say them of
-- a cell and of a run that the list has, each by its numbers.
module _ (n : ℕ) (xs : List Storage) (s : Storage) (laid : AreLaidOut n xs) (inside : Contains xs s) where
  pub cell_page_words : (page class index : ℕ) → class < 8 → index < cells_of class
      → s.first ≡ 64 * page + index * class_words_of class → s.words ≡ class_words_of class
      → words_of_storages xs page ≡ block_page class s.leaf (used_word (taken_cells xs page class))
  cell_page_words page class index known within first words =
      let range = class_words_within class known in
      let ends = cell_ends index (class_words_of class) within in
      let small : is_small s ≡ true = le-leb s.words 32 (omega arith) in
      let class_is : class_of_storage s ≡ class = class_of_words s class known words in
      words_at n page xs s laid inside (stands_at_first n s page (storage_in n xs s laid inside) (omega arith))
      ∙ words_by_small page xs s small
      ∙ ap (λ (c : ℕ). block_page c s.leaf (used_word (taken_cells xs page c))) class_is

  pub run_page_words : (first count distance : ℕ) → s.first ≡ 64 * first → s.words ≡ 64 * count → distance < count
      → words_of_storages xs (first + distance) ≡ run_page count s.mapped s.leaf distance
  run_page_words first count distance begins words near =
      let large : is_small s ≡ false = lt-leb s.words 32 (omega arith) in
      let pages : s.words / 64 ≡ count = omega arith in
      let behind : first + distance - first_page s ≡ distance = omega arith in
      words_at n (first + distance) xs s laid inside (stands_from (first + distance) s (omega arith) (omega arith))
      ∙ words_by_large (first + distance) xs s large ∙ ap (λ (k : ℕ). run_page k s.mapped s.leaf
      (first + distance - first_page s)) pages ∙ ap (run_page count s.mapped s.leaf) behind

pub words_free : (page : ℕ) (xs : List Storage) → ((s : Storage) → Contains xs s → stands_on page s ≡ false)
    → words_of_storages xs page ≡ free_page
words_free page xs none = grind (arith, find_cases)
