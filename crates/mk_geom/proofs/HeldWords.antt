-- The words that pages hold are those of the mapped storages that stand on them.
use Rattle.std.proofs.Common.{Bool, Contains, List, Option, Some, ℕ, ap, arith, cond, false, find, get_or}
use Rattle.std.proofs.Common.{if◌then◌else◌, inl, inr, length, ne_eqb, refl, set, subst, suc, sym, true, [], ◌*◌, ◌+◌}
use Rattle.std.proofs.{Common.{◌<◌, ◌∙◌, ◌∷◌, ◌≡◌, ◌≢◌, ◌≤◌}, lemmas.Bool.{cases_Bool, cond-false, cond-true}}
use Rattle.std.proofs.lemmas.{Bool.{false_from_ne_true, false≢true}, List.Elements.{All-head, All-tail}}
use Rattle.std.{proofs.lemmas.List.Sums.{sum_by-cons, sum_by-set}, specs.List.{count_by}}
use Rattle.mk_geom.proofs.{Bridge.same_uses, ListSearch.{Contains-head, Contains-tail, find_cases}}
use Rattle.mk_geom.proofs.PageSums.{sum_below, sum_below-add, sum_below-block, sum_below-zero, sum_by-range}
use Rattle.mk_geom.proofs.Standing.{cell_stands_at, cell_within, class_of_cell, has_words, large_is_run, small_is_cell}
use Rattle.mk_geom.proofs.Standing.{stands_from, stands_parts, storage_in}
use Rattle.mk_geom.proofs.TakenCells.{cell_taken_by, cell_taken_from, get_or-taken_cells, length-taken_cells}
use Rattle.mk_geom.proofs.TakenCells.{none_taken, same_index, taken_cells-set, taken_same}
use Rattle.mk_geom.proofs.{ClassTable.class_words_within, PointedCells.{class_has_words, first_in_page}}
use Rattle.mk_geom.specs.{Addresses.{cells_of, class_words_of}, PageUses.{Cells, PageUse, PartOfRun, held_by_use}}
use Rattle.mk_geom.specs.{PageUses.held_by_uses, Storages.{AreLaidOut, IsCell, IsStorage, LieApart, PagesStandFor}}
use Rattle.mk_geom.specs.Storages.{Storage, class_of_storage, first_page, is_cell_taken, is_small, last_page, stands_on}
use Rattle.mk_geom.specs.{Storages.{taken_cells, use_by, use_of_storages}, PageUses.uses_of_pages}
use Rattle.mk_geom.specs.{Storages.held_by_storages, declared.pages.Page.Page}

-- the words of a storage that are on one page, if it is mapped
abbrev pub words_there : Storage → ℕ
words_there s = if s.mapped then (if is_small s then s.words else 64) else 0

abbrev pub words_on : Storage → ℕ → ℕ
words_on s page = if stands_on page s then words_there s else 0

abbrev pub held_by : Storage → ℕ
held_by s = if s.mapped then s.words else 0

words_on_page : (s : Storage) (page : ℕ) → stands_on page s ≡ true → words_on s page ≡ words_there s
words_on_page s page stands = cond-true (stands_on page s) (words_there s) 0 stands

words_off_page : (s : Storage) (page : ℕ) → (stands_on page s ≡ true → ⊥) → words_on s page ≡ 0
words_off_page s page elsewhere = grind (arith, cond-false, words_there, false_from_ne_true)

-- a storage that stands on this many pages
sum_on_pages : (s : Storage) (n count : ℕ) → first_page s + count ≡ last_page s + 1 → first_page s + count ≤ n
    → sum_below (words_on s) n ≡ count * words_there s
sum_on_pages s n count ends within = sum_below-block (words_on s) (first_page s) count (words_there s)
    (λ p low. words_off_page s p (λ stands. let parts = stands_parts p s stands in omega arith))
    (λ p low high. words_on_page s p (stands_from p s low (omega arith)))
    (λ p past. words_off_page s p (λ stands. let parts = stands_parts p s stands in omega arith)) n within

small_there : (s : Storage) → is_small s ≡ true → words_there s ≡ held_by s
small_there s small = ap (λ (n : ℕ). if s.mapped then n else 0) (cond-true (is_small s) s.words 64 small)

-- the words of a storage, page by page
pub storage_sum : (n : ℕ) (s : Storage) → IsStorage n s → sum_below (words_on s) n ≡ held_by s
storage_sum n s is = elim (cases_Bool (is_small s)) [
  | inl small ↦
      let cell = small_is_cell n s is small in
      let within = cell_within s cell in
      let sum = sum_on_pages s n 1 (omega arith) (omega (arith, is.1)) in
      omega (arith, sum, small_there s small)
  | inr large ↦
      let run = large_is_run n s is large in
      sum_on_pages s n run.pages (omega (arith, run.first, run.words, run.some))
      (omega (arith, run.first, run.words, is.1)) ∙ (grind (arith, cond-false))
]

-- how many bits are set
abbrev count : List Bool → ℕ
count bits = count_by (λ cell. cell) bits

one_more : (bits : List Bool) (k : ℕ) → k < length bits → get_or bits k true ≡ false
    → count (set bits k true) ≡ count bits + 1
one_more bits k within unset = grind (arith, sum_by-set)

none_set : (bits : List Bool) → ((k : ℕ) → k < length bits → get_or bits k false ≡ false) → count bits ≡ 0
none_set [] each = refl
none_set (bit ∷ bits) each =
    let first : cond {A = ℕ} bit 1 0 ≡ 0 = ap (λ (b : Bool). cond {A = ℕ} b 1 0) (each 0 (omega arith)) in
    sum_by-cons (λ (b : Bool). cond {A = ℕ} b 1 0) bit bits
    ∙ omega (arith, none_set bits (λ k within. each (suc k) (omega arith)))

-- the words that a page holds, if this is a storage on it
abbrev held_as : List Storage → ℕ → Option Storage → ℕ
held_as xs page o = held_by_use (use_by xs page o)

abbrev cells_with : List Storage → ℕ → Storage → PageUse
cells_with xs page s = Cells (class_of_storage s) s.leaf (taken_cells xs page (class_of_storage s))

held_small : (xs : List Storage) (page : ℕ) (s : Storage) → is_small s ≡ true → held_by_use (use_by xs page (Some s))
    ≡ class_words_of (class_of_storage s) * count (taken_cells xs page (class_of_storage s))
held_small xs page s small = ap held_by_use (cond-true (is_small s) (cells_with xs page s) (PartOfRun s.mapped) small)

held_large : (xs : List Storage) (page : ℕ) (s : Storage) → is_small s ≡ false
    → held_by_use (use_by xs page (Some s)) ≡ (if s.mapped then 64 else 0)
held_large xs page s large = ap held_by_use (cond-false (is_small s) (cells_with xs page s) (PartOfRun s.mapped) large)

found_first : (page : ℕ) (s : Storage) (xs : List Storage) → stands_on page s ≡ true
    → find (stands_on page) (s ∷ xs) ≡ Some s
found_first page s xs stands = rw stands refl

found_later : (page : ℕ) (s : Storage) (xs : List Storage) → stands_on page s ≡ false
    → find (stands_on page) (s ∷ xs) ≡ find (stands_on page) xs
found_later page s xs apart = rw apart refl

-- One storage more, before the others.
module _ (n : ℕ) (s : Storage) (xs : List Storage) (laid : AreLaidOut n (s ∷ xs)) where
  s_is : IsStorage n s
  s_is = All-head (IsStorage n) s xs laid.each

  pub laid_tail : AreLaidOut n xs
  laid_tail = record {
    each = All-tail (IsStorage n) s xs laid.each;
    apart = λ i j d i_within j_within other. laid.apart (suc i) (suc j) d (omega arith) (omega arith)
        (λ same. other (omega arith));
  }

  from_head : (t : Storage) → Contains xs t → LieApart s t
  from_head t (k, within, is) = subst (λ (x : Storage). LieApart s x) is
      (laid.apart 0 (suc k) t (omega arith) (omega arith) (λ same. omega arith))

  -- a page that it doesn't stand on holds what it held
  held_elsewhere : (page : ℕ) → stands_on page s ≡ false
      → held_by_use (use_of_storages (s ∷ xs) page) ≡ held_by_use (use_of_storages xs page)
  held_elsewhere page apart =
      ap (held_as (s ∷ xs) page) (found_later page s xs apart) ∙ elim (find_cases (stands_on page) xs) [
        | inl (t, found, inside, stands) ↦ cc (found, same t inside)
        | inr (none, others) ↦ ap (held_as (s ∷ xs) page) none ∙ sym (ap (held_as xs page) none)
      ]
    where
      without : (u : Storage) → stands_on page u ≡ true → Contains (s ∷ xs) u → Contains xs u
      without u stands inside = grind arith

      same : (t : Storage) → Contains xs t
          → held_by_use (use_by (s ∷ xs) page (Some t)) ≡ held_by_use (use_by xs page (Some t))
      same t inside = elim (cases_Bool (is_small t)) [
        | inl small ↦
            let cell = small_is_cell n t (storage_in n xs t laid_tail inside) small in
            let known : class_of_storage t < 8 = omega (arith, class_of_cell t cell, cell.known) in
            held_small (s ∷ xs) page t small ∙ ap (λ (bits : List Bool). class_words_of (class_of_storage t) * count
            bits) (taken_same n page (class_of_storage t) (s ∷ xs) xs known laid.each laid_tail.each without
            (λ u stands inside'. Contains-tail s xs u inside')) ∙ sym (held_small xs page t small)
        | inr large ↦ held_large (s ∷ xs) page t large ∙ sym (held_large xs page t large)
      ]

  -- a run's page has nothing else
  held_on_run : (page : ℕ) → stands_on page s ≡ true → is_small s ≡ false
      → held_by_use (use_of_storages (s ∷ xs) page) ≡ words_there s + held_by_use (use_of_storages xs page)
  held_on_run page stands large =
      let there : words_there s ≡ (if s.mapped then 64 else 0) = grind (arith, cond-false) in
      let nothing : held_by_use (use_of_storages xs page) ≡ 0 = elim (find_cases (stands_on page) xs) [
        | inl (t, found, inside, t_stands) ↦ absurd
            (false≢true (sym large ∙ ((from_head t inside).alike page stands t_stands).0))
        | inr (none, others) ↦ ap (held_as xs page) none
      ] in
      ap (held_as (s ∷ xs) page) (found_first page s xs stands) ∙ held_large (s ∷ xs) page s large ∙ omega arith

  -- a cell's page has one cell more that is taken
  module _ (page : ℕ) (stands : stands_on page s ≡ true) (small : is_small s ≡ true) where
    cell : IsCell s
    cell = small_is_cell n s s_is small

    class_known : class_of_storage s < 8
    class_known = let c = cell in omega (arith, class_of_cell s c, c.known)

    index_within : cell.index < cells_of (class_of_storage s)
    index_within = subst (λ (c : ℕ). cell.index < cells_of c) (sym (class_of_cell s cell)) cell.within

    some_words : 1 ≤ class_words_of (class_of_storage s)
    some_words = let range = class_words_within (class_of_storage s) class_known in omega arith

    first_is : s.first ≡ 64 * page + cell.index * class_words_of (class_of_storage s)
    first_is = omega (arith, cell_stands_at s page cell stands, first_in_page s cell)

    was_free : is_cell_taken xs page (class_words_of (class_of_storage s)) cell.index ≡ false
    was_free = false_from_ne_true _ (λ taken.
        let (t, inside, first, t_stands) =
        cell_taken_by n page (class_of_storage s) cell.index xs class_known index_within laid_tail.each taken in
        let s_some = has_words n s s_is in
        let t_some = has_words n t (storage_in n xs t laid_tail inside) in
        let same : t.first ≡ s.first = first ∙ sym first_is in
        elim (from_head t inside).apart [ inl before ↦ omega arith | inr behind ↦ omega arith ])

    others_stay : (k : ℕ) → k < cells_of (class_of_storage s) → k ≢ cell.index → is_cell_taken (s ∷ xs) page
        (class_words_of (class_of_storage s)) k ≡ is_cell_taken xs page (class_words_of (class_of_storage s)) k
    others_stay k within other = grind (arith, ne_eqb, same_index, cell, some_words, first_is)

    taken_more : count (taken_cells (s ∷ xs) page (class_of_storage s))
        ≡ count (taken_cells xs page (class_of_storage s)) + 1
    taken_more =
        let here = cell_taken_from page (class_words_of (class_of_storage s)) cell.index (s ∷ xs) s
        (Contains-head s xs) first_is in
        ap (λ (bits : List Bool). count bits) (taken_cells-set page (class_of_storage s) cell.index xs (s ∷ xs) true
        here others_stay) ∙ one_more _ cell.index (omega (
          arith,
          length-taken_cells xs page (class_of_storage s),
          index_within,
        )) (get_or-taken_cells xs page _ cell.index true index_within ∙ was_free)

    held_before : held_by_use (use_of_storages xs page)
        ≡ class_words_of (class_of_storage s) * count (taken_cells xs page (class_of_storage s))
    held_before = elim (find_cases (stands_on page) xs) [
      | inl (t, found, inside, t_stands) ↦
          let alike = (from_head t inside).alike page stands t_stands in
          cc (found, held_small xs page t alike.1, alike.2)
      | inr (none, others) ↦
          let no_bit : count (taken_cells xs page (class_of_storage s)) ≡ 0 =
          none_set (taken_cells xs page (class_of_storage s)) (λ k below.
          let within : k < cells_of (class_of_storage s) =
          omega (arith, length-taken_cells xs page (class_of_storage s)) in
          get_or-taken_cells xs page (class_of_storage s) k false within
          ∙ none_taken n page (class_of_storage s) xs class_known laid_tail.each others k within) in
          ap (held_as xs page) none ∙ sym (ap (λ (k : ℕ). class_words_of (class_of_storage s) * k) no_bit ∙ omega arith)
    ]

    held_on_block : held_by_use (use_of_storages (s ∷ xs) page) ≡ words_there s + held_by_use (use_of_storages xs page)
    held_on_block =
        let words = class_has_words s cell in
        let there : words_there s ≡ s.words = small_there s small ∙ cond-true s.mapped s.words 0 cell.mapped in
        ap (held_as (s ∷ xs) page) (found_first page s xs stands) ∙ held_small (s ∷ xs) page s small
        ∙ ap (λ (k : ℕ). class_words_of (class_of_storage s) * k) taken_more ∙ omega (arith, held_before)

  pub held_more : (page : ℕ)
      → held_by_use (use_of_storages (s ∷ xs) page) ≡ words_on s page + held_by_use (use_of_storages xs page)
  held_more page = elim (cases_Bool (stands_on page s)) [
    | inl stands ↦ elim (cases_Bool (is_small s)) [
      | inl small ↦ cc (held_on_block page stands small, words_on_page s page stands)
      | inr large ↦ cc (held_on_run page stands large, words_on_page s page stands)
    ]
    | inr apart ↦ held_elsewhere page apart
        ∙ omega (arith, words_off_page s page (λ stands. false≢true (sym apart ∙ stands)))
  ]

held_sum : (n : ℕ) (xs : List Storage) → AreLaidOut n xs
    → sum_below (λ page. held_by_use (use_of_storages xs page)) n ≡ held_by_storages xs
held_sum n [] laid = sum_below-zero (λ page. held_by_use (use_of_storages [] page)) n (λ page within. refl)
held_sum n (s ∷ xs) laid = sum_below-add (λ page. held_by_use (use_of_storages (s ∷ xs) page)) (words_on s)
    (λ page. held_by_use (use_of_storages xs page)) n (λ page within. held_more n s xs laid page) ∙ omega (
      arith,
      storage_sum n s (All-head (IsStorage n) s xs laid.each),
      held_sum n xs (laid_tail n s xs laid),
      sum_by-cons held_by s xs,
    )

pub pages_hold_mapped_words : (pages : List Page) (storages : List Storage) → PagesStandFor pages storages
    → held_by_uses (uses_of_pages pages) ≡ held_by_storages storages
pages_hold_mapped_words pages storages stand =
    ap held_by_uses (same_uses pages storages stand) ∙ sum_by-range held_by_use (use_of_storages storages) _ ∙ held_sum
    _ storages stand.laid_out
