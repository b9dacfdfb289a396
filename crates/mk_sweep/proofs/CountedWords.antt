-- How often a number stands in the words of cells and pages.
use Rattle.std.proofs.{Common.{count_by, filter, length-append, sum_by}, lemmas.List.FromFn.length-range_with_len}
use Rattle.std.{proofs.lemmas.List.Sums.{sum_by-append, sum_by-cons}, specs.List.{Contains, range_with_len}}
use Rattle.mk_sweep.proofs.Vocabulary.{Words, cells_under, has_bit, has_no_pointers, header_in, used_at, words_below}
use Rattle.mk_sweep.proofs.Vocabulary.{words_if, words_of_cells, words_on, words_under}
use Rattle.mk_cycle.proofs.Below.Laws.Vocabulary.{Bool, List, ℕ, and_from, and_parts, ap, arith, cases_eq, cases_lt}
use Rattle.mk_cycle.proofs.Below.Laws.Vocabulary.{cond, eq-eqb, false, get_or, if◌then◌else◌, inl, inr, le-leb}
use Rattle.mk_cycle.proofs.Below.Laws.Vocabulary.{leb-true, length, lt-ltb, ltb-true, nat_le, nat_lt, ne_eqb, refl}
use Rattle.mk_cycle.proofs.Below.Laws.Vocabulary.{subst, suc, sym, true, true≢false, zero, [], ◌&&◌, ◌*◌, ◌++◌, ◌+◌}
use Rattle.mk_cycle.proofs.Below.Laws.Vocabulary.{◌<◌, ◌==◌, ◌∙◌, ◌∷◌, ◌≡◌, ◌≢◌, ◌≤◌, ◌⊎◌}
use Rattle.mk_cycle.proofs.Below.Laws.CoveredWords.{one_part}
use Rattle.mk_cycle.{proofs.SumsBelow.{counted_by_key, sum_same}, specs.Freeing.{sum_below}}

-- how often it stands there
abbrev pub times : ℕ → List ℕ → ℕ
times n ns = count_by (λ k. k == n) ns

pub times_in_both : (n : ℕ) (ns ms : List ℕ) → times n (ns ++ ms) ≡ times n ns + times n ms
times_in_both n ns ms = sum_by-append (λ k. cond (k == n) 1 0) ns ms

times_first : (n k : ℕ) (ns : List ℕ) → times n (k ∷ ns) ≡ cond (k == n) 1 0 + times n ns
times_first n k ns = sum_by-cons (λ j. cond (j == n) 1 0) k ns

same_is_one : (k n : ℕ) → k ≡ n → cond {A = ℕ} (k == n) 1 0 ≡ 1
same_is_one k n e = ap (λ (b : Bool). cond {A = ℕ} b 1 0) (eq-eqb k n e)

other_is_none : (k n : ℕ) → k ≢ n → cond {A = ℕ} (k == n) 1 0 ≡ 0
other_is_none k n other = ap (λ (b : Bool). cond {A = ℕ} b 1 0) (ne_eqb k n other)

-- What stands in a list is counted there.
pub counted_there : (ns : List ℕ) (i d : ℕ) → i < length ns → times (get_or ns i d) ns ≢ 0
counted_there [] i d lt z = omega arith
counted_there (n ∷ ns) zero d lt z =
    let first = times_first n n ns in
    let one = same_is_one n n refl in
    omega arith
counted_there (n ∷ ns) (suc i) d lt z =
    let first = times_first (get_or ns i d) n ns in
    counted_there ns i d (omega arith) (omega arith)

-- neighbouring numbers

pub range_outside : (a len n : ℕ) → (n < a) ⊎ (a + len ≤ n) → times n (range_with_len a len) ≡ 0
range_outside a zero n out = refl
range_outside a (suc len) n out =
    let first = times_first n a (range_with_len (a + 1) len) in
    let other = other_is_none a n (λ e. grind arith) in
    let rest = range_outside (a + 1) len n (further out) in
    omega arith
  where
    further : (n < a) ⊎ (a + suc len ≤ n) → (n < a + 1) ⊎ (a + 1 + len ≤ n)
    further x0 = grind arith

pub range_inside : (a len n : ℕ) → a ≤ n → n < a + len → times n (range_with_len a len) ≡ 1
range_inside a zero n low high = absurd (omega arith)
range_inside a (suc len) n low high = elim (cases_eq a n) [
  | inl here ↦
      let first = times_first n a (range_with_len (a + 1) len) in
      let one = same_is_one a n here in
      let rest = range_outside (a + 1) len n (inl (omega arith)) in
      omega arith
  | inr further ↦
      let first = times_first n a (range_with_len (a + 1) len) in
      let none = other_is_none a n further in
      let rest = range_inside (a + 1) len n (omega arith) (omega arith) in
      omega arith
]

range_found : (a len n : ℕ) → times n (range_with_len a len) ≢ 0 → (a ≤ n) × (n < a + len)
range_found a len n some = elim (cases_lt n a) [
  | inl below ↦ absurd (some (range_outside a len n (inl below)))
  | inr from ↦ elim (cases_lt n (a + len)) [
    | inl to ↦ (from, to)
    | inr past ↦ absurd (some (range_outside a len n (inr past)))
  ]
]

if_found : (used : Bool) (a len n : ℕ) → times n (words_if used a len) ≢ 0 → (used ≡ true) × (a ≤ n) × (n < a + len)
if_found true a len n some = let h = range_found a len n some in (refl, h.0, h.1)
if_found false a len n some = absurd (some refl)

-- a used cell of a page, of this many words, that has the word
pub record HasInCell (page size used cells n : ℕ) : Type 0 where
  pub index : ℕ
  pub known : index < cells
  pub bit : has_bit used index ≡ true
  pub from : 64 * page + index * size ≤ n
  pub to : n < 64 * page + index * size + size

pub cells_found : (page size used cells n : ℕ) → times n (words_of_cells page size used cells) ≢ 0
    → HasInCell page size used cells n
cells_found page size used zero n some = absurd (some refl)
cells_found page size used (suc k) n some =
    elim (cases_eq (times n (words_if (has_bit used k) (64 * page + k * size) size)) 0) [
      | inr here ↦
          let x = if_found (has_bit used k) (64 * page + k * size) size n here in
          record { index = k; known = omega arith; bit = x.0; from = x.1; to = x.2 }
      | inl none ↦
          let both = times_in_both n (words_of_cells page size used k)
          (words_if (has_bit used k) (64 * page + k * size) size) in
          let x = cells_found page size used k n (λ z. some (omega arith)) in
          let known = x.known in
          record { index = x.index; known = omega arith; bit = x.bit; from = x.from; to = x.to }
    ]

same_cell : (page size i j n : ℕ) → 64 * page + i * size ≤ n → n < 64 * page + i * size + size
    → 64 * page + j * size ≤ n → n < 64 * page + j * size + size → i ≡ j
same_cell page size i j n from to low high = grind (arith, one_part)

pub cells_once : (page size used cells n : ℕ) → HasInCell page size used cells n
    → times n (words_of_cells page size used cells) ≡ 1
cells_once page size used zero n x = let known = x.known in absurd (omega arith)
cells_once page size used (suc k) n x =
    let both = times_in_both n (words_of_cells page size used k)
    (words_if (has_bit used k) (64 * page + k * size) size) in
    elim (cases_eq x.index k) [
      | inl last ↦
          let here : times n (words_if (has_bit used k) (64 * page + k * size) size) ≡ 1 =
          cc (last, x.bit, range_inside (64 * page + x.index * size) size n x.from x.to) in
          let before : times n (words_of_cells page size used k) ≡ 0 = none_before last in
          omega arith
      | inr early ↦
          let known = x.known in
          let before = cells_once page size used k n
          (record { index = x.index; known = omega arith; bit = x.bit; from = x.from; to = x.to }) in
          let here : times n (words_if (has_bit used k) (64 * page + k * size) size) ≡ 0 = none_here early in
          omega arith
    ]
  where
    none_before : x.index ≡ k → times n (words_of_cells page size used k) ≡ 0
    none_before last = elim (cases_eq (times n (words_of_cells page size used k)) 0) [
      | inl none ↦ none
      | inr some ↦
          let y = cells_found page size used k n some in
          let same = same_cell page size y.index x.index n y.from y.to x.from x.to in
          let known = y.known in
          absurd (omega arith)
    ]

    none_here : x.index ≢ k → times n (words_if (has_bit used k) (64 * page + k * size) size) ≡ 0
    none_here early = elim (cases_eq (times n (words_if (has_bit used k) (64 * page + k * size) size)) 0) [
      | inl none ↦ none
      | inr some ↦
          let y = if_found (has_bit used k) (64 * page + k * size) size n some in
          absurd (early (same_cell page size x.index k n x.from x.to y.1 y.2))
    ]

-- a used cell of a scanned page that has the word
pub record HasOnPage (w : Words) (page n : ℕ) : Type 0 where
  pub scanned : has_no_pointers (header_in w page) ≡ false
  pub cell : HasInCell page (words_under (header_in w page)) (used_at w page) (cells_under (header_in w page)) n

pub page_found : (w : Words) (page n : ℕ) → times n (words_on w page) ≢ 0 → HasOnPage w page n
page_found w page n some = by (has_no_pointers (header_in w page)) refl
  where
    on : Bool → List ℕ
    on b =
        if b then []
        else words_of_cells page (words_under (header_in w page)) (used_at w page) (cells_under (header_in w page))

    by : (b : Bool) → has_no_pointers (header_in w page) ≡ b → HasOnPage w page n
    by true bare = absurd (some (ap (λ (b : Bool). times n (on b)) bare))
    by false scanned = grind (arith, cells_found, times, on)

pub page_once : {w : Words} {page n : ℕ} → HasOnPage w page n → times n (words_on w page) ≡ 1
page_once {w} {page} {n} x =
    ap (λ (b : Bool). times n (if b then [] else words_of_cells page (words_under (header_in w page)) (used_at w page)
    (cells_under (header_in w page)))) x.scanned
    ∙ cells_once page (words_under (header_in w page)) (used_at w page) (cells_under (header_in w page)) n x.cell

pub pages_found : (w : Words) (pages n : ℕ) → times n (words_below w pages) ≢ 0
    → (page : ℕ) × (page < pages) × HasOnPage w page n
pages_found w zero n some = absurd (some refl)
pages_found w (suc k) n some = elim (cases_eq (times n (words_on w k)) 0) [
  | inr here ↦ (k, omega arith, page_found w k n here)
  | inl none ↦
      let both = times_in_both n (words_below w k) (words_on w k) in
      let x = pages_found w k n (λ z. some (omega arith)) in
      let lt = x.1 in
      (x.0, omega arith, x.2)
]

pub pages_once : {w : Words} (pages : ℕ) {page n : ℕ} → page < pages → HasOnPage w page n
    → ((other : ℕ) → HasOnPage w other n → other ≡ page) → times n (words_below w pages) ≡ 1
pages_once zero lt x alone = absurd (omega arith)
pages_once {w} (suc k) {page} {n} lt x alone =
    let both = times_in_both n (words_below w k) (words_on w k) in
    elim (cases_eq page k) [
      | inl last ↦
          let here : times n (words_on w k) ≡ 1 = subst (λ p. times n (words_on w p) ≡ 1) last (page_once x) in
          let before = none_before last in
          omega arith
      | inr early ↦
          let before = pages_once k (omega arith) x alone in
          let here = none_here early in
          omega arith
    ]
  where
    none_before : page ≡ k → times n (words_below w k) ≡ 0
    none_before last = elim (cases_eq (times n (words_below w k)) 0) [
      | inl none ↦ none
      | inr some ↦
          let y = pages_found w k n some in
          let same = alone y.0 y.2 in
          let below = y.1 in
          absurd (omega arith)
    ]

    none_here : page ≢ k → times n (words_on w k) ≡ 0
    none_here early = grind (arith, times, page_found)

-- Neighbouring numbers are counted where they are.

abbrev pub is_in_range : ℕ → ℕ → ℕ → Bool
is_in_range a len n = nat_le a n && nat_lt n (a + len)

pub in_range_from : (a len n : ℕ) → a ≤ n → n < a + len → is_in_range a len n ≡ true
in_range_from a len n low high = and_from (nat_le a n) (nat_lt n (a + len)) (le-leb a n low) (lt-ltb n (a + len) high)

pub in_range_is : (a len n : ℕ) → is_in_range a len n ≡ true → (a ≤ n) × (n < a + len)
in_range_is a len n h = grind (arith, and_parts, leb-true, ltb-true)

times_in_range : (a len n : ℕ) → times n (range_with_len a len) ≡ cond (is_in_range a len n) 1 0
times_in_range a len n = by (is_in_range a len n) refl
  where
    by : (b : Bool) → is_in_range a len n ≡ b → times n (range_with_len a len) ≡ cond b 1 0
    by true is = let h = in_range_is a len n is in range_inside a len n h.0 h.1
    by false is = elim (cases_eq (times n (range_with_len a len)) 0) [
      | inl none ↦ none
      | inr some ↦
          let h = range_found a len n some in absurd (true≢false (sym (in_range_from a len n h.0 h.1) ∙ is))
    ]

-- The words of those that pass, each of which has neighbouring ones.
module _ {X : Type 0} (t : X → Bool) (first words : X → ℕ) where
  abbrev pub all_words : List X → List ℕ
  all_words [] = []
  all_words (x ∷ xs) = words_if (t x) (first x) (words x) ++ all_words xs

  pub times_in_all : (n : ℕ) (xs : List X)
      → times n (all_words xs) ≡ count_by (λ x. t x && is_in_range (first x) (words x) n) xs
  times_in_all n [] = refl
  times_in_all n (x ∷ xs) =
      times_in_both n (words_if (t x) (first x) (words x)) (all_words xs) ∙ ap (λ k. k + times n (all_words xs))
      (by (t x)) ∙ ap (λ k. cond (t x && is_in_range (first x) (words x) n) 1 0 + k) (times_in_all n xs)
      ∙ sym (sum_by-cons (λ y. cond (t y && is_in_range (first y) (words y) n) 1 0) x xs)
    where
      by : (b : Bool) → times n (words_if b (first x) (words x)) ≡ cond (b && is_in_range (first x) (words x) n) 1 0
      by x0 = grind (arith, times_in_range)

  pub length_of_all : (xs : List X) → length (all_words xs) ≡ sum_by words (filter t xs)
  length_of_all [] = refl
  length_of_all (x ∷ xs) =
      cc (length-append (words_if (t x) (first x) (words x)) (all_words xs), length_of_all xs, by (t x))
    where
      by : (b : Bool) → length (words_if b (first x) (words x)) + sum_by words (filter t xs)
          ≡ sum_by words (if b then x ∷ filter t xs else filter t xs)
      by x0 = grind (arith, length-range_with_len, sum_by-cons)

-- Lists in which each number stands as often are as long.

all_counted : (ns : List ℕ) → length ns ≡ count_by (λ k. true) ns
all_counted [] = refl
all_counted (n ∷ ns) =
    let rest = all_counted ns in
    let first = sum_by-cons (λ (k : ℕ). cond {A = ℕ} true 1 0) n ns in
    omega arith

counted_below : (bound : ℕ) (ns : List ℕ) → ((n : ℕ) → times n ns ≢ 0 → n < bound)
    → length ns ≡ sum_below bound (λ n. times n ns)
counted_below bound ns within =
    all_counted ns
    ∙ counted_by_key 0 (λ k. true) (λ k. k) bound ns (λ i lt h. within (get_or ns i 0) (counted_there ns i 0 lt))

pub same_length : (bound : ℕ) (ns ms : List ℕ) → ((n : ℕ) → times n ns ≢ 0 → n < bound)
    → ((n : ℕ) → times n ns ≡ times n ms) → length ns ≡ length ms
same_length bound ns ms within same =
    counted_below bound ns within ∙ sum_same bound (λ n. times n ns) (λ n. times n ms) (λ n lt. same n)
    ∙ sym (counted_below bound ms (λ n some. within n (λ z. some (sym (same n) ∙ z))))

-- What is counted in a list stands there.
pub some_there : (ns : List ℕ) (n : ℕ) → times n ns ≢ 0 → Contains ns n
some_there [] n some = absurd (some refl)
some_there (m ∷ ns) n some = elim (cases_eq m n) [
  | inl here ↦ (0, omega arith, here)
  | inr other ↦
      let first = times_first n m ns in
      let none = other_is_none m n other in
      let x = some_there ns n (λ z. some (omega arith)) in
      let lt = x.1 in
      (suc x.0, omega arith, x.2)
]
