-- The sets of a heap whose pages are all free.
use Rattle.std.proofs.{Common.{le-ltb, lt-ltb, ne_eqb, ◌&&◌, ◌/◌}, lemmas.Bool.{and_left, and_right}}
use Rattle.std.proofs.{lemmas.List.{get_or-replicate, get_or_past, length-replicate}, lemmas.List.Sums.sum_by-cons}
use Rattle.std.proofs.lemmas.Nat.Bits.{bit_at-zero}
use Rattle.mk_books.proofs.Vocabulary.{AreSets, FitPages, List, Nothing, PageUse, Shows, ℕ, ap, arith, bit_at, cases_eq}
use Rattle.mk_books.proofs.Vocabulary.{cases_lt, cond, false, free_page, get_or, inl, inr, is_member}
use Rattle.mk_books.proofs.Vocabulary.{is_resident_page, length, nat_eq, nat_lt, not, page_at, refl, replicate}
use Rattle.mk_books.proofs.Vocabulary.{resident_pages, suc, sym, uses_of_pages, zero, ◌%◌, ◌*◌, ◌+◌, ◌-◌}
use Rattle.mk_books.proofs.{Vocabulary.{◌<◌, ◌∙◌, ◌≡◌, ◌≤◌}, BlockSets.{each_set, nothing_of_set}}
use Rattle.mk_books.proofs.Showing.{known_by, member_at}
use Rattle.mk_books.specs.PageSets.{OtherWordsStay, word_in_set}

-- the first pages are in set 16, and nothing is in another
abbrev pub HaveFree : List ℕ → ℕ → Type 0
HaveFree sets pages =
    (set number : ℕ) → set < 20 → number < 4096 → is_member sets set number ≡ (nat_eq set 16 && nat_lt number pages)

zero_at : (n i : ℕ) → get_or {A = ℕ} (replicate n 0) i 0 ≡ 0
zero_at n i = elim (cases_lt i n) [
  | inl within ↦ get_or-replicate n i 0 0 within
  | inr past ↦ get_or_past (replicate n 0) i 0 (omega (arith, length-replicate {A = ℕ} n 0))
]

zero_bit : (n i k : ℕ) → nat_eq (bit_at (get_or (replicate n 0) i 0) k) 1 ≡ false
zero_bit n i k = ap (λ m. nat_eq (bit_at m k) 1) (zero_at n i) ∙ ap (λ b. nat_eq b 1) (bit_at-zero k)

pub zero_sets : AreSets (replicate 1300 0)
zero_sets = record {
  long = length-replicate {A = ℕ} 1300 0;
  summaries = λ set word is_set within. zero_bit 1300 (65 * set) word
      ∙ sym (ap (λ n. not (nat_eq n 0)) (zero_at 1300 (65 * set + 1 + word)));
}

-- The first words of set 16 have those of this many pages that they have a bit for, and nothing else is in a set.
abbrev pub HaveFreeBelow : List ℕ → ℕ → ℕ → Type 0
HaveFreeBelow sets words pages = (set number : ℕ) → set < 20 → number < 4096
    → is_member sets set number ≡ (nat_eq set 16 && (nat_lt (number / 64) words && nat_lt number pages))

pub none_free : (pages : ℕ) → HaveFreeBelow (replicate 1300 0) 0 pages
none_free pages set number is_set few = (zero_bit 1300 (65 * set + 1 + number / 64) (number % 64))
    ∙ sym (and_right (nat_eq set 16) (nat_lt (number / 64) 0 && nat_lt number pages)
    (and_left (nat_lt (number / 64) 0) (nat_lt number pages) (le-ltb (number / 64) 0 (omega arith))))

-- of a word the pages that there are
in_word : (number words pages : ℕ) → number / 64 ≡ words
    → nat_lt (number % 64) (pages - 64 * words) ≡ (nat_lt (number / 64) (words + 1) && nat_lt number pages)
in_word number words pages here = grind (arith, cases_lt, lt-ltb, le-ltb)

-- one word more
pub one_word_more : (before after : List ℕ) {words : ℕ} (pages word : ℕ) → HaveFreeBelow before words pages
    → word_in_set after 16 words ≡ word → OtherWordsStay before after 16 words → ((place : ℕ) → place < 64
    → nat_eq (bit_at word place) 1 ≡ nat_lt place (pages - 64 * words)) → HaveFreeBelow after (words + 1) pages
one_word_more before after {words} pages word free is stay bits set number is_set few =
    elim (cases_eq (number / 64) words) [
      | inl here ↦ elim (cases_eq set 16) [
        | inl own ↦ ap (λ s. is_member after s number) own ∙ ap (λ w. nat_eq
            (bit_at (word_in_set after 16 w) (number % 64)) 1) here ∙ ap (λ n. nat_eq (bit_at n (number % 64)) 1) is
            ∙ bits (number % 64) (omega arith) ∙ in_word number words pages here
            ∙ sym (ap (λ s. nat_eq s 16 && (nat_lt (number / 64) (words + 1) && nat_lt number pages)) own)
        | inr other ↦ ap (λ n. nat_eq (bit_at n (number % 64)) 1)
            (stay set (number / 64) (omega arith) (λ same _. other same)) ∙ free set number is_set few
            ∙ and_left (nat_eq set 16) (nat_lt (number / 64) words && nat_lt number pages) (ne_eqb set 16 other) ∙ sym
            (and_left (nat_eq set 16) (nat_lt (number / 64) (words + 1) && nat_lt number pages) (ne_eqb set 16 other))
      ]
      | inr differ ↦ ap (λ n. nat_eq (bit_at n (number % 64)) 1) (stay set (number / 64) (omega arith)
          (λ _ same. differ same)) ∙ free set number is_set few ∙ ap (λ t. nat_eq set 16 && (t && nat_lt number pages))
          (elim (cases_lt (number / 64) words) [
            | inl low ↦ lt-ltb (number / 64) words low ∙ sym (lt-ltb (number / 64) (words + 1) (omega arith))
            | inr high ↦ le-ltb (number / 64) words high ∙ sym (le-ltb (number / 64) (words + 1) (omega arith))
          ])
    ]

-- all words that have a page
pub all_free : (sets : List ℕ) (words : ℕ) {pages : ℕ} → pages ≤ 64 * words → HaveFreeBelow sets words pages
    → HaveFree sets pages
all_free sets words enough free set number is_set few = grind (arith, cases_lt, lt-ltb, and_right, le-ltb)

-- ---- the map of free pages

none_resident : (n : ℕ) → 0 ≡ resident_pages (uses_of_pages (replicate n free_page))
none_resident zero = refl
none_resident (suc n) =
    omega (
      arith,
      none_resident n,
      sum_by-cons (λ (u : PageUse). cond (is_resident_page u) 1 0) Nothing (uses_of_pages (replicate n free_page)),
    )

free_at : (n number : ℕ) → number < n → page_at (replicate n free_page) number ≡ free_page
free_at n number within = get_or-replicate n number free_page free_page within

pub free_fits : {n : ℕ} {sets : List ℕ} → n ≤ 4096 → AreSets sets → HaveFree sets n
    → FitPages (replicate n free_page) sets 0
free_fits {n} {sets} few are_sets free =
    let long : length (replicate n free_page) ≡ n = length-replicate n free_page in
    record {
      few = omega arith;
      are_sets = λ some. are_sets;
      sorted = grind (arith, free_at, each_set, and_left, ne_eqb, nothing_of_set, lt-ltb, Nothing);
      no_others = λ s number is_set past short.
          free s number is_set short ∙ and_right (nat_eq s 16) (nat_lt number n) (le-ltb number n (omega arith));
      counted = none_resident n;
    }

pub free_shows : {n : ℕ} (sets : List ℕ) → n ≤ 4096 → HaveFree sets n
    → Shows (known_by (replicate n free_page) sets) (replicate n free_page) (replicate n 0)
free_shows {n} sets few free =
    let long : length (replicate n free_page) ≡ n = length-replicate n free_page in
    let zeros : length (replicate {A = ℕ} n 0) ≡ n = length-replicate {A = ℕ} n 0 in
    record {
      page_by_page = refl;
      freed_words = zeros ∙ sym long;
      quarantined = λ number within. member_at sets 18 (length (replicate n free_page)) number within
          ∙ free 18 number (omega arith) (omega arith) ∙ sym (ap (λ m. not (nat_eq m 0)) (zero_at n number));
    }
