-- Pages that are put among the free ones, or taken out, word by word.
use Rattle.std.proofs.Common.{le-leb, le-ltb, lt-ltb, nat_le, ne_eqb, ◌&&◌, ◌/◌}
use Rattle.std.proofs.lemmas.Bool.{and_left, and_right, lt-leb}
use Rattle.mk_books.proofs.Vocabulary.{AreSets, Bool, List, ap, arith, bit_at, cases_eq, cases_lt, cond, false, inl}
use Rattle.mk_books.proofs.Vocabulary.{inr, is_member, nat_eq, nat_lt, not, refl, subst, sym, ℕ, ◌%◌, ◌*◌, ◌+◌}
use Rattle.mk_books.proofs.{Vocabulary.{◌<◌, ◌∙◌, ◌≡◌, ◌≤◌}}
use Rattle.mk_books.specs.PageSets.{MovesPages, PutsThree, is_between, tells_free}

-- of a range the pages of the first words
abbrev pub below_word : ℕ → ℕ → ℕ → ℕ → Bool
below_word from end word number = nat_lt (number / 64) word && is_between from end number

-- where a page is put that moves
abbrev pub placed : ℕ → Bool → Bool
placed set free = cond (nat_eq set 17) (not free) free

pub none_moved : (sets : List ℕ) (from end : ℕ) (free : Bool) → AreSets sets
    → MovesPages sets sets (below_word from end (from / 64)) free
none_moved sets from end free are_sets = record {
  are_sets = are_sets;
  moved = λ set number is_set few. elim (cases_lt (number / 64) (from / 64)) [
    | inl low ↦ grind (arith, le-leb, lt-leb, lt-ltb, and_left, and_right)
    | inr high ↦ grind (arith, le-ltb, and_left, and_right)
  ];
}

-- each set is one of the three, or another
by_set : (P : ℕ → Type 0) → P 16 → P 17 → P 19
    → ((set : ℕ) → (set ≡ 16 → ⊥) → (set ≡ 17 → ⊥) → (set ≡ 19 → ⊥) → P set) → (set : ℕ) → P set
by_set P free in_use uncleaned others set = elim (cases_eq set 16) [
  | inl here ↦ subst P (sym here) free
  | inr not_free ↦ elim (cases_eq set 17) [
    | inl here ↦ subst P (sym here) in_use
    | inr not_in_use ↦ elim (cases_eq set 19) [
      | inl here ↦ subst P (sym here) uncleaned
      | inr other ↦ others set not_free not_in_use other
    ]
  ]
]

three_others : {before third : List ℕ} {word bits : ℕ} {free : Bool} → PutsThree before third word bits free
    → (set number : ℕ) → set < 20 → number < 4096 → (set ≡ 16 → ⊥) → (set ≡ 17 → ⊥) → (set ≡ 19 → ⊥)
    → is_member third set number ≡ is_member before set number
three_others puts set number is_set few not_free not_in_use other =
    puts.into_uncleaned.other_sets set number is_set few other
    ∙ puts.out_of_use.other_sets set number is_set few not_in_use
    ∙ puts.into_free.other_sets set number is_set few not_free

-- a page of another word is where it was
three_elsewhere : {before third : List ℕ} {word bits : ℕ} {free : Bool} → PutsThree before third word bits free
    → (number : ℕ) → number < 4096 → (number / 64 ≡ word → ⊥) → (set : ℕ) → set < 20
    → is_member third set number ≡ is_member before set number
three_elsewhere {before} {third} puts number few differ =
    by_set (λ set. set < 20 → is_member third set number ≡ is_member before set number)
    (λ is_set. puts.into_uncleaned.other_sets 16 number (omega arith) few (λ same. absurd (omega arith))
    ∙ puts.out_of_use.other_sets 16 number (omega arith) few (λ same. absurd (omega arith))
    ∙ puts.into_free.other_words number few differ)
    (λ is_set. puts.into_uncleaned.other_sets 17 number (omega arith) few (λ same. absurd (omega arith))
    ∙ puts.out_of_use.other_words number few differ
    ∙ puts.into_free.other_sets 17 number (omega arith) few (λ same. absurd (omega arith)))
    (λ is_set. puts.into_uncleaned.other_words number few differ
    ∙ puts.out_of_use.other_sets 19 number (omega arith) few (λ same. absurd (omega arith))
    ∙ puts.into_free.other_sets 19 number (omega arith) few (λ same. absurd (omega arith)))
    (λ set not_free not_in_use other is_set. three_others puts set number is_set few not_free not_in_use other)

pub no_teller : (set : ℕ) → (set ≡ 16 → ⊥) → (set ≡ 17 → ⊥) → (set ≡ 19 → ⊥) → tells_free set ≡ false
no_teller set not_free not_in_use other = grind (arith, ne_eqb)

-- and one of this word where its bit says
three_here : {before third : List ℕ} {word bits : ℕ} {free : Bool} → PutsThree before third word bits free
    → (number : ℕ) → number < 4096 → number / 64 ≡ word → (set : ℕ) → set < 20 → is_member third set number
    ≡ cond (tells_free set && nat_eq (bit_at bits (number % 64)) 1) (placed set free) (is_member before set number)
three_here {before} {third} {bits = bits} {free = free} puts number few here =
    let bit = nat_eq (bit_at bits (number % 64)) 1 in
    by_set (λ set. set < 20 → is_member third set number
    ≡ cond (tells_free set && bit) (placed set free) (is_member before set number))
    (λ is_set. puts.into_uncleaned.other_sets 16 number (omega arith) few (λ same. absurd (omega arith))
    ∙ puts.out_of_use.other_sets 16 number (omega arith) few (λ same. absurd (omega arith))
    ∙ puts.into_free.this number few here)
    (λ is_set. puts.into_uncleaned.other_sets 17 number (omega arith) few (λ same. absurd (omega arith))
    ∙ puts.out_of_use.this number few here
    ∙ ap (cond bit (not free)) (puts.into_free.other_sets 17 number (omega arith) few (λ same. absurd (omega arith))))
    (λ is_set. puts.into_uncleaned.this number few here
    ∙ ap (cond bit free) (puts.out_of_use.other_sets 19 number (omega arith) few (λ same. absurd (omega arith))
    ∙ puts.into_free.other_sets 19 number (omega arith) few (λ same. absurd (omega arith))))
    (λ set not_free not_in_use other is_set. three_others puts set number is_set few not_free not_in_use other
    ∙ sym (ap (λ b. cond (b && bit) (placed set free) (is_member before set number))
    (no_teller set not_free not_in_use other)))

same_below : (word number : ℕ) → (number / 64 ≡ word → ⊥) → nat_lt (number / 64) word ≡ nat_lt (number / 64) (word + 1)
same_below word number differ = grind (arith, cases_lt, lt-ltb, le-ltb)

past_words : (from end word number : ℕ) → end ≤ 64 * word
    → below_word from end word number ≡ is_between from end number
past_words from end word number enough = elim (cases_lt (number / 64) word) [
  | inl low ↦ ap (λ b. b && is_between from end number) (lt-ltb (number / 64) word low)
  | inr high ↦ ap (λ b. b && is_between from end number) (le-ltb (number / 64) word high)
      ∙ sym (and_right (nat_le from number) (nat_lt number end) (le-ltb number end (omega arith)))
]

-- one word more
pub one_more_moved : {sets before third : List ℕ} {bits : ℕ} {free : Bool} (from end word : ℕ)
    → MovesPages sets before (below_word from end word) free → PutsThree before third word bits free
    → ((place : ℕ) → place < 64 → nat_eq (bit_at bits place) 1 ≡ is_between from end (64 * word + place))
    → MovesPages sets third (below_word from end (word + 1)) free
one_more_moved {sets} {before} {third} {bits} {free} from end word moves puts is = record {
  are_sets = puts.into_uncleaned.are_sets;
  moved = λ set number is_set few. elim (cases_eq (number / 64) word) [
    | inl here ↦ three_here puts number few here set is_set
        ∙ ap (λ b. cond (tells_free set && b) (placed set free) (is_member before set number))
        (is (number % 64) (omega arith) ∙ ap (is_between from end) (omega arith)
        ∙ sym (ap (λ b. b && is_between from end number) (lt-ltb (number / 64) (word + 1) (omega arith))))
        ∙ ap (cond (tells_free set && below_word from end (word + 1) number) (placed set free))
        (moves.moved set number is_set few
        ∙ ap (λ b. cond (tells_free set && (b && is_between from end number)) (placed set free)
        (is_member sets set number)) (le-ltb (number / 64) word (omega arith))
        ∙ ap (λ b. cond b (placed set free) (is_member sets set number))
        (and_right (tells_free set) false refl))
    | inr differ ↦ three_elsewhere puts number few differ set is_set ∙ moves.moved set number is_set few
        ∙ ap (λ b. cond (tells_free set && (b && is_between from end number)) (placed set free)
        (is_member sets set number)) (same_below word number differ)
  ];
}

-- all words
pub all_moved : {sets after : List ℕ} {free : Bool} (from end word : ℕ)
    → end ≤ 64 * word → MovesPages sets after (below_word from end word) free
    → MovesPages sets after (is_between from end) free
all_moved {sets} {free = free} from end word enough moves = record {
  are_sets = moves.are_sets;
  moved = λ set number is_set few. moves.moved set number is_set few
      ∙ ap (λ b. cond (tells_free set && b) (placed set free) (is_member sets set number))
      (past_words from end word number enough);
}
