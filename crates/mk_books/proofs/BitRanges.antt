-- Words of sets of which several bits are put at once.
use Rattle.std.proofs.Common.{bit_and, bit_or, le-leb, le-ltb, lt-ltb, ◌/◌}
use Rattle.std.proofs.lemmas.{Bool.{cases_lt, lt-leb}, Nat.Bits.{bit_at-lt, bit_at_and, bit_at_not, bit_at_or}}
use Rattle.std.specs.Int.{bit_not}
use Rattle.mk_books.proofs.Vocabulary.{Bool, List, ap, arith, bit_at, cond, false, inl, inr}
use Rattle.mk_books.proofs.Vocabulary.{nat_eq, nat_lt, sym, true, w64, ℕ, ◌%◌, ◌*◌, ◌+◌, ◌-◌}
use Rattle.mk_books.proofs.Vocabulary.{◌<◌, ◌∙◌, ◌≡◌}
use Rattle.mk_books.specs.PageSets.{PutsBits, StoresWord, is_between, word_in_set}

pub ones_put : (word bits place : ℕ) → nat_eq (bit_at (bit_or word bits) place) 1
    ≡ cond (nat_eq (bit_at bits place) 1) true (nat_eq (bit_at word place) 1)
ones_put word bits place = grind (arith, bit_at_or, bit_at-lt)

pub zeros_put : (word bits place : ℕ) → bits < 18446744073709551616 → place < 64
    → nat_eq (bit_at (bit_and word (bit_not w64 bits)) place) 1
    ≡ cond (nat_eq (bit_at bits place) 1) false (nat_eq (bit_at word place) 1)
zeros_put word bits place fits within =
    let no = bit_at_not w64 bits place fits within in
    let both = bit_at_and word (bit_not w64 bits) place in
    grind (arith, no, both, bit_at-lt)

-- several pages are put, by their word
pub bits_put : {before after : List ℕ} {s word stored : ℕ} (bits : ℕ) {inside : Bool}
    → StoresWord before after s word stored → ((place : ℕ) → place < 64 → nat_eq (bit_at stored place) 1
    ≡ cond (nat_eq (bit_at bits place) 1) inside (nat_eq (bit_at (word_in_set before s word) place) 1))
    → PutsBits before after s word bits inside
bits_put {before} {after} {s} {word} bits {inside} stores put = record {
  are_sets = stores.are_sets;
  this = λ number few here. ap (λ w. nat_eq (bit_at (word_in_set after s w) (number % 64)) 1) here
      ∙ ap (λ n. nat_eq (bit_at n (number % 64)) 1) stores.this ∙ put (number % 64) (omega arith)
      ∙ ap (λ w. cond (nat_eq (bit_at bits (number % 64)) 1) inside
      (nat_eq (bit_at (word_in_set before s w) (number % 64)) 1)) (sym here);
  other_words = λ number few differ. ap (λ n. nat_eq (bit_at n (number % 64)) 1)
      (stores.others s (number / 64) (omega arith) (λ _ same. differ same));
  other_sets = λ other number is_set few differ. ap (λ n. nat_eq (bit_at n (number % 64)) 1)
      (stores.others other (number / 64) (omega arith) (λ same _. differ same));
}

-- the bits of a range of pages
pub range_bits : (word from end low high bits place : ℕ) → 64 * word < end → place < 64
    → nat_eq (bit_at high place) 1 ≡ nat_lt place (end - 64 * word)
    → nat_eq (bit_at low place) 1 ≡ nat_lt place (from - 64 * word) → low < 18446744073709551616
    → bits ≡ bit_and high (bit_not w64 low) → nat_eq (bit_at bits place) 1 ≡ is_between from end (64 * word + place)
range_bits word from end low high bits place begun within below above fits is =
    ap (λ n. nat_eq (bit_at n place) 1) is ∙ zeros_put high low place fits within
    ∙ ap (λ b. cond b false (nat_eq (bit_at high place) 1)) above ∙ ap (cond (nat_lt place (from - 64 * word)) false)
    below ∙ elim (cases_lt (64 * word + place) from) [
      | inl low' ↦ grind (arith, lt-ltb, lt-leb)
      | inr high' ↦ grind (arith, le-ltb, le-leb, lt-ltb, cases_lt)
    ]
