-- What a store of a word, and a page put into a set or taken out, make of the sets.
use Rattle.std.proofs.Common.{◌/◌}
use Rattle.mk_books.proofs.Vocabulary.{AreSets, Bool, List, PutsPage, ℕ, ap, arith, bit_at, cases_eq, false, get_or}
use Rattle.mk_books.proofs.Vocabulary.{get_or-set_other, get_or-set_same, inl, inr, length-set, nat_eq, not, set, true}
use Rattle.mk_books.proofs.Vocabulary.{◌%◌, ◌*◌, ◌+◌, ◌<◌, ◌∙◌, ◌≡◌}
use Rattle.mk_books.specs.PageSets.{OtherWordsStay, StoresWord, summary_of, word_in_set}
use mathlib.Core.Bool.{beq}

-- two Booleans that don't differ
pub same : (a b : Bool) → not (beq a b) ≡ false → a ≡ b
same a b h = grind arith

-- and of two that differ one is the other turned
pub turned : (a b : Bool) → not (beq a b) ≡ true → not a ≡ b
turned a b h = grind arith

abbrev pub after_store : List ℕ → ℕ → ℕ → ℕ → ℕ → List ℕ
after_store sets s word bits summary = set (set sets (65 * s + 1 + word) bits) (65 * s) summary

-- the summary is that of a set of which a word is stored
pub record SummaryFits (sets : List ℕ) (s word bits summary : ℕ) : Type 0 where
  pub are_sets : AreSets sets
  pub is_set : s < 20
  pub is_word : word < 64
  pub mark : nat_eq (bit_at summary word) 1 ≡ not (nat_eq bits 0)
  pub other_marks : (k : ℕ) → k < 64 → (k ≡ word → ⊥) → bit_at summary k ≡ bit_at (summary_of sets s) k

pub stored_word : {sets : List ℕ} {s word bits summary : ℕ} → SummaryFits sets s word bits summary
    → word_in_set (after_store sets s word bits summary) s word ≡ bits
stored_word {sets} {s} {word} {bits} {summary} stores =
    get_or-set_other (set sets (65 * s + 1 + word) bits) (65 * s) (65 * s + 1 + word) summary 0
    (λ same. absurd (omega arith)) ∙ get_or-set_same sets (65 * s + 1 + word) bits 0
    (omega (arith, stores.are_sets.long, stores.is_set, stores.is_word))

pub other_word : (sets : List ℕ) (s word bits summary : ℕ) → word < 64
    → OtherWordsStay sets (after_store sets s word bits summary) s word
other_word sets s word bits summary is_word other w within differ =
    get_or-set_other (set sets (65 * s + 1 + word) bits) (65 * s) (65 * other + 1 + w) summary 0
    (λ same. absurd (omega arith)) ∙ get_or-set_other sets (65 * s + 1 + word) (65 * other + 1 + w) bits 0
    (λ same. differ (omega arith) (omega arith))

stored_summary : {sets : List ℕ} {s word bits summary : ℕ} → SummaryFits sets s word bits summary
    → summary_of (after_store sets s word bits summary) s ≡ summary
stored_summary {sets} {s} {word} {bits} {summary} stores =
    get_or-set_same (set sets (65 * s + 1 + word) bits) (65 * s) summary 0
    (omega (arith, stores.are_sets.long, stores.is_set, length-set sets (65 * s + 1 + word) bits))

other_summary : (sets : List ℕ) (s word bits summary other : ℕ) → word < 64 → (other ≡ s → ⊥)
    → summary_of (after_store sets s word bits summary) other ≡ summary_of sets other
other_summary sets s word bits summary other is_word differ =
    get_or-set_other (set sets (65 * s + 1 + word) bits) (65 * s) (65 * other) summary 0 (λ same. differ (omega arith))
    ∙ get_or-set_other sets (65 * s + 1 + word) (65 * other) bits 0 (λ same. absurd (omega arith))

-- the summary that the code reads after it has stored the word
pub summary_stays : (sets : List ℕ) (s word bits : ℕ)
    → get_or (set sets (65 * s + 1 + word) bits) (65 * s) 0 ≡ summary_of sets s
summary_stays sets s word bits = get_or-set_other sets (65 * s + 1 + word) (65 * s) bits 0
    (λ same. absurd (omega arith))

pub stored_are_sets : {sets : List ℕ} {s word bits summary : ℕ} → SummaryFits sets s word bits summary
    → AreSets (after_store sets s word bits summary)
stored_are_sets {sets} {s} {word} {bits} {summary} stores = record {
  long = length-set (set sets (65 * s + 1 + word) bits) (65 * s) summary ∙ length-set sets (65 * s + 1 + word) bits
      ∙ stores.are_sets.long;
  summaries = λ other w is_set within. elim (cases_eq other s) [
    | inl same ↦ elim (cases_eq w word) [
      | inl here ↦ grind (arith, stored_summary, stored_word)
      | inr there ↦ grind (arith, stored_summary, other_word)
    ]
    | inr differ ↦ grind (arith, other_summary, other_word)
  ];
}

pub word_stored : {sets : List ℕ} {s word bits summary : ℕ} → SummaryFits sets s word bits summary
    → StoresWord sets (after_store sets s word bits summary) s word bits
word_stored {sets} {s} {word} {bits} {summary} fits = record {
  are_sets = stored_are_sets fits;
  this = stored_word fits;
  others = other_word sets s word bits summary fits.is_word;
}

-- a page is put, by its word
pub page_put : {before after : List ℕ} {s page bits : ℕ} {inside : Bool} → page < 4096
    → StoresWord before after s (page / 64) bits → nat_eq (bit_at bits (page % 64)) 1 ≡ inside
    → ((k : ℕ) → k < 64 → (k ≡ page % 64 → ⊥) → bit_at bits k ≡ bit_at (word_in_set before s (page / 64)) k)
    → PutsPage before after s page inside
page_put {before} {after} {s} {page} is_page stores put others_stay = record {
  are_sets = stores.are_sets;
  this = ap (λ n. nat_eq (bit_at n (page % 64)) 1) stores.this ∙ put;
  other_sets = λ other is_set differ. grind (arith, same);
  other_pages = λ other number is_set is_number differ. grind (arith, same);
}
