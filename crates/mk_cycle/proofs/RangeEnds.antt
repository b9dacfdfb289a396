-- Where a range of pages ends that goes up to the next page of a kind, or up to the last.
use Rattle.std.specs.Option.{unwrap_or}
use Rattle.mk_words.proofs.Below.Laws.Vocabulary.{Bool, None, Option, Some, ℕ, arith, ◌≡◌, ◌≤◌}
use Rattle.mk_core.specs.Below.Books.KnownPages.{IsNext}

-- It isn't before its first page, and within the heap.
pub record IsRangeEnd (first pages end : ℕ) : Type 0 where
  pub begun : first ≤ end
  pub within : end ≤ pages

pub range_ends : (passes : ℕ → Bool) (first pages end : ℕ) (next : Option ℕ) → first ≤ pages
    → IsNext passes first pages next → end ≡ unwrap_or next pages → IsRangeEnd first pages end
range_ends passes first pages end (Some number) few is e = record { begun = omega arith; within = omega arith }
range_ends passes first pages end None few is e = record { begun = omega arith; within = omega arith }
