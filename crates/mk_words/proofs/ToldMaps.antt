-- What a map shows after it was told of a step: of each of the four.
use Rattle.mk_laws.proofs.Vocabulary.{List, Page, Step, ℕ, ◌%◌, ◌^◌, ◌||◌, ◌≡◌}
use Rattle.mk_core.specs.Below.Books.KnownPages.{KnownPages, Shows, is_bare, is_uncleaned, is_uncleaned_under}
use Rattle.mk_core.specs.Below.Books.KnownPages.{with_header}
use Rattle.mk_core.specs.Below.Books.KnownPages.{with_used}
use Rattle.std.specs.Prelude.{slice_set}

-- The map shows the new header, and knows if the page is still to be cleaned.
pub record HeaderIsTold (old : KnownPages) (page header : ℕ) (new : KnownPages) : Type 0 where
  pub shows : (pages : List Page) (freed : List ℕ) → Shows old pages freed
      → Shows new (with_header pages page header) freed
  pub this : is_uncleaned new page ≡ is_uncleaned_under old page header
  pub others : (number : ℕ) → (number ≡ page → ⊥) → is_uncleaned new number ≡ is_uncleaned old number

-- The map shows the new used word.
pub record UsedIsTold (old : KnownPages) (page used : ℕ) (new : KnownPages) : Type 0 where
  pub shows : (pages : List Page) (freed : List ℕ) → Shows old pages freed
      → Shows new (with_used pages page used) freed
  pub uncleaned : (number : ℕ) → is_uncleaned new number ≡ is_uncleaned old number

-- The map shows the new freed bits.
pub record QuarantineIsTold (old : KnownPages) (page now_freed : ℕ) (new : KnownPages) : Type 0 where
  pub shows : (pages : List Page) (freed : List ℕ) → Shows old pages freed
      → Shows new pages (slice_set freed page now_freed)
  pub uncleaned : (number : ℕ) → is_uncleaned new number ≡ is_uncleaned old number

-- The map knows that a page without a header was marked.
pub record MarkIsTold (old : KnownPages) (page : ℕ) (new : KnownPages) : Type 0 where
  pub shows : (pages : List Page) (freed : List ℕ) → Shows old pages freed
      → Shows new pages freed
  pub this : is_uncleaned new page ≡ (is_bare old page || is_uncleaned old page)
  pub others : (number : ℕ) → (number ≡ page → ⊥) → is_uncleaned new number ≡ is_uncleaned old number

-- The map was told of this step.
abbrev pub IsToldOf : Step → KnownPages → KnownPages → Type 0
IsToldOf (Step.Head page header) old new = HeaderIsTold old page header new
IsToldOf (Step.Used page used) old new = UsedIsTold old page used new
IsToldOf (Step.Quar page now_freed) old new = QuarantineIsTold old page (now_freed % 2 ^ 32) new
IsToldOf (Step.Mark page cells) old new = MarkIsTold old page new
IsToldOf _ old new = Unit {0}
