-- What the header words of a run's pages say of them.
use Rattle.mk_caller.proofs.Below.Laws.Vocabulary.{Bool, Header, IsSized, Object, Option, ap, arith, cond, false}
use Rattle.mk_caller.proofs.Below.Laws.Vocabulary.{false_from_ne_true, small_pages, header_at, header_made, header_of}
use Rattle.mk_caller.proofs.Below.Laws.Vocabulary.{is_small_object, large_count, ne_eqb, pages_made, refl, run_header}
use Rattle.mk_caller.proofs.Below.Laws.Vocabulary.{suc, sym, true, true≢false, unmapped_header, use_under, zero, Some}
use Rattle.mk_caller.proofs.Below.Laws.Vocabulary.{Words, ℕ, ◌*◌, ◌+◌, ◌-◌, RunPages, word_of, ◌<◌, ◌∙◌, ◌≡◌, ◌≢◌, ◌≤◌}
use Rattle.mk_geom.{proofs.{Bridge.run_in_range, HeaderLemmas.header_of-word_of}, specs.PageUses.{PageUse, PartOfRun}}
use Rattle.mk_core.specs.Below.Books.KnownPages.{page_at, StandsOn, run_word}
use Rattle.mk_core.proofs.ObjectHeaders.{large_header}

-- The page so far after the run's head isn't unmapped.
abbrev pub IsStillMapped : Words → RunPages → ℕ → Type 0
IsStillMapped w run distance = header_at w (run.page + distance) ≢ unmapped_header run.count distance

run_use : (pages : ℕ) (mapped leaf : Bool) (d used : ℕ)
    → use_under (Some (run_header pages mapped leaf d)) used ≡ PartOfRun mapped
run_use pages true true zero used = refl
run_use pages true false zero used = refl
run_use pages false true zero used = refl
run_use pages false false zero used = refl
run_use pages mapped leaf (suc d) used = refl

word_use : (pages : ℕ) (mapped leaf : Bool) (d used : ℕ) → 1 ≤ pages → pages ≤ 64 → d < pages
    → use_under (header_of (word_of (run_header pages mapped leaf d))) used ≡ PartOfRun mapped
word_use pages mapped leaf d used some most near =
    ap (λ (x : Option Header). use_under x used) (header_of-word_of (run_header pages mapped leaf d)
    (run_in_range pages mapped leaf d some most (omega (arith, near, most)))) ∙ run_use pages mapped leaf d used

pub made_use : (o : Object) (d used : ℕ) → IsSized o → is_small_object o ≡ false → d < pages_made o
    → use_under (header_of (header_made o d)) used ≡ PartOfRun true
made_use o d used sized large near =
    let range = large_count o sized large in
    ap (λ (n : ℕ). use_under (header_of n) used) (large_header o d large)
    ∙ word_use (pages_made o) true o.leaf d used range.0 range.1 near

pub unmapped_use : (count d used : ℕ) → count ≤ 64 → d < count
    → use_under (header_of (unmapped_header count d)) used ≡ PartOfRun false
unmapped_use count d used few near = word_use count false false d used (omega (arith, near)) few near

-- an object that gets several pages is large
pub is_large : (o : Object) → (pages_made o ≡ 1 → ⊥) → is_small_object o ≡ false
is_large o several = false_from_ne_true _ (λ small. several (small_pages o small))

-- the pages of a mapped run aren't unmapped
abbrev is_of_mapped : PageUse → Bool
is_of_mapped (PartOfRun mapped) = mapped
is_of_mapped _ = false

pub still_mapped : (w : Words) (run : RunPages) (d : ℕ) → StandsOn (PartOfRun true) w.pages run.page run.count
    → run.count ≤ 64 → d < run.count → IsStillMapped w run d
still_mapped w run d stands few near unmapped =
    let used = (page_at w.pages (run.page + d)).used in
    true≢false (ap is_of_mapped (sym (stands d near) ∙ ap (λ (n : ℕ). use_under (header_of n) used) unmapped
    ∙ unmapped_use run.count d used few near))

-- The header words that are stored together are those of an object's pages,
later_word : (head next d : ℕ) → run_word head next (suc d) ≡ next + 16 * d
later_word head next d =
    ap (λ (b : Bool). cond b head (next + 16 * (suc d - 1))) (ne_eqb (suc d) 0 (λ e. absurd (omega (arith, e))))
    ∙ omega arith

pub made_word : (o : Object) (d : ℕ) → is_small_object o ≡ false
    → run_word (header_made o 0) (header_made o 1) d ≡ header_made o d
made_word o zero large = refl
made_word o (suc d) large =
    let later : 26 + 16 * d ≡ 10 + 16 * suc d = omega arith in
    later_word (header_made o 0) (header_made o 1) d ∙ ap (λ (n : ℕ). n + 16 * d) (large_header o 1 large)
    ∙ later ∙ sym (large_header o (suc d) large)

-- and those of an unmapped run's.
pub unmapped_word : (count d : ℕ)
    → run_word (word_of (Header.Run count false)) (word_of (Header.Later 1 false)) d ≡ unmapped_header count d
unmapped_word count zero = refl
unmapped_word count (suc d) =
    let later : 28 + 16 * d ≡ 12 + 16 * suc d = omega arith in
    later_word (word_of (Header.Run count false)) (word_of (Header.Later 1 false)) d ∙ later
