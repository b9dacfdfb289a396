-- What was released is counted page by page.
use Rattle.std.proofs.{Common.count_ones, lemmas.Nat.ones_le_self}
use Rattle.mk_words.proofs.Below.Laws.Vocabulary.{Words, ℕ, ap, arith, header_at, header_in, header_of, if◌then◌else◌}
use Rattle.mk_words.proofs.Below.Laws.Vocabulary.{is_unmapped_header, quarantine_word, refl, slice_index, suc, without}
use Rattle.mk_words.proofs.Below.Laws.Vocabulary.{words_under, zero, ◌*◌, ◌+◌, ◌/◌, ◌^◌, ◌∙◌, ◌≡◌}
use Rattle.mk_cycle.proofs.Vocabulary.{GivesNothingBack, IsTurn, PassState, Released, SamePage, bit_and, held_below}
use Rattle.mk_cycle.proofs.Vocabulary.{held_unmarked, now_of, released_below, released_on, words_unmarked}
use Rattle.mk_cycle.proofs.{CleaningSteps.halves, GivingSteps.none_then, PageSteps.same_header, SumsBelow.sum_same}
use Rattle.mk_cycle.specs.Freeing.{WasReleasedOn}

pub same_released : (a b : Released) → a.count ≡ b.count → a.words ≡ b.words → a.kept ≡ b.kept → a ≡ b
same_released a b count words kept = grind arith

-- what is said of a page by its snapshot, its marks and its header
told_by : (snapshot marks header s m h : ℕ) (r : Released) → snapshot ≡ s → marks ≡ m → header ≡ h
    → r.count ≡ count_ones (without snapshot marks) → r.words ≡ count_ones (without snapshot marks) * words_under
    (header_of header) → r.kept ≡ count_ones (bit_and snapshot marks) → r ≡ record {
      count = count_ones
          (without s m);
      words = count_ones (without s m) * words_under (header_of h);
      kept = count_ones (bit_and s m);
    }
told_by snapshot marks header s m h r is_snapshot is_marks is_header count words kept = grind (arith, same_released)

-- what looks at the marks and the header say of a page
pub counted_on : {p a b : PassState} (page snapshot marks header : ℕ) (r : Released) → GivesNothingBack p a
    → GivesNothingBack a b → snapshot ≡ slice_index (now_of p).words.snapshot page
    → marks ≡ slice_index (now_of a).words.marks page → header ≡ header_at (now_of b).words page → r.count ≡ count_ones
    (without snapshot marks) → r.words ≡ count_ones (without snapshot marks) * words_under (header_of header)
    → r.kept ≡ count_ones (bit_and snapshot marks) → r ≡ released_on (now_of p).words page
counted_on page snapshot marks header r first second is mark head count words kept =
    grind (arith, told_by, same_header, none_then)

-- what a look at the quarantine word says of it
pub snapshot_told : {p a : PassState} (page quarantine : ℕ) → IsTurn a → GivesNothingBack p a → quarantine
    ≡ quarantine_word (slice_index (now_of a).words.freed page) (slice_index (now_of a).words.snapshot page)
    → quarantine / 2 ^ 32 ≡ slice_index (now_of p).words.snapshot page
snapshot_told page quarantine t first word = grind (arith, halves)

-- Where its snapshot is empty, nothing is released on it.
pub nothing_on : (w : Words) (page : ℕ) → slice_index w.snapshot page ≡ 0
    → record { count = 0; words = 0; kept = 0 } ≡ released_on w page
nothing_on w page none = grind (arith, ones_le_self, told_by)

-- the same page, where it is as it was
pub told_same : (p q : PassState) (page : ℕ) → (now_of q).words.marks ≡ (now_of p).words.marks → SamePage p q page
    → released_on (now_of q).words page ≡ released_on (now_of p).words page
told_same p q page marks same = grind (arith, told_by, same_header)

pub told_alike : {p q : PassState} (page : ℕ) → GivesNothingBack p q
    → released_on (now_of q).words page ≡ released_on (now_of p).words page
told_alike {p} {q} page k = told_same p q page k.frees.marks (k.same page)

sum_of : Released → Released → Released
sum_of a b = record { count = a.count + b.count; words = a.words + b.words; kept = a.kept + b.kept }

-- one page more
pub counted_more : (w : Words) (page : ℕ) (all here : Released) → all ≡ released_below w page
    → here ≡ released_on w page → record {
      count = all.count + here.count;
      words = all.words + here.words;
      kept =
          all.kept + here.kept;
    } ≡ released_below w (page + 1)
unfolding sum_of
counted_more w page all here before now = grind (arith, sum_of)

-- the first pages
pub told_alike_below : {p q : PassState} → GivesNothingBack p q → (n : ℕ)
    → released_below (now_of q).words n ≡ released_below (now_of p).words n
unfolding sum_of
told_alike_below k zero = refl
told_alike_below {p} {q} k (suc n) =
    ap (λ (r : Released). sum_of r (released_on (now_of q).words n)) (told_alike_below k n)
    ∙ ap (λ (r : Released). sum_of (released_below (now_of p).words n) r) (told_alike n k)

-- Of its released words those of an unmapped run aren't held.

pub held_by_header : (w : Words) (page header words : ℕ) → header ≡ header_at w page → words ≡ words_unmarked w page
    → (if is_unmapped_header (header_of header) then 0 else words) ≡ held_unmarked w page
held_by_header w page header words is counted = grind arith

pub none_held : (w : Words) (page : ℕ) → record { count = 0; words = 0; kept = 0 } ≡ released_on w page
    → 0 ≡ held_unmarked w page
none_held w page none =
    (grind arith)
    ∙ ap (λ (r : Released). if is_unmapped_header (header_in w page) then 0 else r.words) none

pub told_none : (w : Words) (page : ℕ) → slice_index w.snapshot page ≡ 0
    → WasReleasedOn w page (record { count = 0; words = 0; kept = 0 }) 0
told_none w page none =
    let nothing = nothing_on w page none in
    record {
      released = nothing;
      held = none_held w page nothing;
      few = record { count = omega arith; words = omega arith; kept = omega arith };
      part = omega arith;
    }

pub held_same : (p q : PassState) (page : ℕ) → (now_of q).words.marks ≡ (now_of p).words.marks → SamePage p q page
    → held_unmarked (now_of q).words page ≡ held_unmarked (now_of p).words page
held_same p q page marks same = grind (arith, held_by_header, same_header, told_same)

pub held_alike_below : {p q : PassState} → GivesNothingBack p q → (n : ℕ)
    → held_below (now_of q).words n ≡ held_below (now_of p).words n
held_alike_below k n = grind (arith, sum_same, held_same)

pub held_more : (w : Words) (page all here : ℕ) → all ≡ held_below w page → here ≡ held_unmarked w page
    → all + here ≡ held_below w (page + 1)
held_more w page all here before now = grind arith
