-- Black and dirty words that are cleared.
use Rattle.std.proofs.lemmas.Nat.{le_or_l, le_or_r}
use Rattle.mk_words.proofs.Below.Laws.Vocabulary.{List, Words, ℕ, ap, arith, bit_or, cases_eq, cases_lt}
use Rattle.mk_words.proofs.Below.Laws.Vocabulary.{get_or-set_other, get_or-set_same, get_or_past, head_page, inl, inr}
use Rattle.mk_words.proofs.Below.Laws.Vocabulary.{length, no_bit, refl, set-get_or, set_past, slice_index, slice_set}
use Rattle.mk_words.proofs.Below.Laws.Vocabulary.{subst, sym, ◌+◌, ◌<◌, ◌∙◌, ◌≡◌, ◌≢◌, ◌≤◌}
use Rattle.mk_cycle.proofs.DirtyWords.{dirty_is_one}
use Rattle.mk_cycle.specs.{Stops.still_words, Grays.{BlacksFewer, DirtyFewer, DirtyIsUnscanned, HasDirtyPart}}
use Rattle.mk_cycle.specs.Grays.{IsCleaner, IsUnmarked}
use Rattle.mk_words.specs.States.{PassState}

-- a word that is cleared, and the others

cleared_here : (xs : List ℕ) (p : ℕ) → slice_index (slice_set xs p 0) p ≡ 0
cleared_here xs p = elim (cases_lt p (length xs)) [
  | inl lt ↦ get_or-set_same xs p 0 0 lt
  | inr past ↦ ap (λ (ys : List ℕ). slice_index ys p) (set_past xs p 0 past) ∙ get_or_past xs p 0 past
]

cleared_stays : (xs : List ℕ) (q p : ℕ) → slice_index xs p ≡ 0 → slice_index (slice_set xs q 0) p ≡ 0
cleared_stays xs q p z = elim (cases_eq p q) [
  | inl e ↦ ap (λ i. slice_index (slice_set xs q 0) i) e ∙ cleared_here xs q
  | inr ne ↦ get_or-set_other xs q p 0 0 ne ∙ z
]

abbrev blacked_as : Words → List ℕ → Words
blacked_as w bs = record w { blacks = bs }

abbrev dirtied_as : Words → List ℕ → Words
dirtied_as w ds = record w { dirty = ds }

-- a black word that is 0 is as if it were cleared
pub black_clear : (w : Words) (page : ℕ) → slice_index w.blacks page ≡ 0 → w ≡ blacked_as w (slice_set w.blacks page 0)
black_clear w page z =
    ap (blacked_as w) (sym (ap (λ v. slice_set w.blacks page v) (sym z) ∙ set-get_or w.blacks page 0))

pub blacks_same : (w v : Words) → v ≡ w → BlacksFewer w v
blacks_same w v e = subst (λ (x : Words). BlacksFewer w x) (sym e) (record { is = refl; fewer = λ p z. z })

pub blacks_cleared : (w v : Words) (page : ℕ) → v ≡ blacked_as w (slice_set w.blacks page 0) → BlacksFewer w v
blacks_cleared w v page e = grind (arith, cleared_stays)

pub blacks_then : (u v w : Words) → BlacksFewer u v → BlacksFewer v w → BlacksFewer u w
blacks_then u v w one two = grind (arith, blacked_as)

pub dirty_same : (w v : Words) → v ≡ w → DirtyFewer w v
dirty_same w v e = subst (λ (x : Words). DirtyFewer w x) (sym e) (record { is = refl; fewer = λ p z. z })

pub dirty_cleared : (w v : Words) (page : ℕ) → v ≡ dirtied_as w (slice_set w.dirty page 0) → DirtyFewer w v
dirty_cleared w v page e = grind (arith, cleared_stays)

pub dirty_then : (u v w : Words) → DirtyFewer u v → DirtyFewer v w → DirtyFewer u w
dirty_then u v w one two = grind (arith, dirtied_as)

pub black_cleared : (w v : Words) (page : ℕ) → v ≡ blacked_as w (slice_set w.blacks page 0)
    → slice_index v.blacks page ≡ 0
black_cleared w v page e = ap (λ (x : Words). slice_index x.blacks page) e ∙ cleared_here w.blacks page

pub dirt_cleared : (w v : Words) (page : ℕ) → v ≡ dirtied_as w (slice_set w.dirty page 0) → slice_index v.dirty page ≡ 0
dirt_cleared w v page e = ap (λ (x : Words). slice_index x.dirty page) e ∙ cleared_here w.dirty page

pub same_dirt : {w v : Words} (p : ℕ) → BlacksFewer w v → slice_index v.dirty p ≡ slice_index w.dirty p
same_dirt p fewer = ap (λ (x : Words). slice_index x.dirty p) fewer.is

-- Black and dirty words are cleared: a dirty one, black ones, and some after others.

pub dirt_cleaner : (w v : Words) (page : ℕ) → v ≡ dirtied_as w (slice_set w.dirty page 0) → IsCleaner w v
dirt_cleaner w v page e =
    subst (λ (x : Words). IsCleaner w x) (sym e) (record { is = refl; fewer = λ p z. cleared_stays w.dirty page p z })

pub blacks_cleaner : {w v : Words} → BlacksFewer w v → IsCleaner w v
blacks_cleaner fewer = grind (arith, same_dirt)

pub cleaner_nothing : (w : Words) → IsCleaner w w
cleaner_nothing w = record { is = refl; fewer = λ p z. z }

pub cleaner_then : {u v w : Words} → IsCleaner u v → IsCleaner v w → IsCleaner u w
cleaner_then {w = w} one two = record {
  is = two.is ∙ ap (λ (x : Words). record x { blacks = w.blacks; dirty = w.dirty }) one.is;
  fewer = λ p z. two.fewer p (one.fewer p z);
}

-- A dirty page whose black word is cleared, and that of its head.
pub cleared_unscanned : (v : Words) (page : ℕ) → slice_index v.blacks page ≡ 0
    → slice_index v.blacks (head_page v page) ≡ 0 → DirtyIsUnscanned v page
cleared_unscanned v page own head = record { own = λ some. own; head = λ some. head }

pub own_part : (p : PassState) (page : ℕ) → slice_index (still_words p).dirty page ≢ 0
    → HasDirtyPart (still_words p) page
own_part p page some = grind (arith, dirty_is_one)

pub head_part : (p : PassState) (page head : ℕ) → slice_index (still_words p).dirty page ≢ 0
    → head_page (still_words p) page ≡ head → HasDirtyPart (still_words p) head
head_part p page head some is = grind (arith, dirty_is_one)

-- such a part is one in the same words but for the black ones
pub part_kept : {w v : Words} {page : ℕ} → BlacksFewer w v → HasDirtyPart w page → HasDirtyPart v page
part_kept fewer h = grind arith

-- A page without marks goes on having none, and one has none whose mark word was found to be 0.

pub unmarked_kept : {w v : Words} (p : ℕ) → IsCleaner w v → IsUnmarked w p → IsUnmarked v p
unmarked_kept p cleaner none k lt = grind arith

pub no_mark_found : {w v : Words} (p : ℕ) {found : ℕ} → v ≡ w → found ≡ slice_index w.marks p → found ≡ 0
    → IsUnmarked v p
no_mark_found p same is none k lt = grind (arith, no_bit)

pub no_bit_of_either : (a b : ℕ) → bit_or a b ≡ 0 → (a ≡ 0) × (b ≡ 0)
no_bit_of_either a b none = let left = le_or_l a b in let right = le_or_r a b in (omega arith, omega arith)

-- what holds of each page below one, and of the next
pub pages_then : (P Q : ℕ → Type 0) (i : ℕ) → ((p : ℕ) → P p → Q p) → ((p : ℕ) → p < i → P p) → Q i → (p : ℕ)
    → p < i + 1 → Q p
pages_then P Q i on before here p lt = grind (arith, cases_lt)

-- and the same of the pages from one on
pub range_then : (P Q : ℕ → Type 0) (from i : ℕ) → ((p : ℕ) → P p → Q p)
    → ((p : ℕ) → from ≤ p → p < i → P p) → Q i → (p : ℕ) → from ≤ p → p < i + 1 → Q p
range_then P Q from i on before here p low lt = grind (arith, cases_lt)

-- and what holds of each page below the first of a range, and of each of the range
pub range_past : (P Q : ℕ → Type 0) (first end : ℕ) → ((p : ℕ) → P p → Q p) → ((p : ℕ) → p < first → P p)
    → ((p : ℕ) → first ≤ p → p < end → Q p) → (p : ℕ) → p < end → Q p
range_past P Q first end on before range p lt = grind (arith, cases_lt)
