-- Small and large objects: their classes, cells, pages and words.
use Rattle.std.proofs.{Common.{cond, le-ltb, lt-ltb, unwrap_or}, lemmas.Bool.{lt-leb, or_left, or_right}}
use Rattle.std.{proofs.lemmas.Bool.Decides.{leb_tells}, specs.List.{position_or_len}}
use Rattle.mk_core.proofs.Vocabulary.{Bool, IsSized, List, Object, Some, ℕ, ap, arith, cases_Bool, cells_made, cells_of}
use Rattle.mk_core.proofs.Vocabulary.{class_made, class_words_of, cond-false, cond-true, false, inl, inr}
use Rattle.mk_core.proofs.Vocabulary.{is_small_object, le-leb, leb-true, length, list_any, nat_le, ne_eqb, not}
use Rattle.mk_core.proofs.Vocabulary.{pages_made, subst, sym, true, words_made, [], ◌*◌, ◌+◌, ◌<◌, ◌||◌, ◌∙◌, ◌∷◌, ◌≡◌}
use Rattle.mk_core.{proofs.Vocabulary.{◌≤◌}, specs.HistoryLaws.{LargeIsNotSmall}}
use Rattle.mk_geom.proofs.ClassTable.{class_for-some, class_words_within, some_cells}
use Rattle.mk_geom.specs.Addresses.{class_for, run_pages_of}

pub large_is_not_small : LargeIsNotSmall
large_is_not_small kinds = grind (arith, leb_tells, le-ltb, lt-ltb)

-- by sort

pub small_cells : (o : Object) → is_small_object o ≡ true → cells_made o ≡ cells_of (class_made o)
small_cells o small = cond-true (is_small_object o) (cells_of (class_made o)) 1 small

pub large_cells : (o : Object) → is_small_object o ≡ false → cells_made o ≡ 1
large_cells o large = cond-false (is_small_object o) (cells_of (class_made o)) 1 large

pub small_pages : (o : Object) → is_small_object o ≡ true → pages_made o ≡ 1
small_pages o small = cond-true (is_small_object o) 1 (run_pages_of o.words) small

pub large_pages : (o : Object) → is_small_object o ≡ false → pages_made o ≡ run_pages_of o.words
large_pages o large = cond-false (is_small_object o) 1 (run_pages_of o.words) large

pub small_words : (o : Object) → is_small_object o ≡ true → words_made o ≡ class_words_of (class_made o)
small_words o small = cond-true (is_small_object o) (class_words_of (class_made o)) (64 * pages_made o) small

pub large_words : (o : Object) → is_small_object o ≡ false → words_made o ≡ 64 * pages_made o
large_words o large = cond-false (is_small_object o) (class_words_of (class_made o)) (64 * pages_made o) large

-- a size of at most 32 words has a class
first_passes : (p : ℕ → Bool) (xs : List ℕ) → list_any p xs ≡ true → position_or_len p xs < length xs
first_passes p [] h = cc
first_passes p (x ∷ xs) h = elim (cases_Bool (p x)) [
  | inl e ↦ subst (λ b. cond (not b) (1 + position_or_len p xs) 0 < length (x ∷ xs)) (sym e) (omega arith)
  | inr e ↦
      let m = first_passes p xs (sym (ap (λ b. b || list_any p xs) e) ∙ h) in
      subst (λ b. cond (not b) (1 + position_or_len p xs) 0 < length (x ∷ xs)) (sym e) (omega arith)
]

pub class_for_small : (n : ℕ) → 1 ≤ n → n ≤ 32 → class_for n ≡ Some (unwrap_or (class_for n) 0)
class_for_small n some most = grind (arith, ne_eqb, le-leb, lt-ltb, first_passes, or_right, or_left)

-- the class of a small object is one of the eight, and its cells hold the object
pub class_known : (o : Object) → IsSized o → is_small_object o ≡ true
    → (class_made o < 8) × (o.words ≤ class_words_of (class_made o))
class_known o sized small =
    class_for-some o.words (class_made o) (class_for_small o.words sized.0 (leb-true o.words 32 small))

-- a large one has a run of 1 to 64 pages
pub large_count : (o : Object) → IsSized o → is_small_object o ≡ false → (1 ≤ pages_made o) × (pages_made o ≤ 64)
large_count o sized large = omega (arith, large_pages o large, sized.0, sized.1)

pub pages_some : (o : Object) → IsSized o → 1 ≤ pages_made o
pages_some o sized = grind (arith, small_pages, large_count)

pub cells_some : (o : Object) → IsSized o → 1 ≤ cells_made o
cells_some o sized = grind (arith, small_cells, some_cells, class_known, large_cells)

-- A small object's storage has at most 32 words, and a large one's 64 or more;
pub small_words_within : (o : Object) → IsSized o → is_small_object o ≡ true → (1 ≤ words_made o) × (words_made o ≤ 32)
small_words_within o sized small = grind (arith, small_words, class_words_within, class_known)

pub large_words_within : (o : Object) → IsSized o → is_small_object o ≡ false
    → (64 ≤ words_made o) × (words_made o ≤ 4096)
large_words_within o sized large = omega (arith, large_words o large, large_count o sized large)

-- it is as small as the object,
pub words_are_small : (o : Object) → IsSized o → nat_le (words_made o) 32 ≡ is_small_object o
words_are_small o sized = grind (arith, le-leb, small_words_within, lt-leb, large_words_within)

-- has 1 to 4,096 words,
pub words_within : (o : Object) → IsSized o → (1 ≤ words_made o) × (words_made o ≤ 4096)
words_within o sized = grind (arith, small_words_within, large_words_within)

-- and the object fits into it.
pub words_hold : (o : Object) → IsSized o → o.words ≤ words_made o
words_hold o sized = grind (arith, small_words, class_known, large_words, large_pages)
