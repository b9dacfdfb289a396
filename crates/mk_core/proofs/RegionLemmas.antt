-- The table's words as one list: each stands at its index, and a change of one, or an access to it, is a change there.
use Rattle.std.proofs.lemmas.List.{get_or-map, length-map, map-set, replicate-append-replicate, set-append_left}
use Rattle.std.proofs.{lemmas.List.set-get_or, Common.{get_or-append-add, length-append}, Math.Nat.mod-add-div}
use Rattle.std.proofs.Math.Seq.{map-set_same}
use Rattle.mk_core.proofs.Vocabulary.{Access, List, Load, Named, Page, Store, TableWord, Turn, Word, Words, ℕ, ap}
use Rattle.mk_core.proofs.Vocabulary.{arith, get_or_append_left, length, map, quarantine_word, refl, replicate}
use Rattle.mk_core.proofs.Vocabulary.{slice_index, slice_index_or, slice_set, suc, sym, zero, zero_words_of, [], ◌%◌}
use Rattle.mk_core.proofs.{Vocabulary.{◌*◌, ◌++◌, ◌+◌, ◌/◌, ◌<◌, ◌^◌, ◌∙◌, ◌∷◌, ◌≡◌}, PageByPage.{dirty_at, dirty_set}}
use Rattle.mk_core.proofs.{PageByPage.{heap_at, heap_set, length_pages, zeros}, Spread.{length_spread, set_later}}
use Rattle.mk_core.{proofs.Spread.{spread_at, spread_set, word_at, word_set}, specs.Words.{word_in}}
use Rattle.mk_core.proofs.LayoutLemmas.{indexes_within, names_apart}
use Rattle.mk_geom.specs.Storages.{free_page}
use Rattle.mk_core.specs.Layout.{AccessesStandAtTheirIndexes, AreOfPages, ChangesStandAtTheirIndexes, FirstWordsAreZero}
use Rattle.mk_core.specs.Layout.{IsOfTable, ListHasAllWords, WordsStandAtTheirIndexes, gap, in_order, index_of, joined}
use Rattle.mk_core.specs.Layout.{page_by_page, quarantine_words, regions, spread}
use Rattle.mk_core.specs.{declared.accesses.Access.TheVariants.{Add, Exchange, Or, Sub}, Words.{becomes, with_word_in}}

-- how many words stand before a region
abbrev before : List (List ℕ) → ℕ → ℕ
before xss zero = 0
before [] (suc j) = 0
before (xs ∷ xss) (suc j) = length xs + before xss j

abbrev region : List (List ℕ) → ℕ → List ℕ
region xss j = slice_index_or xss j []

joined_at : (xss : List (List ℕ)) (j k : ℕ) → k < length (region xss j)
    → slice_index (joined xss) (before xss j + k) ≡ slice_index (region xss j) k
joined_at [] zero k lt = absurd (omega arith)
joined_at [] (suc j) k lt = absurd (omega arith)
joined_at (xs ∷ xss) zero k lt = ap (λ n. slice_index (xs ++ joined xss) n) (omega arith)
    ∙ get_or_append_left xs (joined xss) 0 k lt
joined_at (xs ∷ xss) (suc j) k lt =
    ap (λ n. slice_index (xs ++ joined xss) n) (omega arith) ∙ get_or-append-add xs (joined xss) (before xss j + k) 0
    ∙ joined_at xss j k lt

joined_set : (xss : List (List ℕ)) (j k v : ℕ) → k < length (region xss j)
    → slice_set (joined xss) (before xss j + k) v ≡ joined (slice_set xss j (slice_set (region xss j) k v))
joined_set [] zero k v lt = absurd (omega arith)
joined_set [] (suc j) k v lt = absurd (omega arith)
joined_set (xs ∷ xss) zero k v lt = ap (λ n. slice_set (xs ++ joined xss) n v) (omega arith)
    ∙ set-append_left xs (joined xss) k v lt
joined_set (xs ∷ xss) (suc j) k v lt =
    ap (λ n. slice_set (xs ++ joined xss) n v) (omega arith) ∙ set_later xs (joined xss) (before xss j + k) v
    ∙ ap (λ ys. xs ++ ys) (joined_set xss j k v lt)

quarantine_length : (fs ss : List ℕ) → length fs ≡ length ss → length (quarantine_words fs ss) ≡ length fs
quarantine_length [] ss e = refl
quarantine_length (f ∷ fs) [] e = absurd (omega arith)
quarantine_length (f ∷ fs) (s ∷ ss) e = ap suc (quarantine_length fs ss (omega arith))

quarantine_at : (fs ss : List ℕ) (k : ℕ) → length fs ≡ length ss → k < length fs
    → slice_index (quarantine_words fs ss) k ≡ quarantine_word (slice_index fs k) (slice_index ss k)
quarantine_at [] ss k e lt = absurd (omega arith)
quarantine_at (f ∷ fs) [] k e lt = absurd (omega arith)
quarantine_at (f ∷ fs) (s ∷ ss) zero e lt = refl
quarantine_at (f ∷ fs) (s ∷ ss) (suc k) e lt = quarantine_at fs ss k (omega arith) (omega arith)

quarantine_set : (fs ss : List ℕ) (k f s : ℕ) → length fs ≡ length ss → quarantine_words (slice_set fs k f)
    (slice_set ss k s) ≡ slice_set (quarantine_words fs ss) k (quarantine_word f s)
quarantine_set [] [] k f s e = refl
quarantine_set [] (x ∷ ss) k f s e = absurd (omega arith)
quarantine_set (x ∷ fs) [] k f s e = absurd (omega arith)
quarantine_set (x ∷ fs) (y ∷ ss) zero f s e = refl
quarantine_set (x ∷ fs) (y ∷ ss) (suc k) f s e =
    ap (λ xs. quarantine_word x y ∷ xs) (quarantine_set fs ss k f s (omega arith))

-- where each region begins, and where the last ends
record Begins (pages : ℕ) (w : Words) : Type 0 where
  gates : before (regions w) 6 ≡ 48
  registers : before (regions w) 7 ≡ 304
  globals : before (regions w) 8 ≡ 560
  headers : before (regions w) 10 ≡ 640
  used : before (regions w) 11 ≡ 640 + pages
  quarantine : before (regions w) 12 ≡ 640 + 2 * pages
  marks : before (regions w) 13 ≡ 640 + 3 * pages
  blacks : before (regions w) 14 ≡ 640 + 4 * pages
  by_page : before (regions w) 16 ≡ 656 + 5 * pages
  all : before (regions w) 17 ≡ 656 + 77 * pages

words_of_all : {pages : ℕ} {w : Words} → AreOfPages pages w → length w.heap ≡ 64 * length w.dirty
words_of_all h = let d = h.dirty in let n = h.heap in omega arith

begins : {pages : ℕ} {w : Words} → AreOfPages pages w → Begins pages w
begins {pages} {w} h =
    let g : length (spread 16 1 15 w.gates) ≡ 256 = length_spread 16 1 15 w.gates h.gates in
    let r : length (spread 16 8 8 w.registers) ≡ 256 = length_spread 16 8 8 w.registers h.registers in
    let l = h.globals in
    let p : length (map (λ (page : Page). page.header) w.pages) ≡ pages =
    length-map w.pages (λ (page : Page). page.header) ∙ h.pages in
    let u : length (map (λ (page : Page). page.used) w.pages) ≡ pages = length-map w.pages (λ (page : Page). page.used)
    ∙ h.pages in
    let q : length (quarantine_words w.freed w.snapshot) ≡ pages = quarantine_length w.freed w.snapshot (h.freed
    ∙ sym h.snapshot) ∙ h.freed in
    let d = h.dirty in
    let s : length (page_by_page w.dirty w.heap) ≡ 72 * length w.dirty = length_pages w.dirty w.heap (words_of_all h) in
    let m = h.marks in let b = h.blacks in
    omega arith

-- the list with another region j
abbrev put : Words → ℕ → List ℕ → List ℕ
put w j xs = joined (slice_set (regions w) j xs)

used_kept : (ps : List Page) (p v : ℕ) → map (λ (page : Page). page.used) (slice_set ps p
    (record { header = v; used = (slice_index_or ps p free_page).used })) ≡ map (λ (page : Page). page.used) ps
used_kept ps p v = map-set_same (λ (page : Page). page.used) ps p
    (record { header = v; used = (slice_index_or ps p free_page).used }) free_page refl

-- the word at index i is the one at k of region j
record IsPlaceOf (w : Words) (i j k : ℕ) : Type 0 where
  index : i ≡ before (regions w) j + k
  within : k < length (region (regions w) j)

at : {w : Words} {i j k : ℕ} → IsPlaceOf w i j k → slice_index (in_order w) i ≡ slice_index (region (regions w) j) k
at {w} {j} {k} is = ap (λ x. slice_index (in_order w) x) is.index ∙ joined_at (regions w) j k is.within

-- a change of it
set_at : {w : Words} {i j k : ℕ} (v : ℕ) → IsPlaceOf w i j k
    → joined (slice_set (regions w) j (slice_set (region (regions w) j) k v)) ≡ slice_set (in_order w) i v
set_at {w} {j} {k} v is = sym (ap (λ x. slice_set (in_order w) x v) is.index ∙ joined_set (regions w) j k v is.within)

module _ {pages : ℕ} {w : Words} (h : AreOfPages pages w) (b : Begins pages w) where
  gate_place : (j : ℕ) → j < 16 → IsPlaceOf w (48 + 16 * j) 6 (16 * j)
  gate_place j t = omega (arith, length_spread 16 1 15 w.gates h.gates)

  register_place : (c r : ℕ) → c < 16 → r < 8 → IsPlaceOf w (304 + 16 * c + r) 7 (16 * c + r)
  register_place c r lc lr = omega (arith, length_spread 16 8 8 w.registers h.registers)

  global_place : (g : ℕ) → g < 64 → IsPlaceOf w (560 + g) 8 g
  global_place g t = omega arith

  head_place : (p : ℕ) → p < pages → IsPlaceOf w (640 + p) 10 p
  head_place p t = omega (arith, length-map w.pages (λ (page : Page). page.header))

  used_place : (p : ℕ) → p < pages → IsPlaceOf w (640 + pages + p) 11 p
  used_place p t = omega (arith, length-map w.pages (λ (page : Page). page.used))

  quarantine_place : (p : ℕ) → p < pages → IsPlaceOf w (640 + 2 * pages + p) 12 p
  quarantine_place p t = omega (arith, quarantine_length w.freed w.snapshot (h.freed ∙ sym h.snapshot))

  mark_place : (p : ℕ) → p < pages → IsPlaceOf w (640 + 3 * pages + p) 13 p
  mark_place p t = omega arith

  black_place : (p : ℕ) → p < pages → IsPlaceOf w (640 + 4 * pages + p) 14 p
  black_place p t = omega arith

  dirty_place : (p : ℕ) → p < pages → IsPlaceOf w (720 + 5 * pages + 72 * p) 16 (72 * p + 64)
  dirty_place p t = omega (arith, length_pages w.dirty w.heap (words_of_all h), h.dirty)

  heap_place : (n : ℕ) → n < 64 * pages → IsPlaceOf w (656 + 5 * pages + n + 8 * (n / 64)) 16 (72 * (n / 64) + n % 64)
  heap_place n t = omega (arith, length_pages w.dirty w.heap (words_of_all h), h.dirty)

  whole : (n : ℕ) → 64 * (n / 64) + n % 64 ≡ n
  whole n = omega arith

  named_stands : (x : Word) → IsOfTable pages (Named x)
      → slice_index (in_order w) (index_of pages (Named x)) ≡ word_in w (Named x)
  named_stands (Word.Gate j) t = at (gate_place j t) ∙ word_at 16 w.gates j h.gates t
  named_stands (Word.Reg c r) t = at (register_place c r t.0 t.1) ∙ spread_at 16 8 8 w.registers c r h.registers t.0 t.1
  named_stands (Word.Global g) t = at (global_place g t)
  named_stands (Word.Head p) t = at (head_place p t)
      ∙ get_or-map (λ (page : Page). page.header) w.pages p free_page 0 (omega arith)
  named_stands (Word.Used p) t = at (used_place p t)
      ∙ get_or-map (λ (page : Page). page.used) w.pages p free_page 0 (omega arith)
  named_stands (Word.Quar p) t = at (quarantine_place p t)
      ∙ quarantine_at w.freed w.snapshot p (h.freed ∙ sym h.snapshot) (omega arith)
  named_stands (Word.Mark p) t = at (mark_place p t)
  named_stands (Word.Black p) t = at (black_place p t)
  named_stands (Word.Dirty p) t = at (dirty_place p t)
      ∙ dirty_at w.dirty w.heap p (words_of_all h) (omega (arith, h.dirty))
  named_stands (Word.Heap n) t = at (heap_place n t) ∙ heap_at w.dirty w.heap (n / 64) (n % 64) (words_of_all h)
      (omega (arith, h.dirty)) (omega arith) ∙ ap (λ k. slice_index w.heap k) (whole n)
  named_stands _ t = refl

  named_changes : (x : Word) (v : ℕ) → IsOfTable pages (Named x)
      → in_order (with_word_in w (Named x) v) ≡ slice_set (in_order w) (index_of pages (Named x)) v
  named_changes (Word.Gate j) v t =
      ap (λ xs. put w 6 xs) (word_set 16 w.gates j v h.gates t) ∙ set_at v (gate_place j t)
  named_changes (Word.Reg c r) v t =
      ap (λ xs. put w 7 xs) (sym (spread_set 16 8 8 w.registers c r v h.registers t.0 t.1))
      ∙ set_at v (register_place c r t.0 t.1)
  named_changes (Word.Global g) v t = set_at v (global_place g t)
  named_changes (Word.Head p) v t =
      let page : Page = record { header = v; used = (slice_index_or w.pages p free_page).used } in
      let headers = map (λ (x : Page). x.header) (slice_set w.pages p page) in
      ap (λ us. joined (slice_set (slice_set (regions w) 10 headers) 11 us)) (used_kept w.pages p v)
      ∙ ap (λ hs. put w 10 hs) (map-set (λ (x : Page). x.header) w.pages p page) ∙ set_at v (head_place p t)
  named_changes (Word.Used p) v t =
      let page : Page = record { header = (slice_index_or w.pages p free_page).header; used = v } in
      let used = map (λ (x : Page). x.used) (slice_set w.pages p page) in
      ap (λ hs. joined (slice_set (slice_set (regions w) 10 hs) 11 used)) (
      map-set_same (λ (page : Page). page.header) w.pages p
      (record { header = (slice_index_or w.pages p free_page).header; used = v }) free_page refl)
      ∙ ap (λ us. put w 11 us) (map-set (λ (x : Page). x.used) w.pages p page) ∙ set_at v (used_place p t)
  named_changes (Word.Quar p) v t =
      ap (λ xs. put w 12 xs) (quarantine_set w.freed w.snapshot p (v % 2 ^ 32) (v / 2 ^ 32) (h.freed ∙ sym h.snapshot))
      ∙ ap (λ x. put w 12 (slice_set (quarantine_words w.freed w.snapshot) p x)) (mod-add-div v (2 ^ 32))
      ∙ set_at v (quarantine_place p t)
  named_changes (Word.Mark p) v t = set_at v (mark_place p t)
  named_changes (Word.Black p) v t = set_at v (black_place p t)
  named_changes (Word.Dirty p) v t =
      ap (λ xs. put w 16 xs) (sym (dirty_set w.dirty w.heap p v (words_of_all h) (omega (arith, h.dirty))))
      ∙ set_at v (dirty_place p t)
  named_changes (Word.Heap n) v t = ap (λ k. put w 16 (page_by_page w.dirty (slice_set w.heap k v))) (sym (whole n))
      ∙ ap (λ xs. put w 16 xs) (sym (heap_set w.dirty w.heap (n / 64) (n % 64) v (words_of_all h)
      (omega (arith, h.dirty)) (omega arith))) ∙ set_at v (heap_place n t)
  named_changes _ v t = refl

pub words_stand : WordsStandAtTheirIndexes
words_stand pages w Turn h t = refl
words_stand pages w (Named x) h t = named_stands h (begins h) x t

pub words_change : ChangesStandAtTheirIndexes
words_change pages w Turn v h t = refl
words_change pages w (Named x) v h t = named_changes h (begins h) x v t

length_joined : (xss : List (List ℕ)) → length (joined xss) ≡ before xss (length xss)
length_joined [] = refl
length_joined (xs ∷ xss) = length-append xs (joined xss) ∙ ap (λ n. length xs + n) (length_joined xss)

pub has_all_words : ListHasAllWords
has_all_words pages w h = length_joined (regions w) ∙ (begins h).all

-- A table of zeros is nothing but gaps.
abbrev total : List ℕ → ℕ
total [] = 0
total (n ∷ counts) = n + total counts

joined_gaps : (counts : List ℕ) → joined (map gap counts) ≡ gap (total counts)
joined_gaps [] = refl
joined_gaps (n ∷ counts) = ap (λ xs. gap n ++ xs) (joined_gaps counts)
    ∙ replicate-append-replicate {A = ℕ} n (total counts) 0

map_replicate : (f : Page → ℕ) (page : Page) (n : ℕ) → map f (replicate n page) ≡ replicate n (f page)
map_replicate f page zero = refl
map_replicate f page (suc n) = ap (λ xs. f page ∷ xs) (map_replicate f page n)

no_quarantine : (n : ℕ) → quarantine_words (replicate n 0) (replicate n 0) ≡ replicate n 0
no_quarantine zero = refl
no_quarantine (suc n) = ap (λ xs. 0 ∷ xs) (no_quarantine n)

pub first_are_zero : FirstWordsAreZero
unfolding spread
first_are_zero pages =
    let w = zero_words_of pages in
    ap (λ hs. put w 10 hs) (map_replicate (λ (page : Page). page.header) free_page pages) ∙ ap (λ us. joined (slice_set
    (slice_set (regions w) 10 (gap pages)) 11 us)) (map_replicate (λ (page : Page). page.used) free_page pages)
    ∙ ap (λ qs. joined (slice_set (slice_set (slice_set (regions w) 10 (gap pages)) 11 (gap pages)) 12 qs))
    (no_quarantine pages) ∙ ap (λ ds. joined (slice_set (slice_set (slice_set (slice_set (regions w) 10 (gap pages)) 11
    (gap pages)) 12 (gap pages)) 16 ds)) (zeros pages) ∙ joined_gaps (1 ∷ 15 ∷ 1 ∷ 15 ∷ 5 ∷ 11 ∷ 256 ∷ 256 ∷ 64 ∷ 16 ∷
    pages ∷ pages ∷ pages ∷ pages ∷ pages ∷ 16 ∷ 72 * pages ∷ []) ∙ ap gap (omega arith)

-- what an access makes of a word, made of the list's
made : {pages : ℕ} {w : Words} (x : TableWord) (a : Access) → AreOfPages pages w → IsOfTable pages x
    → in_order (with_word_in w x (becomes a (word_in w x)))
    ≡ slice_set (in_order w) (index_of pages x) (becomes a (slice_index (in_order w) (index_of pages x)))
made {pages} {w} x a h t = words_change pages w x (becomes a (word_in w x)) h t
    ∙ ap (λ found. slice_set (in_order w) (index_of pages x) (becomes a found)) (sym (words_stand pages w x h t))

pub accesses_change : AccessesStandAtTheirIndexes
accesses_change pages w x Load h t = sym (set-get_or (in_order w) (index_of pages x) 0)
accesses_change pages w x (Store v) h t = made x (Store v) h t
accesses_change pages w x (Exchange old new) h t = made x (Exchange old new) h t
accesses_change pages w x (Or bits) h t = made x (Or bits) h t
accesses_change pages w x (Add n) h t = made x (Add n) h t
accesses_change pages w x (Sub n) h t = made x (Sub n) h t

pub ruleset words_have_indexes_of_their_own_facts = (names_apart, indexes_within, words_stand, words_change)

pub ruleset words_are_one_list_facts = (has_all_words, first_are_zero, accesses_change)
