-- A cell that is blackened: its words point well, and one fewer is white.
use Rattle.mk_words.proofs.Below.Laws.Vocabulary.{Bool, Cell, Header, List, Option, Words, ℕ, and_from, ap, arith}
use Rattle.mk_words.proofs.Below.Laws.Vocabulary.{bit_or, cases_lt, cell_words, cells_of, cells_under, false}
use Rattle.mk_words.proofs.Below.Laws.Vocabulary.{first_word, has_bit, has_no_pointers, header_in, if◌then◌else◌, inl}
use Rattle.mk_words.proofs.Below.Laws.Vocabulary.{inr, is_marked, length, lt-ltb, nat_lt, points_well, refl}
use Rattle.mk_words.proofs.Below.Laws.Vocabulary.{slice_index, slice_set, subst, suc, sym, true, zero, ◌&&◌, ◌+◌, ◌<◌}
use Rattle.mk_words.proofs.Below.Laws.{Vocabulary.{◌^◌, ◌||◌, ◌∙◌, ◌≡◌, ◌≤◌, ◌⊎◌}, Tests.all_below_from}
use Rattle.mk_cycle.specs.Grays.{BlackensOne, ColoursMore, IsGray, MarksMore, is_black, with_blacks}
use Rattle.mk_core.proofs.WordBits.{bit_for_has, bit_for_small, bits_added, bits_stay}
use Rattle.mk_core.specs.{Cells.words_point_well, MarkingConditions.may_turn_black}

-- how many numbers below one a test doesn't hold of, and the sum of these counts over pages

abbrev one_unless : Bool → ℕ
one_unless b = if b then 0 else 1

pub misses : ℕ → (ℕ → Bool) → ℕ
misses zero test = 0
misses (suc n) test = misses n test + one_unless (test n)

pub sum_below : ℕ → (ℕ → ℕ) → ℕ
sum_below zero f = 0
sum_below (suc n) f = sum_below n f + f n

-- how many cells aren't black
pub white_cells : ℕ → List ℕ → ℕ
white_cells pages blacks = sum_below pages (λ p. misses 32 (has_bit (slice_index blacks p)))

less_where_more : (a b : Bool) → (a ≡ true → b ≡ true) → one_unless b ≤ one_unless a
less_where_more x0 x1 h = grind arith

misses_less : (n : ℕ) (before after : ℕ → Bool) → ((k : ℕ) → before k ≡ true → after k ≡ true)
    → misses n after ≤ misses n before
unfolding misses
misses_less zero before after grow = omega arith
misses_less (suc n) before after grow =
    let less = misses_less n before after grow in
    let here = less_where_more (before n) (after n) (grow n) in omega arith

misses_fewer : (n i : ℕ) (before after : ℕ → Bool) → ((k : ℕ) → before k ≡ true → after k ≡ true) → i < n
    → before i ≡ false → after i ≡ true → misses n after < misses n before
unfolding misses
misses_fewer zero i before after grow lt no_more now = absurd (omega arith)
misses_fewer (suc n) i before after grow lt no_more now = elim (cases_lt i n) [
  | inl below ↦
      let fewer = misses_fewer n i before after grow below no_more now in
      let last = misses_less (suc n) before after grow in
      let less = less_where_more (before n) (after n) (grow n) in omega arith
  | inr here ↦
      let at : i ≡ n = omega arith in
      let less = misses_less n before after grow in
      let one : one_unless (before n) ≡ 1 = ap one_unless (ap before (sym at) ∙ no_more) in
      let none : one_unless (after n) ≡ 0 = ap one_unless (ap after (sym at) ∙ now) in
      omega arith
]

sums_less : (n : ℕ) (f g : ℕ → ℕ) → ((p : ℕ) → g p ≤ f p) → sum_below n g ≤ sum_below n f
unfolding sum_below
sums_less zero f g each = omega arith
sums_less (suc n) f g each = let less = sums_less n f g each in let here = each n in omega arith

sums_fewer : (n i : ℕ) (f g : ℕ → ℕ) → ((p : ℕ) → g p ≤ f p) → i < n → g i < f i → sum_below n g < sum_below n f
unfolding sum_below
sums_fewer zero i f g each lt here = absurd (omega arith)
sums_fewer (suc n) i f g each lt here = elim (cases_lt i n) [
  | inl below ↦ let fewer = sums_fewer n i f g each below here in let last = each n in omega arith
  | inr past ↦
      let at : i ≡ n = omega arith in
      let less = sums_less n f g each in
      let last : g n < f n = subst (λ j. g j < f j) at here in omega arith
]

-- One more black cell leaves fewer white ones.
pub fewer_white : (pages page index : ℕ) (blacks : List ℕ) → page < pages → page < length blacks → index < 32
    → has_bit (slice_index blacks page) index ≡ false → white_cells pages
    (slice_set blacks page (bit_or (slice_index blacks page) (2 ^ index))) < white_cells pages blacks
unfolding white_cells
fewer_white pages page index blacks lt within small white =
    let after : List ℕ = slice_set blacks page (bit_or (slice_index blacks page) (2 ^ index)) in
    sums_fewer pages page (λ p. misses 32 _) (λ p. misses 32 (has_bit (slice_index after p))) (λ p. misses_less 32
    (has_bit (slice_index blacks p)) (has_bit (slice_index after p)) (λ k h. bits_stay blacks page (2 ^ index) p k h))
    lt (misses_fewer 32 index (has_bit (slice_index blacks page)) (has_bit (slice_index after page))
    (λ k h. bits_stay blacks page (2 ^ index) page k h) small white (bits_added blacks page (2 ^ index) index within
    (subst (λ n. has_bit n index ≡ true) (bit_for_small index (omega arith)) (bit_for_has index (omega arith)))))

-- A gray cell goes on being marked, with its header; it may turn black.

pub gray_turns : {pages : ℕ} {w v : Words} {cell : Cell} → IsGray pages w cell → MarksMore w v
    → (has_no_pointers (header_in w cell.page) ≡ true) ⊎ (words_point_well pages v cell ≡ true)
    → may_turn_black pages v cell ≡ true
unfolding may_turn_black
gray_turns {pages} {w} {v} {cell} gray more either =
    and_from (nat_lt cell.index (cells_under (header_in v cell.page)) && is_marked v cell) _
    (and_from (nat_lt cell.index (cells_under (header_in v cell.page))) (is_marked v cell)
    (ap (λ (y : Words). nat_lt cell.index (cells_under (header_in y cell.page))) more.is ∙ lt-ltb cell.index
    (cells_under (header_in w cell.page)) gray.index) (more.grow cell.page cell.index gray.marked)) (by either)
  where
    by : (has_no_pointers (header_in w cell.page) ≡ true) ⊎ (words_point_well pages v cell ≡ true)
        → (has_no_pointers (header_in v cell.page) || words_point_well pages v cell) ≡ true
    by x0 = grind arith

-- A gray cell stays one after marks, with its header and its words.
pub gray_kept : {pages : ℕ} {w v : Words} {cell : Cell} → IsGray pages w cell → MarksMore w v → IsGray pages v cell
gray_kept gray more = grind arith

-- Once each of its words points well, they all do.
pub scan_done : (pages : ℕ) {w v : Words} (cell : Cell) → MarksMore w v → ((j : ℕ) → j < cell_words w cell
    → points_well pages v (slice_index w.heap (first_word w cell + j)) ≡ true) → words_point_well pages v cell ≡ true
scan_done pages cell more each = grind (arith, all_below_from)

-- what stays after marks, of the cell
pub cell_kept : {w v : Words} (cell : Cell) (i : ℕ) → MarksMore w v
    → slice_index v.heap (first_word v cell + i) ≡ slice_index w.heap (first_word w cell + i)
cell_kept cell i more = ap (λ (y : Words). slice_index y.heap (first_word y cell + i)) more.is

-- A page has at most 32 cells.

few_of_class : (k : ℕ) → cells_of k ≤ 32
few_of_class x0 = grind arith

pub cells_few : (x : Option Header) → cells_under x ≤ 32
cells_few x0 = grind (arith, few_of_class)

-- A cell is blackened after marks.
pub blackens_one : {w x : Words} (v : Words) (cell : Cell) → MarksMore w x
    → v ≡ record x { blacks = slice_set x.blacks cell.page (bit_or (slice_index x.blacks cell.page) (2 ^ cell.index)) }
    → BlackensOne w cell v
blackens_one v cell more is = grind arith

-- Colours are added, one part after another.

pub colours_same : (w : Words) → ColoursMore w w
colours_same w = record { is = refl; marks = λ p k h. h; blacks = λ p k h. h }

pub colours_then : (w : Words) {v x : Words} {cell : Cell} → ColoursMore w v → BlackensOne v cell x → ColoursMore w x
colours_then w one two = grind (arith, bits_stay)

-- one fewer is white
pub one_fewer_white : {pages : ℕ} {w v x : Words} {cell : Cell} → IsGray pages w cell → pages ≡ length w.blacks → v ≡ w
    → BlackensOne v cell x → white_cells pages x.blacks < white_cells pages w.blacks
one_fewer_white gray count same one = grind (arith, cells_few, white_cells, fewer_white)

-- the blackened cell is black
pub black_now : {pages : ℕ} {w v : Words} (x : Words) (cell : Cell) → IsGray pages w cell → pages ≡ length x.blacks
    → v ≡ with_blacks cell.page (2 ^ cell.index) x → is_black v cell ≡ true
black_now {w = w} x cell gray count is =
    let few : cells_under (header_in w cell.page) ≤ 32 = cells_few _ in
    let known = gray.index in
    let within = gray.page in
    ap (λ (y : Words). is_black y cell) is ∙ bits_added x.blacks cell.page (2 ^ cell.index) cell.index (omega arith)
    (subst (λ n. has_bit n cell.index
    ≡ true) (bit_for_small cell.index (omega arith)) (bit_for_has cell.index (omega arith)))
