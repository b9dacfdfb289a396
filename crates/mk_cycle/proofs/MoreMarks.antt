-- Marks that are added: what points well goes on doing so.
use Rattle.mk_words.proofs.Below.Laws.Vocabulary.{Cell, List, None, Option, Page, Some, Words, ℕ, ap, arith, bit_or}
use Rattle.mk_words.proofs.Below.Laws.Vocabulary.{has_bit, histories_keep_lengths, is_marked, is_none_or, length}
use Rattle.mk_words.proofs.Below.Laws.Vocabulary.{pointed_cell, points_well, refl, slice_index, slice_set, subst, sym}
use Rattle.mk_words.proofs.{Below.Laws.Vocabulary.{true, ◌<◌, ◌^◌, ◌∙◌, ◌≡◌, ◌≢◌}, PointedCells.outside_none}
use Rattle.mk_cycle.specs.{Grays.{GraysOne, IsInHand, MarksMore, with_marks}, Stops.{hand_of, still_words}}
use Rattle.mk_core.proofs.WordBits.{bit_for_has, bit_for_small, bit_of_power, bits_added, bits_stay, more_bits}
use Rattle.mk_core.proofs.PointedPages.{pointed_within}
use Rattle.mk_words.specs.States.{PassState}

-- a record with the marks of another
abbrev pub marked_as : Words → List ℕ → Words
marked_as w ms = record w { marks = ms }

pub more_same : (w v : Words) → v ≡ w → MarksMore w v
more_same w v e = subst (λ (x : Words). MarksMore w x) (sym e) (record { is = refl; grow = λ p k h. h })

pub more_then : (u v w : Words) → MarksMore u v → MarksMore v w → MarksMore u w
more_then u v w one two = record {
  is = two.is ∙ ap (λ (x : Words). marked_as x w.marks) one.is;
  grow = λ p k h. two.grow p k (one.grow p k h);
}

pub more_marked : (w v : Words) (page value : ℕ)
    → v ≡ marked_as w (slice_set w.marks page (bit_or (slice_index w.marks page) value)) → MarksMore w v
more_marked w v page value e = subst (λ (x : Words). MarksMore w x) (sym e) (record {
  is = refl;
  grow = λ p k h. bits_stay w.marks page value p k h;
})

pub well_more : (pages : ℕ) (w v : Words) (u : ℕ) → MarksMore w v → points_well pages w u ≡ true
    → points_well pages v u ≡ true
well_more pages w v u more h = grind arith

-- a value that points into nothing, or into a marked cell
pub well_none : (pages : ℕ) (w : Words) (u : ℕ) → pointed_cell pages w.pages u ≡ None → points_well pages w u ≡ true
well_none pages w u e = ap (λ (o : Option Cell). is_none_or (is_marked w) o) e

pub well_some : (pages : ℕ) (w : Words) (u : ℕ) (cell : Cell) → pointed_cell pages w.pages u ≡ Some cell
    → is_marked w cell ≡ true → points_well pages w u ≡ true
well_some pages w u cell e marked = ap (λ (o : Option Cell). is_none_or (is_marked w) o) e ∙ marked

-- the marked cell is marked
pub marked_now : (w v : Words) (cell : Cell) → cell.page < length w.marks → cell.index < 64 → v ≡ marked_as w
    (slice_set w.marks cell.page (bit_or (slice_index w.marks cell.page) (2 ^ cell.index))) → is_marked v cell ≡ true
marked_now w v cell lt small e =
    ap (λ (x : Words). is_marked x cell) e ∙ bits_added _ cell.page (2 ^ cell.index) cell.index lt
    (subst (λ n. has_bit n cell.index ≡ true) (bit_for_small cell.index small) (bit_for_has cell.index small))

-- No cell turns gray but the marked one.
pub turns_gray : (w v : Words) (cell : Cell) → v ≡ with_marks cell.page (2 ^ cell.index) w → GraysOne w cell true v
turns_gray w v cell is pages one gray = grind (arith, more_bits, bit_of_power)

-- null points into nothing
pub zero_none : (pages : ℕ) (ps : List Page) → pointed_cell pages ps 0 ≡ None
zero_none pages ps = outside_none pages ps 0 refl

-- A value that points into a cell isn't 0.
pub some_not_zero : (pages : ℕ) (ps : List Page) (u : ℕ) (cell : Cell) → pointed_cell pages ps u ≡ Some cell → u ≢ 0
some_not_zero pages ps u cell is z =
    let bad : None ≡ Some cell = sym (zero_none pages ps) ∙ ap (λ n. pointed_cell pages ps n) (sym z) ∙ is in cc

-- The hand, through looks that leave it and the words.
pub hand_kept : {p : PassState} (q : PassState) {u : ℕ} → hand_of q ≡ hand_of p → IsInHand p u → IsInHand q u
hand_kept q same h = record { hand = h.hand; is = same ∙ h.is; value = h.value; reached = h.reached }

pub marks_length : (p : PassState) → length (still_words p).marks ≡ p.table.config.pages
marks_length p = (histories_keep_lengths p.table.config p.seen).marks

-- A value is marked by the hand, through looks that leave it and the words.
module _ (pages u : ℕ) (cell : Cell) (w v x : Words) (e : v ≡ w) (points : pointed_cell pages w.pages u ≡ Some cell)
    (few : pages ≡ length w.marks)
    (is : x ≡ marked_as v (slice_set v.marks cell.page (bit_or (slice_index v.marks cell.page) (2 ^ cell.index)))) where
  is_from : x ≡ marked_as w (slice_set w.marks cell.page (bit_or (slice_index w.marks cell.page) (2 ^ cell.index)))
  is_from = cc (is, e)

  pub then_more : MarksMore w x
  then_more = more_marked w x cell.page (2 ^ cell.index) is_from

  pub then_well : points_well pages x u ≡ true
  then_well =
      let within = pointed_within pages w u cell points in
      well_some pages x u cell (ap (λ (y : Words). pointed_cell pages y.pages u) is_from ∙ points)
      (marked_now w x cell (subst (λ n. cell.page < n) few within.0) within.1 is_from)
