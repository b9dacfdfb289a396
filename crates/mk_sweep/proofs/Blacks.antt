-- Marked cells are blackened, one after the other.
use Rattle.mk_sweep.proofs.Vocabulary.{BlacksMore, Cell, CellsAreClosed, Config, PageIsBlack, PassState, Words}
use Rattle.mk_sweep.proofs.Vocabulary.{cells_under, has_bit, has_no_pointers, header_in, is_marked, still_words}
use Rattle.mk_cycle.proofs.Below.Laws.Vocabulary.{Bool, ℕ, and_from, ap, arith, cases_lt, false, histories_keep_lengths}
use Rattle.mk_cycle.proofs.Below.Laws.Vocabulary.{length, lt-ltb, nat_lt, refl, subst, sym, true, ◌&&◌, ◌+◌, ◌<◌, ◌^◌}
use Rattle.mk_cycle.proofs.Below.Laws.{Vocabulary.{◌||◌, ◌∙◌, ◌≡◌}, Tests.all_below_from}
use Rattle.mk_cycle.specs.Grays.{is_black, with_blacks}
use Rattle.mk_core.proofs.WordBits.{bit_for_has, bit_for_small, bits_added, bits_stay}
use Rattle.mk_core.specs.{Cells.words_point_well, MarkingConditions.may_turn_black}

pub blacks_same : (w v : Words) → v ≡ w → BlacksMore w v
blacks_same w v e = subst (BlacksMore w) (sym e) (record { is = refl; grow = λ p k h. h })

pub blacks_then : {u v w : Words} → BlacksMore u v → BlacksMore v w → BlacksMore u w
blacks_then {w} one two = grind arith

pub blacks_added : (w v : Words) (page bits : ℕ) → v ≡ with_blacks page bits w → BlacksMore w v
blacks_added w v page bits e = grind (arith, bits_stay)

pub blacks_length : (p : PassState) → length (still_words p).blacks ≡ p.table.config.pages
blacks_length p = (histories_keep_lengths p.table.config p.seen).blacks

pub black_now : (w v : Words) (cell : Cell) → cell.page < length w.blacks → cell.index < 64
    → v ≡ with_blacks cell.page (2 ^ cell.index) w → is_black v cell ≡ true
black_now w v cell lt small e =
    ap (λ (x : Words). is_black x cell) e ∙ bits_added w.blacks cell.page (2 ^ cell.index) cell.index lt
    (subst (λ n. has_bit n cell.index ≡ true) (bit_for_small cell.index small) (bit_for_has cell.index small))

-- What is closed stays closed, and black pages black.

pub closed_kept : {c : Config} {w v : Words} → BlacksMore w v → CellsAreClosed c w → CellsAreClosed c v
closed_kept {c} more closed = subst (CellsAreClosed c) (sym more.is) (record {
  registers = closed.registers;
  globals = closed.globals;
  words = closed.words;
})

pub page_stays_black : {w v : Words} (p : ℕ) → BlacksMore w v → PageIsBlack w p → PageIsBlack v p
page_stays_black p more black k lt marked = grind arith

-- A marked cell may turn black where the marks are closed.
pub may_turn : {c : Config} {w : Words} (cell : Cell) → CellsAreClosed c w
    → cell.index < cells_under (header_in w cell.page) → is_marked w cell ≡ true → may_turn_black c.pages w cell ≡ true
unfolding may_turn_black
may_turn {c} {w} cell closed known marked =
    and_from (nat_lt cell.index (cells_under (header_in w cell.page)) && is_marked w cell) _
    (and_from (nat_lt cell.index (cells_under (header_in w cell.page))) (is_marked w cell) (lt-ltb cell.index
    (cells_under (header_in w cell.page)) known) marked) (by (has_no_pointers (header_in w cell.page)) refl)
  where
    by : (b : Bool) → has_no_pointers (header_in w cell.page) ≡ b
        → (has_no_pointers (header_in w cell.page) || words_point_well c.pages w cell) ≡ true
    by true bare = ap (λ x. x || words_point_well c.pages w cell) bare
    by false scanned = grind (arith, all_below_from)

-- one cell more of a page, and one page more
pub cells_then : (P Q : ℕ → Type 0) (i : ℕ) → ((k : ℕ) → P k → Q k) → ((k : ℕ) → k < i → P k) → Q i
    → (k : ℕ) → k < i + 1 → Q k
cells_then P Q i on before here k lt = grind (arith, cases_lt)
