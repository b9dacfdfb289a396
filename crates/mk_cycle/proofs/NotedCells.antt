-- Noted cells stay so while marks are added and cells are blackened, and are gray where they aren't black.
use Rattle.std.{proofs.Common.IfSome, specs.List.All}
use Rattle.mk_words.proofs.Below.Laws.Vocabulary.{Cell, List, None, OnlyGrow, Option, Some, Words, ℕ, arith}
use Rattle.mk_words.proofs.Below.Laws.Vocabulary.{cells_under, false, has_bit, header_at, header_of, is_marked}
use Rattle.mk_words.proofs.Below.Laws.Vocabulary.{slice_index, subst, sym, true, ◌+◌, ◌-◌, ◌<◌, ◌≡◌}
use Rattle.mk_cycle.specs.Grays.{IsGray, MarksMore, with_blacks, IsGrayNoted, IsNoted}
use Rattle.mk_cycle.specs.declared.noted.Noted.{Noted}
use Rattle.mk_core.{proofs.WordBits.bits_stay, specs.Cells.words_scanned}

-- Headers stay, and marks are only added.
record Stays (w v : Words) : Type 0 where
  headers : (p : ℕ) → header_at v p ≡ header_at w p
  grow : OnlyGrow w.marks v.marks

more_stays : {w v : Words} → MarksMore w v → Stays w v
more_stays more = grind arith

black_stays : (page bits : ℕ) (w v : Words) → v ≡ with_blacks page bits w → Stays w v
black_stays page bits w v is = grind arith

one_stays : (pages : ℕ) {w v : Words} (noted : Noted) → Stays w v → IsNoted pages w noted → IsNoted pages v noted
one_stays pages noted stays is = grind arith

pub all_more : {pages : ℕ} {w v : Words} (cells : List Noted) → MarksMore w v → All (IsNoted pages w) cells
    → All (IsNoted pages v) cells
all_more cells more all k d lt = one_stays _ _ (more_stays more) (all k d lt)

pub all_black : {pages : ℕ} (page bits : ℕ) {w v : Words} (cells : List Noted) → v ≡ with_blacks page bits w
    → All (IsNoted pages w) cells → All (IsNoted pages v) cells
all_black page bits {w} {v} cells is all k d lt = one_stays _ _ (black_stays page bits w v is) (all k d lt)

pub one_same : {pages : ℕ} {w v : Words} {noted : Noted} → v ≡ w → IsNoted pages w noted → IsNoted pages v noted
one_same {pages} {noted = noted} same is = subst (λ (y : Words). IsNoted pages y noted) (sym same) is

pub one_more : {pages : ℕ} {w v : Words} {noted : Noted} → MarksMore w v → IsNoted pages w noted → IsNoted pages v noted
one_more {pages} {w} {v} {noted} more = one_stays pages noted (more_stays more)

-- A cell that is gray after another was blackened was so before.
pub gray_before : {pages : ℕ} (page bits : ℕ) {w v : Words} {cell : Cell} → v ≡ with_blacks page bits w
    → IsGray pages v cell
    → IsGray pages w cell
gray_before page bits is gray = grind (arith, bits_stay)

-- A cell is noted that is marked, by the header word that was found at its page.

pub noted_cell : (pages : ℕ) (w v : Words) (cell : Cell) (header : ℕ) (noted : Option Noted) → v ≡ w
    → header ≡ header_at w cell.page → cell.page < pages → is_marked w cell ≡ true → IfSome noted
    (λ (n : Noted). n.cell ≡ cell) → IfSome noted (λ (n : Noted). n.cell.index < cells_under (header_of header))
    → IfSome noted (λ (n : Noted). n.words ≡ words_scanned (header_of header)) → IfSome noted (IsNoted pages v)
noted_cell pages w v cell header None same there within marked at known words = at
noted_cell pages w v cell header (Some noted) same there within marked at known words = grind arith

pub noted_marked : (pages : ℕ) (w : Words) {v x : Words} (noted : Noted) (page header : ℕ) → v ≡ w → MarksMore v x
    → noted.cell.page ≡ page → noted.cell.index < cells_under (header_of (1 + (header - 1)))
    → noted.words ≡ words_scanned (header_of (1 + (header - 1))) → 0 < header → header ≡ header_at w page
    → page < pages → is_marked x noted.cell ≡ true → IsNoted pages x noted
noted_marked pages w noted page header same more at known words some there within marked = grind arith

-- A noted cell that isn't black is gray.
pub noted_gray : {pages : ℕ} {w : Words} {noted : Noted} (blacks : ℕ) → IsNoted pages w noted → blacks
    ≡ slice_index w.blacks noted.cell.page → has_bit blacks noted.cell.index ≡ false → IsGrayNoted pages w noted
noted_gray blacks is found white = grind arith
