-- The cell into which the hand points, and its marks.
use Rattle.std.proofs.Common.{option_and_then}
use Rattle.mk_words.proofs.Below.Laws.Vocabulary.{Block, Cell, Header, None, Option, Some, Words, ℕ, and_parts, ap}
use Rattle.mk_words.proofs.Below.Laws.Vocabulary.{arith, cell_at, header_at, header_of, is_heap_address, is_marked}
use Rattle.mk_words.proofs.Below.Laws.Vocabulary.{leb-true, nat_le, nat_lt, page_at_address, pointed_cell, points_well}
use Rattle.mk_words.proofs.Below.Laws.Vocabulary.{true, ◌%◌, ◌*◌, ◌+◌, ◌-◌, ◌/◌, ◌<◌, ◌∙◌, ◌≡◌, ◌≢◌, ◌≤◌}
use Rattle.mk_words.proofs.PointedCells.{found_by_header}
use Rattle.mk_cycle.proofs.MoreMarks.{hand_kept, some_not_zero, well_none, well_some}
use Rattle.mk_cycle.specs.{Grays.{HandPointsInto, IsInHand, LooksOn, MarksMore}, Stops.{hand_of, still_words}}
use Rattle.mk_geom.proofs.HeaderLemmas.{header_of-word_of}
use Rattle.mk_geom.specs.Addresses.{cell_of_block, cell_under, word_at_address}
use Rattle.mk_words.specs.States.{PassState, TurnState}

-- The hand points into the cell that its value points into.
pub hand_points : (p : PassState) (pages value : ℕ) (cell : Cell) → pages ≡ p.table.config.pages → (value ≢ 0
    → IsInHand p value) → pointed_cell pages (still_words p).pages value ≡ Some cell → HandPointsInto p cell
hand_points p pages value cell sized hand points = grind (arith, some_not_zero)

-- It goes on doing so through looks that leave the hand.
pub points_on : {t u : TurnState} {cell : Cell} → LooksOn t u → hand_of u.pass ≡ hand_of t.pass
    → HandPointsInto t.pass cell → HandPointsInto u.pass cell
points_on looks hand r = grind (arith, hand_kept)

-- A value that points into a cell that is marked after marks points well, and one that points into nothing.

pub well_marked : (pages : ℕ) (w x : Words) (u : ℕ) (cell : Cell) → MarksMore w x
    → pointed_cell pages w.pages u ≡ Some cell → is_marked x cell ≡ true → points_well pages x u ≡ true
well_marked pages w x u cell more points marked = grind (arith, well_some)

pub well_nowhere : (pages : ℕ) (w x : Words) (u : ℕ) → x ≡ w → pointed_cell pages w.pages u ≡ None
    → points_well pages x u ≡ true
well_nowhere pages w x u same none = grind (arith, well_none)

-- What a value points into by the header word that is there.
pub pointed_under : (pages : ℕ) (w : Words) (u header : ℕ) → header ≡ header_at w (page_at_address u)
    → cell_at pages header u ≡ pointed_cell pages w.pages u
pointed_under pages w u header is = ap (λ h. cell_at pages h u) is ∙ found_by_header pages w u

-- A block's header word, 1 and the class.
pub block_header : (class : ℕ) → class < 8 → header_of (1 + class) ≡ Some (Block class)
block_header class known = header_of-word_of (Block class) known

-- What a value points into, in a block of this class.
pub pointed_in_block : (pages : ℕ) (w : Words) (u class : ℕ) → class < 8 → is_heap_address pages u ≡ true
    → 1 + class ≡ header_at w (page_at_address u)
    → cell_of_block class (page_at_address u) (u / 8 % 64) ≡ pointed_cell pages w.pages u
pointed_in_block pages w u class known inside is =
    let find : Option Header → Option Cell = λ (o : Option Header). option_and_then
    (λ h. cell_under h (page_at_address u) (word_at_address u)) o in
    let far = leb-true 65536 u (and_parts (nat_le 65536 u) (nat_lt u (65536 + 512 * pages)) inside).0 in
    let word : u / 8 % 64 ≡ word_at_address u = omega arith in
    cc (word, inside, block_header class known, pointed_under pages w u (1 + class) is)

-- The same, by the page and its header word as they were found.
pub pointed_here : (pages : ℕ) (w : Words) (u page header : ℕ) → page ≡ page_at_address u
    → is_heap_address pages u ≡ true → header ≡ header_at w page → 0 < header → header ≤ 8
    → cell_of_block (header - 1) page (u / 8 % 64) ≡ pointed_cell pages w.pages u
pointed_here pages w u page header at inside is some few =
    let word : 1 + (header - 1) ≡ header = omega arith in
    cc (at, pointed_in_block pages w u (header - 1) (omega arith) inside (word ∙ is ∙ ap (λ n. header_at w n) at))
