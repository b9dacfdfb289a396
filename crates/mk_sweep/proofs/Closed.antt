-- After the sweep the marks are closed: each cell's words were looked at, or are 0, or aren't scanned.
use Rattle.mk_sweep.proofs.Vocabulary.{BlacksMore, Cell, CellsAreClosed, Config, Event, IsHistory, IsScannedWord}
use Rattle.mk_sweep.proofs.Vocabulary.{IsSettled, MarksMore, PointWell, TurnState, Words, WordsState, cell_words}
use Rattle.mk_sweep.proofs.Vocabulary.{cells_under, first_word, has_no_pointers, header_in, left, now_of, points_well}
use Rattle.mk_sweep.proofs.Vocabulary.{still_words, word_points_well, words_below, world_of}
use Rattle.mk_sweep.proofs.{ScannedCells.{unused_is_zero, used_word}, CountedWords.some_there, EachOnce.looked_at_once}
use Rattle.mk_cycle.proofs.Below.Laws.Vocabulary.{Bool, List, ℕ, all_below-at, ap, arith, eqb-true, false, refl}
use Rattle.mk_cycle.proofs.Below.Laws.Vocabulary.{slice_index, subst, sym, true, ◌+◌, ◌<◌, ◌==◌, ◌∙◌, ◌≡◌}
use Rattle.mk_cycle.{proofs.MoreMarks.{well_more, well_none, zero_none}, specs.Grays.{RootsPointWell}}
use Rattle.mk_core.specs.Cells.{is_used}

pub roots_stay : {pages : ℕ} {w v : Words} → MarksMore w v → RootsPointWell pages w → RootsPointWell pages v
roots_stay {pages} {w} {v} more roots = grind (arith, well_more)

module _ (c : Config) (es : List Event) (h : IsHistory c es) (settled : IsSettled (left c es))
    (well : PointWell c.pages (left c es).now.words (words_below (left c es).now.words c.pages)) where
  abbrev w : Words
  w = (left c es).now.words

  -- A scanned word was looked at.
  pub scanned_well : {n : ℕ} → IsScannedWord c (left c es).allocations n
      → word_points_well c.pages (left c es).now.words n ≡ true
  scanned_well {n} x =
      well n (some_there (words_below w c.pages) n (λ z.
      let one = looked_at_once h settled x in omega arith))

  zero_well : (n : ℕ) → slice_index (left c es).now.words.heap n ≡ 0
      → word_points_well c.pages (left c es).now.words n ≡ true
  zero_well n z = ap (λ u. points_well c.pages w u) z ∙ well_none c.pages w 0 (zero_none c.pages w.pages)

  pub cells_closed : RootsPointWell c.pages (left c es).now.words → CellsAreClosed c (left c es).now.words
  cells_closed roots = record {
    registers = roots.registers;
    globals = roots.globals;
    words = λ cell i known marked scanned lt. by cell i known scanned lt (is_used w cell) refl;
  }
    where
      by : (cell : Cell) (i : ℕ) → cell.index < cells_under (header_in w cell.page)
          → has_no_pointers (header_in w cell.page) ≡ false → i < cell_words w cell → (b : Bool) → is_used w cell ≡ b
          → word_points_well c.pages w (first_word w cell + i) ≡ true
      by cell i known scanned lt true used =
          scanned_well (used_word c es h settled cell.page cell.index i used scanned lt)
      by cell i known scanned lt false none =
          zero_well _ (eqb-true _ 0 (all_below-at _ i (λ j. slice_index w.heap (first_word w cell + j) == 0)
          (unused_is_zero c es h settled cell known none) lt))

-- The phase is another.

pub closed_still : {c : Config} {w : Words} → CellsAreClosed c w → CellsAreClosed c (record w { phase = 0 })
closed_still closed = grind arith

pub roots_now : {pages : ℕ} (w : Words) → RootsPointWell pages (record w { phase = 0 }) → RootsPointWell pages w
roots_now w roots = record { registers = roots.registers; globals = roots.globals }

pub closed_behind : (words : WordsState) (t u : TurnState) → words ≡ u.pass.table → IsSettled (world_of u.pass)
    → MarksMore (still_words t.pass) (still_words u.pass) → RootsPointWell words.config.pages (still_words t.pass)
    → PointWell words.config.pages (still_words u.pass) (words_below (still_words t.pass) words.config.pages)
    → CellsAreClosed words.config (still_words u.pass)
closed_behind words t u table settled more roots well =
    let w : Words = (now_of u.pass).words in
    let same : words_below (still_words t.pass) words.config.pages ≡ words_below w words.config.pages = grind arith in
    let well_there : PointWell u.pass.table.config.pages w (words_below w u.pass.table.config.pages) = grind arith in
    let roots_there : RootsPointWell u.pass.table.config.pages w = grind (arith, roots_now, roots_stay) in
    subst (λ (x : WordsState). CellsAreClosed x.config (still_words u.pass)) (sym table)
    (closed_still (cells_closed u.pass.table.config u.pass.seen u.in_order.history settled well_there roots_there))

-- Black bits leave what points well.
pub well_when_black : (pages : ℕ) {w v : Words} (ns : List ℕ) → BlacksMore w v → PointWell pages w ns
    → PointWell pages v ns
well_when_black pages ns more well n inside = ap (λ (y : Words). word_points_well pages y n) more.is ∙ well n inside
