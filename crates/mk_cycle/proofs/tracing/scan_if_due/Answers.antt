use Rattle.mk_words.proofs.Below.Laws.Vocabulary.{Bool, Cell, None, Words, ℕ, arith, cell_words, false, has_no_pointers}
use Rattle.mk_words.proofs.Below.Laws.Vocabulary.{header_in, if◌then◌else◌, inl, inr, refl, subst, sym, true, ◌<◌, ◌∙◌}
use Rattle.mk_words.proofs.Below.Laws.Vocabulary.{◌≡◌, ◌⊎◌}
use Rattle.mk_cycle.proofs.tracing.scan_if_due.Goals as goal
use Rattle.mk_cycle.proofs.{Blackened.{gray_turns, scan_done}, MoreMarks.more_same, Notes.last_added}
use Rattle.mk_cycle.specs.Stops.{still_words}
use Rattle.mk_core.specs.Cells.{words_point_well, words_scanned}

-- Where no word of a cell is scanned, it has no pointers, or no words.
none_scanned : (pages : ℕ) (w : Words) (cell : Cell) → words_scanned (header_in w cell.page) ≡ 0
    → (has_no_pointers (header_in w cell.page) ≡ true) ⊎ (words_point_well pages w cell ≡ true)
none_scanned pages w cell none = by (has_no_pointers (header_in w cell.page)) refl none
  where
    by : (b : Bool) → has_no_pointers (header_in w cell.page) ≡ b → (if b then 0 else cell_words w cell) ≡ 0
        → (has_no_pointers (header_in w cell.page) ≡ true) ⊎ (words_point_well pages w cell ≡ true)
    by true is e = inl is
    by false is e =
        inr (scan_done pages cell (more_same w w refl)
        (λ j lt. absurd (let bad : j < 0 = subst (λ n. j < n) e lt in omega arith)))

pub returns-then-gray-eq0-clause-marks : goal.returns-then-gray-eq0-clause-marks
returns-then-gray-eq0-clause-marks c = last_added c.args.work.now None c.requires.may.wanted tt

pub returns-then-gray-eq0-clause-turns : goal.returns-then-gray-eq0-clause-turns
returns-then-gray-eq0-clause-turns c =
    let w = still_words c.args.stop.now.pass in
    gray_turns c.requires.gray.gray (more_same w w refl)
    (none_scanned c.args.table.pages w c.args.gray.cell (sym c.requires.gray.words ∙ c.if-gray-eq0.true))

pub returns-clause-turns : goal.returns-clause-turns
returns-clause-turns c = gray_turns c.requires.gray.gray c.scan.ensures.marks.more (inr c.scan.ensures.well)
