use Rattle.mk_words.proofs.Below.Laws.Vocabulary.{ℕ, has_bit, subst, sym, true, ◌∙◌, ◌≡◌}
use Rattle.mk_marker.proofs.Looking.{a_cell, no_cell_yet, nothing_to_scan, two_looks}
use Rattle.mk_marker.proofs.cells.find_on_page.Goals as goal

pub returns-then-bits-eq0-clause-none : goal.returns-then-bits-eq0-clause-none
returns-then-bits-eq0-clause-none c =
    let a = c.look-marks in
    let b = c.look-blacks in
    nothing_to_scan (two_looks c.requires.between a.ensures.moves b.ensures.moves)
    (sym c.without-bits.ensures ∙ c.if-bits-eq0.true)

pub returns-then-header-eq0-clause-none : goal.returns-then-header-eq0-clause-none
returns-then-header-eq0-clause-none c =
    let a = c.look-marks in
    let b = c.look-blacks in
    let d = c.look-header in
    no_cell_yet (two_looks c.requires.between a.ensures.moves b.ensures.moves) d.ensures.moves c.if-header-eq0.true

pub returns-else-header-eq0-clause-some : goal.returns-else-header-eq0-clause-some
returns-else-header-eq0-clause-some c =
    let a = c.look-marks in
    let b = c.look-blacks in
    let d = c.look-header in
    a_cell c.lowest_bit.result c.requires.between a.ensures.moves a.ensures.shows b.ensures.moves d.ensures.moves
    d.ensures.shows c.if-header-eq0.false
    (subst (λ (i : ℕ). has_bit i c.lowest_bit.result ≡ true) c.without-bits.ensures c.lowest_bit.ensures.one)
