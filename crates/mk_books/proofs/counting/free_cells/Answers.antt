use Rattle.std.proofs.{Common.arith, Common.◌∙◌, lemmas.List.get_or_default}
use Rattle.mk_books.proofs.FreeCellLemmas.{at_block, by_class-more, by_class-more_other, room_for_block}
use Rattle.mk_books.proofs.counting.free_cells.Goals.{in-Some, in_default}
use Rattle.mk_books.proofs.counting.free_cells.Goals as goal

pub overflow_add-counts : goal.overflow_add-counts
overflow_add-counts c =
    omega (
      arith,
      room_for_block (at_block c.loop-page-test.true (get_or_default c.args.pages.now c.loop-page.page-index _ _
          c.loop-page-test.true) c.in-Some.ensures.in_range c.in-Some.ensures.block c.loop-page.invariant
          c.class_place.ensures.place (rw c.cells.ensures at c.count_clear.ensures)) c.well_formed.0.1,
    )

pub loop-page-preserved : goal.loop-page-preserved
loop-page-preserved c = elim c.match-block_of.branch [
  | in-Some w ↦ w.counts-is ∙ by_class-more
      (at_block c.loop-page-test.true (get_or_default c.args.pages.now c.loop-page.page-index _ _
      c.loop-page-test.true) w.in-Some.ensures.in_range w.in-Some.ensures.block c.loop-page.invariant
      w.class_place.ensures.place (rw w.cells.ensures at w.count_clear.ensures))
  | in_default w ↦ w.counts-is ∙ c.loop-page.invariant ∙ by_class-more_other _ c.loop-page.page-index _
      c.loop-page-test.true w.in_default.ensures.none
]
