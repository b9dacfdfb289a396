use Rattle.std.proofs.{Common.arith, Common.sym, Common.◌∙◌, lemmas.Grind.common_steps}
use Rattle.mk_books.proofs.FreeRangeLemmas.{first-end, past_long, past_short, past_taken}
use Rattle.mk_books.proofs.fitting.large_fit.Goals.{else-not-is_free+else-number-range}
use Rattle.mk_books.proofs.fitting.large_fit.Goals.{else-not-is_free+then-number-range, then-not-is_free}
use Rattle.mk_books.proofs.PlaceLemmas.{resident_from-end}
use Rattle.mk_books.proofs.fitting.large_fit.Goals as goal

pub loop-number-preserved : goal.loop-number-preserved
loop-number-preserved c =
    let within = c.loop-number-test.true in
    let sees = c.loop-number.invariant.ranges in
    record {
      few = grind (arith, common_steps);
      resident = grind (arith, common_steps);
      ranges = elim c.if-not-is_free.branch [
        | then-not-is_free w ↦ rw (w.range-is, w.first-is)
            (past_taken _ c.requires.some within (sym c.is_free.ensures ∙ w.if-not-is_free.true) sees)
        | else-not-is_free+then-number-range w ↦ rw (w.range-is, w.first-is, w.or-first.ensures) (past_long _
            c.requires.some within (sym c.is_free.ensures ∙ w.if-not-is_free.false) w.if-number-range.true sees)
        | else-not-is_free+else-number-range w ↦ rw (w.range-is, w.first-is)
            (past_short _ within (sym c.is_free.ensures ∙ w.if-not-is_free.false) w.if-number-range.false sees)
      ];
    }

pub returns-then-resident-count : goal.returns-then-resident-count
returns-then-resident-count c = grind (arith, first-end, resident_from-end, common_steps)
