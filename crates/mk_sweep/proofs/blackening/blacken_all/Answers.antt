use Rattle.mk_cycle.proofs.Below.Laws.Vocabulary.{arith}
use Rattle.mk_sweep.proofs.Blacks.{blacks_same, blacks_then, cells_then, closed_kept, page_stays_black}
use Rattle.mk_sweep.proofs.SweepSteps.{quiet_then, sweeps_from}
use Rattle.mk_sweep.proofs.blackening.blacken_all.Goals as goal

pub loop-page-init : goal.loop-page-init
loop-page-init c = grind (arith, sweeps_from, blacks_same)

pub blacken_page-requires-clause-closed : goal.blacken_page-requires-clause-closed
blacken_page-requires-clause-closed c = closed_kept c.loop-page.invariant.more c.requires.closed

pub loop-page-preserved : goal.loop-page-preserved
loop-page-preserved c =
    record {
      on = quiet_then c.loop-page.invariant.on c.blacken_page.ensures.on;
      more = blacks_then c.loop-page.invariant.more c.blacken_page.ensures.more;
      black = cells_then _ _ c.loop-page.page (λ p was. page_stays_black p c.blacken_page.ensures.more was)
          c.loop-page.invariant.black c.blacken_page.ensures.black;
    }
