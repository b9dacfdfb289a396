use Rattle.mk_sweep.proofs.{Vocabulary.still_words, SweepSteps.{on_unblack, quiet_then, sweeps_from}}
use Rattle.mk_cycle.proofs.{Below.Laws.Vocabulary.{arith, slice_index, ◌≡◌}, Clearing.{black_cleared, blacks_cleared}}
use Rattle.mk_cycle.proofs.{Clearing.{blacks_same, blacks_then, pages_then}, MaySteps.may_unblack_page}
use Rattle.mk_cycle.proofs.Stilled.{unblack_words}
use Rattle.mk_sweep.proofs.clearing.unblack_all.Goals as goal

pub loop-page-init : goal.loop-page-init
loop-page-init c = grind (arith, sweeps_from, blacks_same)

pub unblack-requires-clause-enabled : goal.unblack-requires-clause-enabled
unblack-requires-clause-enabled c = grind (arith, may_unblack_page)

pub loop-page-preserved : goal.loop-page-preserved
loop-page-preserved c =
    let t = c.loop-page.stop in
    let u = c.unblack.new.self in
    let w = still_words c.args.stop.now.pass in
    let v = still_words t.pass in
    let x = still_words u.pass in
    let sweeping = c.loop-page.invariant.on.sweeping in
    let gone = unblack_words sweeping.wanted c.unblack.ensures in
    let fewer = blacks_cleared v x c.loop-page.page gone in
    record {
      on = quiet_then c.loop-page.invariant.on (on_unblack sweeping c.unblack.ensures);
      fewer = blacks_then w v x c.loop-page.invariant.fewer fewer;
      none = pages_then (λ p. slice_index v.blacks p ≡ 0) (λ p. slice_index x.blacks p ≡ 0) c.loop-page.page
          fewer.fewer c.loop-page.invariant.none (black_cleared v x c.loop-page.page gone);
    }
