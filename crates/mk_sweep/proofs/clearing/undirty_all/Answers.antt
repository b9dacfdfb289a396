use Rattle.mk_sweep.proofs.{Vocabulary.still_words, SweepSteps.{on_undirty, quiet_then, sweeps_from}}
use Rattle.mk_sweep.proofs.WordLists.{head_is_near}
use Rattle.mk_cycle.proofs.{Below.Laws.Vocabulary.{arith, slice_index, ◌≡◌}, Clearing.{dirt_cleared, dirty_cleared}}
use Rattle.mk_cycle.proofs.{Clearing.{dirty_same, dirty_then, pages_then}, MaySteps.may_undirty_page}
use Rattle.mk_cycle.proofs.Stilled.{undirty_words}
use Rattle.mk_sweep.proofs.clearing.undirty_all.Goals as goal

pub loop-page-init : goal.loop-page-init
loop-page-init c = grind (arith, sweeps_from, dirty_same)

pub undirty-requires-clause-enabled : goal.undirty-requires-clause-enabled
undirty-requires-clause-enabled c =
    grind (arith, head_is_near, may_undirty_page c.loop-page.stop c.loop-page.invariant.on.sweeping.wanted)

pub loop-page-preserved : goal.loop-page-preserved
loop-page-preserved c =
    let t = c.loop-page.stop in
    let u = c.undirty.new.self in
    let w = still_words c.args.stop.now.pass in
    let v = still_words t.pass in
    let x = still_words u.pass in
    let sweeping = c.loop-page.invariant.on.sweeping in
    let gone = undirty_words sweeping.wanted c.undirty.ensures in
    let fewer = dirty_cleared v x c.loop-page.page gone in
    record {
      on = quiet_then c.loop-page.invariant.on (on_undirty sweeping c.undirty.ensures);
      fewer = dirty_then w v x c.loop-page.invariant.fewer fewer;
      clean = pages_then (λ p. slice_index v.dirty p ≡ 0) (λ p. slice_index x.dirty p ≡ 0) c.loop-page.page
          fewer.fewer c.loop-page.invariant.clean (dirt_cleared v x c.loop-page.page gone);
    }
