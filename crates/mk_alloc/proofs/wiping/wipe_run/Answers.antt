use Rattle.mk_caller.proofs.Below.Laws.Vocabulary.{arith}
use Rattle.mk_alloc.proofs.wiping.wipe_run.Goals as goal
use Rattle.mk_alloc.proofs.WipedRuns.{wiped_all, wiped_from, wipes_from, wipes_named, wipes_then}

pub loop-part-init : goal.loop-part-init
loop-part-init c = record { wiped = wiped_from c.args.turn.now.pass (λ i lt. absurd (omega arith)) }

pub wipe_page-requires-clause-from : goal.wipe_page-requires-clause-from
wipe_page-requires-clause-from c = wipes_from {k = 0} c.loop-part.invariant.wiped (grind arith)

pub loop-part-preserved : goal.loop-part-preserved
loop-part-preserved c = record {
  wiped = wipes_named (wipes_then c.loop-part.invariant.wiped c.wipe_page.ensures) (omega arith);
}

pub returns : goal.returns
returns c = grind (arith, wiped_all, wipes_named)
