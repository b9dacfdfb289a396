use Rattle.mk_caller.proofs.Below.Laws.Vocabulary.{arith}
use Rattle.mk_alloc.proofs.wiping.wipe_page.Goals as goal
use Rattle.mk_alloc.proofs.WipedRuns.{wiped_from, wipes_from, wipes_named, wipes_then}

pub wipe_four_groups-requires : goal.wipe_four_groups-requires
wipe_four_groups-requires c = record {
  from = wipes_from (wiped_from c.args.turn.now.pass (λ i lt. c.requires.from.wiped i (omega arith))) c.requires.from;
  within = c.requires.part;
  first = omega arith;
  last = omega arith;
}

pub wipe_four_groups-requires-2 : goal.wipe_four_groups-requires-2
wipe_four_groups-requires-2 c = record {
  from = wipes_from (wipes_named c.wipe_four_groups.ensures (omega arith)) c.requires.from;
  within = c.requires.part;
  first = omega arith;
  last = omega arith;
}

pub returns : goal.returns
returns c = wipes_named (wipes_then c.wipe_four_groups.ensures c.wipe_four_groups-2.ensures) (omega arith)
