use Rattle.mk_caller.proofs.Below.Laws.Vocabulary.{arith}
use Rattle.mk_alloc.proofs.wiping.wipe_two_groups.Goals as goal
use Rattle.mk_alloc.proofs.WipedRuns.{wipes_from, wipes_named, wipes_then}

pub wipe_group-requires : goal.wipe_group-requires
wipe_group-requires c = record {
  from = c.requires.from;
  within = c.requires.within;
  first = c.requires.first;
  last = omega (arith, c.requires.last);
}

pub wipe_group-requires-2 : goal.wipe_group-requires-2
wipe_group-requires-2 c = record {
  from = wipes_from (wipes_named c.wipe_group.ensures (omega arith)) c.requires.from;
  within = c.requires.within;
  first = omega (arith, c.requires.first);
  last = omega (arith, c.requires.last);
}

pub returns : goal.returns
returns c = wipes_named (wipes_then c.wipe_group.ensures c.wipe_group-2.ensures) (omega arith)
