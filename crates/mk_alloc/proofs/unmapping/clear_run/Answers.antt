use Rattle.mk_caller.proofs.Below.Laws.Vocabulary.{arith}
use Rattle.mk_alloc.proofs.unmapping.clear_run.Goals as goal
use Rattle.mk_alloc.proofs.{ClearedRuns.{clears, stopped_by, unmapped_held, unmapped_now}, JoinedLooks.reached_table}

pub unmap_run-requires-clause-stopped : goal.unmap_run-requires-clause-stopped
unmap_run-requires-clause-stopped c = stopped_by c.args.turn.now.pass c.requires.held

pub wipe_run-requires-clause-may : goal.wipe_run-requires-clause-may
wipe_run-requires-clause-may c = grind (arith, unmapped_now, unmapped_held, stopped_by, reached_table)

pub returns : goal.returns
returns c = clears c.unmap_run.ensures c.wipe_run.ensures c.open_gates.ensures.sets c.open_gates.ensures.gone
