use Rattle.mk_alloc.proofs.UnsweptTurns as unswept
use Rattle.mk_alloc.proofs.laws.calls_sweep_nothing.Goals as goal

pub returns-clause-calls : goal.returns-clause-calls
returns-clause-calls c = unswept.calls_sweep_nothing

pub returns-clause-held : goal.returns-clause-held
returns-clause-held c = unswept.sweep_nothing_where_held
