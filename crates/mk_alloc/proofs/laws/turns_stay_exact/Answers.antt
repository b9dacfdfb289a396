use Rattle.mk_alloc.proofs.ExactTurns.{stay_exact_behind_calls, stay_exact_behind_others, stay_exact_behind_turns}
use Rattle.mk_alloc.proofs.ExactTurns.{stay_exact_where_held}
use Rattle.mk_alloc.proofs.laws.turns_stay_exact.Goals as goal

pub returns-clause-calls : goal.returns-clause-calls
returns-clause-calls c = stay_exact_behind_calls

pub returns-clause-held : goal.returns-clause-held
returns-clause-held c = stay_exact_where_held

pub returns-clause-turns : goal.returns-clause-turns
returns-clause-turns c = stay_exact_behind_turns

pub returns-clause-others : goal.returns-clause-others
returns-clause-others c = stay_exact_behind_others
