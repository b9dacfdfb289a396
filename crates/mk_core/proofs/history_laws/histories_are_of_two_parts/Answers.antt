use Rattle.mk_core.proofs.HistoryParts.{is_of_two_parts}
use Rattle.mk_core.proofs.history_laws.histories_are_of_two_parts.Goals as goal

pub returns : goal.returns
returns c = is_of_two_parts
