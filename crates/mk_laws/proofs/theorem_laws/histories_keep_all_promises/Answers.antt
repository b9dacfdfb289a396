use Rattle.mk_laws.proofs.Promises as proved
use Rattle.mk_laws.proofs.theorem_laws.histories_keep_all_promises.Goals as goal

pub returns : goal.returns
returns c = proved.histories_keep_all_promises
