use Rattle.mk_core.proofs.ObjectHeaders.{first_part}
use Rattle.mk_core.proofs.storage_laws.headers_show_their_objects.Goals as goal

pub returns-clause-first : goal.returns-clause-first
returns-clause-first c = first_part
