use Rattle.mk_core.proofs.UnreleasedStorage.{unreleased_is_of_allocations}
use Rattle.mk_core.proofs.storage_laws.unreleased_storage_is_of_allocations.Goals as goal

pub returns-clause-contains : goal.returns-clause-contains
returns-clause-contains c = unreleased_is_of_allocations
