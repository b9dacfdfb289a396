use Rattle.mk_core.proofs.StandingAllocations.{cells_begin}
use Rattle.mk_core.proofs.storage_laws.an_allocation_has_its_cell.Goals as goal

pub returns-clause-cells : goal.returns-clause-cells
returns-clause-cells c = cells_begin
