use Rattle.mk_laws.proofs.ReleasedCycles.{releases_are_of_cycles}
use Rattle.mk_laws.proofs.reading_laws.releases_are_exact.Goals as goal

pub returns-clause-of_cycles : goal.returns-clause-of_cycles
returns-clause-of_cycles c = releases_are_of_cycles
