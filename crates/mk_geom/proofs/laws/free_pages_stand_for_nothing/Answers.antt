use Rattle.mk_geom.proofs.Start.{free_pages}
use Rattle.mk_geom.proofs.laws.free_pages_stand_for_nothing.Goals as goal

pub returns : goal.returns
returns c = free_pages
