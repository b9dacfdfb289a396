-- The theorem, of an object that isn't known.
use Rattle.mk_jobs.proofs.laws.explained_by_keeping.Goals as goal
use Rattle.mk_jobs.proofs.Explained.{explained}

pub returns : goal.returns
returns g c = explained g.met.O.Kept.typed c.keeps.ensures
