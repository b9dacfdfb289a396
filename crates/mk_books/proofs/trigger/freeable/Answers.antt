use Rattle.mk_books.proofs.FreeableLemmas.{freeable_cells-is, freeable_cells-none}
use Rattle.mk_books.proofs.trigger.freeable.Goals as goal

pub returns-clause-cells : goal.returns-clause-cells
returns-clause-cells c k within = freeable_cells-is c.args.used c.args.quar c.args.mark k c.ranges.mark.fits within

pub returns-clause-no_others : goal.returns-clause-no_others
returns-clause-no_others c k above = freeable_cells-none c.args.used c.args.quar c.args.mark k c.ranges.quar.fits above
