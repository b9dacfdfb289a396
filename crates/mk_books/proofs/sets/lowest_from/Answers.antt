use Rattle.mk_books.proofs.sets.lowest_from.Goals as goal
use Rattle.mk_books.proofs.LowestBits.{lowest_is_next, none_is_next}

pub returns-then-rest-eq0 : goal.returns-then-rest-eq0
returns-then-rest-eq0 c = none_is_next c.args.word c.args.from c.if-rest-eq0.true

pub returns-else-rest-eq0 : goal.returns-else-rest-eq0
returns-else-rest-eq0 c =
    lowest_is_next c.args.word c.args.from c.lowest.result c.ranges.word.fits c.lowest.ensures.one
    c.lowest.ensures.lowest
