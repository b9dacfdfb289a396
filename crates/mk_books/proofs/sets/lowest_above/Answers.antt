use Rattle.mk_books.proofs.sets.lowest_above.Goals as goal
use Rattle.mk_books.proofs.LowestBits.{lowest_is_above, none_is_above}

pub returns-then-rest-eq0 : goal.returns-then-rest-eq0
returns-then-rest-eq0 c = none_is_above c.args.word c.args.place c.if-rest-eq0.true

pub returns-else-rest-eq0 : goal.returns-else-rest-eq0
returns-else-rest-eq0 c =
    lowest_is_above c.args.word c.args.place c.lowest.result c.requires c.lowest.ensures.within c.lowest.ensures.one
    c.lowest.ensures.lowest
