use Rattle.mk_books.proofs.sets.with_turned.Goals as goal
use Rattle.mk_books.proofs.LowestBits.{turned_bit_is, turned_bit_others}

pub returns-clause-this : goal.returns-clause-this
returns-clause-this c = turned_bit_is c.args.word c.args.place c.requires

pub returns-clause-others : goal.returns-clause-others
returns-clause-others c k other = turned_bit_others c.args.word c.args.place k c.requires other
