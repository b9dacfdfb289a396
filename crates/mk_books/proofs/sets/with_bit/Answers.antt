use Rattle.mk_books.proofs.{Vocabulary.{sym, ◌∙◌}, LowestBits.{cleared_bit_is, cleared_bit_others, set_bit_is}}
use Rattle.mk_books.proofs.sets.with_bit.Goals as goal
use Rattle.mk_books.proofs.LowestBits.{set_bit_others}

pub returns-then-is_one-clause-this : goal.returns-then-is_one-clause-this
returns-then-is_one-clause-this c = set_bit_is c.args.word c.args.place c.requires ∙ sym c.if-is_one.true

pub returns-then-is_one-clause-others : goal.returns-then-is_one-clause-others
returns-then-is_one-clause-others c k within other = set_bit_others c.args.word c.args.place k c.requires other

pub returns-else-is_one-clause-this : goal.returns-else-is_one-clause-this
returns-else-is_one-clause-this c = cleared_bit_is c.args.word c.args.place c.requires ∙ sym c.if-is_one.false

pub returns-else-is_one-clause-others : goal.returns-else-is_one-clause-others
returns-else-is_one-clause-others c k within other =
    cleared_bit_others c.args.word c.args.place k c.requires within other
