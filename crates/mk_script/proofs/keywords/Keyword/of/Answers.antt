use Rattle.mk_script.proofs.{Vocabulary.refl, KeywordLengths.of_length}
use Rattle.mk_script.proofs.keywords.Keyword.of.Goals as goal

pub returns-in-2 : goal.returns-in-2
returns-in-2 c = of_length c.args.word.now 2 refl c.keyword_among.ensures cc

pub returns-in-3 : goal.returns-in-3
returns-in-3 c = of_length c.args.word.now 3 refl c.keyword_among-in-3.ensures cc

pub returns-in-4 : goal.returns-in-4
returns-in-4 c = of_length c.args.word.now 4 refl c.keyword_among-in-4.ensures cc

pub returns-in-5 : goal.returns-in-5
returns-in-5 c = of_length c.args.word.now 5 refl c.keyword_among-in-5.ensures cc

pub returns-in-6 : goal.returns-in-6
returns-in-6 c = of_length c.args.word.now 6 refl c.keyword_among-in-6.ensures cc
