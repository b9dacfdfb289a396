use Rattle.std.proofs.lemmas.List.{take-replicate}
use Rattle.mk_words.proofs.words.zeros.Goals as goal

pub returns : goal.returns
returns c = take-replicate c.args.count 316048 0 c.requires
