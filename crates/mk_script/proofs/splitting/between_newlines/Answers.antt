use Rattle.std.proofs.Common.{tests}
use Rattle.std.proofs.{lemmas.Iterator.Consumers.map_from_collect, lemmas.Iterator.Splits.YieldsList-from_slice_split}
use Rattle.mk_script.proofs.Vocabulary.{rules, ◌==◌}
use Rattle.mk_script.proofs.splitting.between_newlines.Goals as goal

pub returns : goal.returns
returns c =
    map_from_collect c.collect.result c.collect.ensures.ran
    (YieldsList-from_slice_split _ (λ byte. byte == 10) c.args.text.now c.split.ensures.rest c.split.ensures.done
    c.split.ensures.closure (λ x b q k. search (rules, tests)))
