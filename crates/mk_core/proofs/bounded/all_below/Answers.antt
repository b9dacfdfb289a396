use Rattle.mk_core.proofs.{Vocabulary.{arith, sym, ◌∙◌}, AllBelow.all_below_not_is}
use Rattle.mk_core.proofs.bounded.all_below.Goals as goal

pub returns-then-not-test : goal.returns-then-not-test
returns-then-not-test g c asked answers = sym (all_below_not_is c.args.count c.loop-k.k asked (omega arith)
    (sym (answers c.loop-k.k c.test.result (omega arith) c.test.ensures) ∙ c.if-not-test.true))
