use Rattle.mk_laws.proofs.Vocabulary.{arith, refl, sym}
use Rattle.mk_words.proofs.{TurnSteps.{take_finds, takes, takes_fresh}, FoundTurns.{take_counts, take_waits}}
use Rattle.mk_words.proofs.passes.Pass.try_take.Goals as goal

pub invariant_of-result : goal.invariant_of-result
invariant_of-result c = (takes c.self.inside.own c.args.op 0 c.in-Ok.pass c.in-Ok.ensures.taken refl, tt)

pub returns-in-Ok-clause-made : goal.returns-in-Ok-clause-made
returns-in-Ok-clause-made c =
    take_finds c.args.self c.args.op 0 c.in-Ok.pass (rw (sym c.self.view_is) c.in-Ok.ensures.taken) 0 refl

pub returns-in-Ok-clause-fresh : goal.returns-in-Ok-clause-fresh
returns-in-Ok-clause-fresh c = grind (arith, takes_fresh)

pub returns-in-Ok-clause-exact : goal.returns-in-Ok-clause-exact
returns-in-Ok-clause-exact c = grind (arith, take_counts)

pub returns-in-Ok-clause-tidy : goal.returns-in-Ok-clause-tidy
returns-in-Ok-clause-tidy c = grind (arith, take_counts)

pub returns-in-Err-clause-busy : goal.returns-in-Err-clause-busy
returns-in-Err-clause-busy c =
    let h = c.in-Err in
    take_finds c.args.self c.args.op h.found h.own (rw (sym c.self.view_is) h.ensures.missed) _ (omega
    (arith, h.ensures.another))

pub returns-in-Err-clause-stays : goal.returns-in-Err-clause-stays
returns-in-Err-clause-stays c = grind (arith, take_waits)

pub returns-in-Err-clause-again : goal.returns-in-Err-clause-again
returns-in-Err-clause-again c = grind (arith, take_waits)
