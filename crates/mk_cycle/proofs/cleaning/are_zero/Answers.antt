use Rattle.std.proofs.lemmas.Nat.{le_or_l, le_or_r}
use Rattle.mk_words.proofs.Below.Laws.Vocabulary.{arith, eqb-true}
use Rattle.mk_cycle.proofs.cleaning.are_zero.Goals as goal

pub returns-clause-first : goal.returns-clause-first
returns-clause-first c zero =
    let most = le_or_l c.args.first c.args.second in
    let none = eqb-true _ 0 zero in
    omega (arith, most, none)

pub returns-clause-second : goal.returns-clause-second
returns-clause-second c zero =
    let most = le_or_r c.args.first c.args.second in
    let none = eqb-true _ 0 zero in
    omega (arith, most, none)
