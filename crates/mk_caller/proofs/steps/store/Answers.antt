use Rattle.mk_caller.proofs.{Onward.moves, Onward.store_goes_on, Stepping.may_store}
use Rattle.mk_caller.proofs.steps.store.Goals as goal

pub reg_store-requires-clause-admitted : goal.reg_store-requires-clause-admitted
reg_store-requires-clause-admitted c = may_store c.requires.underway c.requires.stage

pub returns : goal.returns
returns c =
    record { moves = moves c.requires.underway c.reg_store.ensures.goes (store_goes_on _ _ c.args.v c.requires.stage) }
