use Rattle.mk_words.proofs.CallSteps.{store_goes, store_keeps, store_stored}
use Rattle.mk_words.proofs.passes.Pass.reg_store.Goals as goal

pub returns-clause-goes : goal.returns-clause-goes
returns-clause-goes c = store_goes c.perform.ensures.told c.args.r c.requires.register c.args.v c.requires.stores

pub returns-clause-stored : goal.returns-clause-stored
returns-clause-stored c = store_stored c.perform.ensures.told c.args.r c.requires.register c.args.v c.requires.stores

pub returns-clause-registers : goal.returns-clause-registers
returns-clause-registers c = store_keeps c.perform.ensures.told c.args.r c.requires.register c.args.v c.requires.stores
