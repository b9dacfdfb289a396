use Rattle.mk_words.proofs.CallSteps.{load_finds, load_goes, load_keeps, load_own}
use Rattle.mk_words.proofs.passes.Pass.reg_load.Goals as goal

pub returns-clause-finds : goal.returns-clause-finds
returns-clause-finds c = load_finds c.perform.ensures.told c.args.r c.requires.register c.requires.loads

pub returns-clause-goes : goal.returns-clause-goes
returns-clause-goes c = load_goes c.perform.ensures.told c.args.r c.requires.register c.requires.loads

pub returns-clause-own : goal.returns-clause-own
returns-clause-own c = load_own c.perform.ensures.told c.args.r c.requires.register c.requires.loads

pub returns-clause-registers : goal.returns-clause-registers
returns-clause-registers c = load_keeps c.perform.ensures.told c.args.r c.requires.register c.requires.loads
