use Rattle.mk_laws.proofs.Vocabulary.{Step, subst, sym}
use Rattle.mk_words.proofs.CallSteps.{load_finds, load_goes, load_own, loads_to}
use Rattle.mk_words.specs.{States.TurnState, Steps.IsEnabledTo}
use Rattle.mk_words.proofs.turn_steps.Turn.reg_load.Goals as goal

pub caller-requires : goal.caller-requires
caller-requires c =
    loads_to c.self.inside.pass
    (subst (λ (t : TurnState). IsEnabledTo t.pass Step.Reg) (sym c.self.view_is) c.requires.enabled)

pub returns-clause-finds : goal.returns-clause-finds
returns-clause-finds c = load_finds c.perform.ensures.told c.args.r c.requires.register c.requires.loads

pub returns-clause-goes : goal.returns-clause-goes
returns-clause-goes c = load_goes c.perform.ensures.told c.args.r c.requires.register c.requires.loads

pub returns-clause-own : goal.returns-clause-own
returns-clause-own c = load_own c.perform.ensures.told c.args.r c.requires.register c.requires.loads
