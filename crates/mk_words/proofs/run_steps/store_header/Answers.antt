use Rattle.mk_laws.proofs.Vocabulary.{Step}
use Rattle.mk_words.proofs.run_steps.store_header.Goals as goal
use Rattle.mk_words.proofs.TurnSteps.{acts}

pub returns : goal.returns
returns c = acts c.args.pass.now (Step.Head c.args.page c.args.value) c.perform.new.self c.perform.ensures.told.makes
    c.requires.turn.holds
