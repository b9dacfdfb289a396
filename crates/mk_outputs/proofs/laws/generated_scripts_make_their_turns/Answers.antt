use Rattle.mk_outputs.proofs.laws.generated_scripts_make_their_turns.Goals as goal
use Rattle.mk_outputs.proofs.GeneratedLaws.{generated_makes_turns}

pub returns : goal.returns
returns c = generated_makes_turns
