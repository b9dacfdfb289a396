use Rattle.mk_outputs.proofs.laws.generated_programs_are_checked.Goals as goal
use Rattle.mk_outputs.proofs.GeneratedLaws.{generated_is_checked, generated_is_of_its_text}

pub returns-clause-text : goal.returns-clause-text
returns-clause-text c = generated_is_of_its_text

pub returns-clause-checked : goal.returns-clause-checked
returns-clause-checked c = generated_is_checked
