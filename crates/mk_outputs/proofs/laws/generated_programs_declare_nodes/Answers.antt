use Rattle.mk_outputs.proofs.laws.generated_programs_declare_nodes.Goals as goal
use Rattle.mk_outputs.proofs.GeneratedLaws.{generated_declares_nodes}

pub returns : goal.returns
returns c = generated_declares_nodes
