use Rattle.mk_core.proofs.Vocabulary.{length}
use Rattle.mk_core.proofs.calls.+behind.Given as goal

abbrev pub decreases-behind : goal.decreases-behind
decreases-behind l = length l.steps.now
