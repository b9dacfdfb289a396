use Rattle.mk_laws.proofs.Vocabulary.{refl, ◌∙◌}
use Rattle.mk_words.proofs.MapSteps.{same_turn}
use Rattle.mk_words.proofs.stop_steps.Turn.stopped.Goals as goal

pub returns : goal.returns
returns c = same_turn _ c.self.inside.in_order refl ∙ c.self.view_is
