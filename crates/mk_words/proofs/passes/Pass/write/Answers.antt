use Rattle.mk_laws.proofs.Vocabulary.{refl}
use Rattle.mk_words.proofs.CallSteps.{goes_on, keeps}
use Rattle.mk_words.proofs.passes.Pass.write.Goals as goal

pub returns-clause-goes : goal.returns-clause-goes
returns-clause-goes c = goes_on c.perform_among.ensures.told refl _ refl

pub returns-clause-registers : goal.returns-clause-registers
returns-clause-registers c = keeps c.perform_among.ensures.told refl refl
