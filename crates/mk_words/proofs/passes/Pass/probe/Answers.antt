use Rattle.mk_laws.proofs.Vocabulary.{ℕ, ap, refl, sym}
use Rattle.mk_core.specs.Effects.{progress_probe}
use Rattle.mk_words.{proofs.CallSteps.goes_on, proofs.CallSteps.keeps, specs.States.call_of}
use Rattle.mk_words.proofs.passes.Pass.probe.Goals as goal

pub returns-clause-goes : goal.returns-clause-goes
returns-clause-goes c =
    let told = c.perform.ensures.told in
    goes_on told refl _ (ap (λ (i : ℕ). progress_probe (call_of c.args.self.now) i) (sym told.tells))

pub returns-clause-registers : goal.returns-clause-registers
returns-clause-registers c = keeps c.perform.ensures.told refl refl
