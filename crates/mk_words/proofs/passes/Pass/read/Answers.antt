use Rattle.mk_laws.proofs.Vocabulary.{ℕ, ap, progress_read, refl, sym}
use Rattle.mk_words.{proofs.CallSteps.goes_on, proofs.CallSteps.keeps, specs.States.call_of}
use Rattle.mk_words.proofs.passes.Pass.read.Goals as goal

pub returns-clause-goes : goal.returns-clause-goes
returns-clause-goes c =
    let told = c.perform_among.ensures.told in
    goes_on told refl _ (ap (λ (i : ℕ). progress_read (call_of c.args.self.now) (call_of c.args.self.now).op i)
    (sym told.tells))

pub returns-clause-registers : goal.returns-clause-registers
returns-clause-registers c = keeps c.perform_among.ensures.told refl refl
