use Rattle.mk_laws.proofs.Vocabulary.{refl}
use Rattle.mk_words.{proofs.CallSteps.{cas_goes, goes_on, keeps}, specs.{States.call_of, Steps.found_by}}
use Rattle.mk_words.proofs.passes.Pass.cas.Goals as goal

pub returns-clause-goes : goal.returns-clause-goes
returns-clause-goes c =
    let told = c.perform_among-found.ensures.told in
    goes_on told refl _ (cas_goes (call_of c.args.self.now) c.perform_among-found.result (found_by told.makes)
    c.args.expected told.tells c.requires.expected)

pub returns-clause-registers : goal.returns-clause-registers
returns-clause-registers c = keeps c.perform_among-found.ensures.told refl refl
