use Rattle.mk_laws.proofs.Vocabulary.{subst}
use Rattle.mk_words.specs.{Rule.state_of, States.PassState, Steps.Tells}
use Rattle.mk_words.proofs.tokens.TokenWith.perform_near.Goals as goal

pub returns : goal.returns
returns g c =
    let f = c.perform_as in
    record {
      told = subst (λ (r : PassState). Tells r c.args.step f.result
          (state_of f.new.token.table_id f.new.token.me c.self.inside.seat)) c.self.view_is f.ensures.told;
    }
