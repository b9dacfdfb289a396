use Rattle.mk_laws.proofs.Vocabulary.{Step, subst}
use Rattle.mk_words.{proofs.TurnSteps.acts, proofs.TurnSteps.gives_rest, specs.States.TurnState, specs.TurnSteps.Acts}
use Rattle.mk_words.proofs.turns.Turn.give.Goals as goal

pub returns-clause-acts : goal.returns-clause-acts
returns-clause-acts c =
    let f = c.give-own in
    let t = c.self.inside in
    subst (λ (v : TurnState). Acts v.pass Step.Give f.result) c.self.view_is
    (acts t.pass Step.Give f.result f.ensures c.self.inside.in_order.holds)

pub returns-clause-rests : goal.returns-clause-rests
returns-clause-rests c = gives_rest c.self.inside.pass c.give-own.result c.give-own.ensures
