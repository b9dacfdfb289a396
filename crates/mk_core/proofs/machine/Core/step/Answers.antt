use Rattle.mk_core.proofs.Steps.{answer_of, exact_of, stands_of}
use Rattle.mk_core.proofs.machine.Core.step.Goals as goal

pub returns-clause-exact : goal.returns-clause-exact
returns-clause-exact c = λ events st. exact_of c.args.event c.advance.result st c.advance.ensures.enabled

pub returns-clause-answer : goal.returns-clause-answer
returns-clause-answer c = λ events st. answer_of c.args.event c.advance.result st c.advance.ensures.answer

pub returns-clause-stands : goal.returns-clause-stands
returns-clause-stands c = λ events st. stands_of c.advance.new.self c.args.event c.advance.result
    st c.advance.ensures.enabled c.advance.ensures.behind
