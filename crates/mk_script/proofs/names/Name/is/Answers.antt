use Rattle.mk_script.proofs.{Vocabulary.{ap, bytes_eq, take, ◌∙◌}, PaddedNames.of_one_length}
use Rattle.mk_script.proofs.names.Name.is.Goals as goal

pub returns-then-self-other : goal.returns-then-self-other
returns-then-self-other c =
    let mine = c.self.inside in
    let its = c.other.inside in
    c.eq.ensures ∙ of_one_length mine.length its.length mine.bytes its.bytes c.if-self-other.true c.self.invariant.1
    c.other.invariant.1 ∙ ap (λ name. bytes_eq name (take its.length its.bytes)) c.self.view_is
    ∙ ap (bytes_eq c.args.self.now) c.other.view_is
