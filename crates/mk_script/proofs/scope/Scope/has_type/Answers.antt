use Rattle.mk_script.proofs.{Vocabulary.{type_names, ◌∙◌}, NamesSoFar.among}
use Rattle.mk_script.proofs.scope.Scope.has_type.Goals as goal

pub returns : goal.returns
returns c = λ before scope. c.contains.ensures
    ∙ among c.args.name.now (type_names before) c.args.self.now.types scope.types
