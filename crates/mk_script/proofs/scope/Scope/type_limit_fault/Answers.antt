use Rattle.mk_script.proofs.{Vocabulary.type_names, NamesSoFar.count}
use Rattle.mk_script.proofs.scope.Scope.type_limit_fault.Goals as goal

pub returns : goal.returns
returns c = λ before scope. let found = count (type_names before) c.args.self.now.types scope.types in cc
