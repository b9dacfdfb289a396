use Rattle.mk_script.proofs.{Vocabulary.{global_names, script_names, type_names, ◌∙◌}, NamesSoFar.among}
use Rattle.mk_script.proofs.scope.Scope.is_twice.Goals as goal

pub returns-in-TypeLine : goal.returns-in-TypeLine
returns-in-TypeLine c = λ before scope. rw c.in-TypeLine.is (c.contains.ensures
    ∙ among c.in-TypeLine.name (type_names before) c.args.self.now.types scope.types)

pub returns-in-Global : goal.returns-in-Global
returns-in-Global c = λ before scope. rw c.in-Global.is (c.contains-in-Global.ensures
    ∙ among c.in-Global.name (global_names before) c.args.self.now.globals scope.globals)

pub returns-in-Script : goal.returns-in-Script
returns-in-Script c = λ before scope. rw c.in-Script.is (c.contains-in-Script.ensures
    ∙ among c.in-Script.name (script_names before) c.args.self.now.scripts scope.scripts)
