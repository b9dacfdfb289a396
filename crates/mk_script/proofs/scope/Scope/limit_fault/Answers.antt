use Rattle.mk_script.proofs.Vocabulary.{global_names, number_names, pointer_names, script_names, this_script}
use Rattle.mk_script.proofs.NamesSoFar.{count}
use Rattle.mk_script.proofs.scope.Scope.limit_fault.Goals as goal

pub returns-in-Global : goal.returns-in-Global
returns-in-Global c = λ before scope. let found =
    count (global_names before) c.args.self.now.globals scope.globals in rw c.in-Global.is (cc)

pub returns-in-Script : goal.returns-in-Script
returns-in-Script c = λ before scope. let found =
    count (script_names before) c.args.self.now.scripts scope.scripts in rw c.in-Script.is (cc)

pub returns-in-Ptr : goal.returns-in-Ptr
returns-in-Ptr c = λ before scope. let found =
    count (pointer_names (this_script before)) c.args.self.now.pointers scope.pointers in rw c.in-Ptr.is (cc)

pub returns-in-Num : goal.returns-in-Num
returns-in-Num c = λ before scope. let found =
    count (number_names (this_script before)) c.args.self.now.numbers scope.numbers in rw c.in-Num.is (cc)
