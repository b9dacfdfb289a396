use Rattle.mk_script.proofs.Vocabulary.{is_among, number_names, pointer_names, this_script}
use Rattle.mk_script.proofs.NamesSoFar.{among_both, either_false, either_true}
use Rattle.mk_script.proofs.scope.Scope.has_register.Goals as goal

pub returns-then-contains : goal.returns-then-contains
returns-then-contains c = λ before scope.
    either_true (is_among c.args.name.now c.args.self.now.numbers) c.contains.result c.contains.ensures
    c.if-contains.true (among_both c.args.name.now (pointer_names (this_script before)) c.args.self.now.pointers
    (number_names (this_script before)) c.args.self.now.numbers scope.pointers scope.numbers)

pub returns-else-contains : goal.returns-else-contains
returns-else-contains c = λ before scope. either_false c.contains.result c.contains.ensures c.if-contains.false
    c.contains-else-contains.ensures (among_both c.args.name.now (pointer_names (this_script before))
    c.args.self.now.pointers (number_names (this_script before)) c.args.self.now.numbers scope.pointers scope.numbers)
