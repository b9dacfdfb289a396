use Rattle.mk_check.{proofs.Vocabulary.{take}, specs.Typing.{AreDeclared}}
use Rattle.mk_check.proofs.declarations.Declarations.of_program.Given as goal

abbrev pub invariant-loop-item : goal.invariant-loop-item
invariant-loop-item l = AreDeclared l.declarations (take l.item-index l.program)
