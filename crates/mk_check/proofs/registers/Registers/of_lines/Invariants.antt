use Rattle.mk_check.{proofs.Vocabulary.{take}, specs.Typing.{AreRegisters}}
use Rattle.mk_check.proofs.registers.Registers.of_lines.Given as goal

abbrev pub invariant-loop-item : goal.invariant-loop-item
invariant-loop-item l = AreRegisters l.registers (take l.item-index l.lines)
