use Rattle.mk_heap.proofs.Below.Laws.Vocabulary.{arith, sym}
use Rattle.mk_trace.proofs.ReadLines.{no_event}
use Rattle.mk_trace.proofs.lines.event.Goals as goal

pub returns-in_default : goal.returns-in_default
returns-in_default c = sym (no_event c.args.word.now c.args.operands.now (grind arith) (grind arith))
