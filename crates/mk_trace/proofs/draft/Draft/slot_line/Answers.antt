use Rattle.mk_heap.proofs.Below.Laws.Vocabulary.{arith, sym}
use Rattle.mk_trace.proofs.ReadLines.{no_slot}
use Rattle.mk_trace.proofs.draft.Draft.slot_line.Goals as goal

pub returns-in_default : goal.returns-in_default
returns-in_default c = sym (no_slot c.args.self.now c.args.operands.now (grind arith))
