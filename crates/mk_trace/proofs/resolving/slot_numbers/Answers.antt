use Rattle.mk_heap.proofs.Below.Laws.Vocabulary.{arith, ◌-◌}
use Rattle.mk_trace.proofs.SlotNumbers.{all_put, none_put, one_more}
use Rattle.mk_trace.proofs.resolving.slot_numbers.Goals as goal

pub loop-number-init : goal.loop-number-init
loop-number-init c = none_put c.new-numbers.result c.args.slots.now c.new-numbers.ensures.empty

pub loop-number-preserved : goal.loop-number-preserved
loop-number-preserved c =
    one_more c.loop-number.numbers c.insert.new.self c.args.slots.now (c.loop-number.number - 1) c.loop-number.number
    c.index-slots-number.result c.as_bytes.result.now (omega arith) (omega arith) c.as_bytes.ensures
    (λ name. c.in_ok-insert.ensures.updates.0 (record { ref_ptr = (0, 0); now = name })) c.loop-number.invariant

pub returns : goal.returns
returns c = all_put c.loop-number.numbers c.args.slots.now c.loop-number.number (omega arith) c.loop-number.invariant
