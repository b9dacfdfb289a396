use Rattle.std.proofs.lemmas.List.{get_or_default}
use Rattle.mk_trace.proofs.{Vocabulary.Op, LaterOps.{called_all, called_first, called_one_more, may_come_now}}
use Rattle.mk_trace.proofs.{FewEvents.few_later, FreedSlots.frees_now}
use Rattle.mk_heap.proofs.Below.Laws.Vocabulary.{Bool, List, ap, arith, false, get_or, ◌||◌, ◌∙◌}
use Rattle.mk_never.specs.declared.operations.Op.TheVariants.{New}
use Rattle.mk_trace.proofs.calls.refuses.Goals as goal

pub loop-op-init : goal.loop-op-init
loop-op-init g c = record {
  between = c.in_ok-first.ensures.between;
  ends = (let first = c.in_ok-first.ensures.ends in omega (arith, first));
  exact = c.in_ok-first.ensures.exact;
  calls =
      called_first c.args.event c.is_full_answer.result c.is_refusal-refused.result c.deref-op-items.result.now
      c.first_op.ensures c.in_ok-first.ensures.calls c.is_full_answer.ensures c.is_refusal-refused.ensures
      (c.deref-op-items.ensures.value ∙ c.in_ok-ops.ensures);
}

pub answer-requires-in-loop-op-clause-points : goal.answer-requires-in-loop-op-clause-points
answer-requires-in-loop-op-clause-points g c κs within =
    let ops : List Op = c.deref-op-items.result.now in
    let i = c.loop-op.op-index in
    let o : Op = get_or ops i (New 0 0 false) in
    let there = get_or_default ops i (New 0 0 false) o c.loop-op-test.true in
    rw c.slot-slot.ensures (frees_now c.loop-op.invariant.calls o c.loop-op-test.true there c.requires.frees)

pub answer-requires-in-loop-op-clause-admitted : goal.answer-requires-in-loop-op-clause-admitted
answer-requires-in-loop-op-clause-admitted g c κs within =
    let ops : List Op = c.deref-op-items.result.now in
    let i = c.loop-op.op-index in
    let o : Op = get_or ops i (New 0 0 false) in
    let there = get_or_default ops i (New 0 0 false) o c.loop-op-test.true in
    may_come_now c.args.heap.now.config c.args.player.now.host.pass.seen c.args.event ops i c.loop-op.refused
    c.loop-op.player.host.pass.seen c.loop-op.invariant.calls o c.loop-op-test.true there c.requires.admitted

pub answer-requires-in-loop-op-clause-few : goal.answer-requires-in-loop-op-clause-few
answer-requires-in-loop-op-clause-few g c κs within =
    let so_far = c.loop-op.invariant.ends in
    let count = few_later c.is_full_answer.result c.args.event c.deref-op-items.result.now
    (c.deref-op-items.ensures.value ∙ c.in_ok-ops.ensures) in
    let inside = c.loop-op-test.true in
    let few = c.requires.few in
    omega (arith, so_far, count, inside, few)

pub returns-clause-ends : goal.returns-clause-ends
returns-clause-ends g c = grind (arith, few_later)

pub loop-op-preserved : goal.loop-op-preserved
loop-op-preserved g c =
    let ops : List Op = c.deref-op-items.result.now in
    let i = c.loop-op.op-index in
    let o : Op = get_or ops i (New 0 0 false) in
    let there = get_or_default ops i (New 0 0 false) o c.loop-op-test.true in
    record {
      between = c.in_ok-later.ensures.between;
      ends = (let one = c.in_ok-later.ensures.ends in omega (arith, c.loop-op.invariant.ends, one));
      exact = λ before. c.in_ok-later.ensures.exact (c.loop-op.invariant.exact before);
      calls =
          called_one_more _ _ _ ops i c.loop-op.refused c.loop-op.player.host.pass.seen c.loop-op.invariant.calls o
          c.loop-op-test.true there c.in_ok-later.later c.answer-in-loop-op.new.player.host.pass.seen _
          c.in_ok-later.ensures.calls (ap (λ (b : Bool). c.loop-op.refused || b) c.is_refusal-also.ensures);
    }

pub returns-clause-plays : goal.returns-clause-plays
returns-clause-plays g c = called_all c.loop-op.invariant.calls (omega arith)
