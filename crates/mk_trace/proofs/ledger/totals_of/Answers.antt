use Rattle.mk_trace.proofs.{Vocabulary.FreedObject, SettledLedgers.{all_summed, total_more}}
use Rattle.mk_heap.proofs.Below.Laws.Vocabulary.{◌∙◌}
use Rattle.mk_trace.proofs.ledger.totals_of.Goals as goal

pub loop-object-preserved : goal.loop-object-preserved
loop-object-preserved c =
    let so_far = c.loop-object.invariant in
    let there = c.loop-object-test.true in (
      c.saturating_add-storage.ensures ∙ total_more (λ (x : FreedObject). x.storage) _ c.loop-object.object-index
          c.loop-object.storage _ there so_far.0,
      c.saturating_add-reserved.ensures ∙ total_more (λ (x : FreedObject). x.reserved) _ c.loop-object.object-index
          c.loop-object.reserved _ there so_far.1,
    )

pub returns-clause-storage : goal.returns-clause-storage
returns-clause-storage c =
    all_summed (λ (x : FreedObject). x.storage) c.args.kept.now c.loop-object.object-index
    c.loop-object.storage c.loop-object-test.false c.loop-object.invariant.0

pub returns-clause-reserved : goal.returns-clause-reserved
returns-clause-reserved c =
    all_summed (λ (x : FreedObject). x.reserved) c.args.kept.now c.loop-object.object-index
    c.loop-object.reserved c.loop-object-test.false c.loop-object.invariant.1
