use Rattle.mk_heap.proofs.Below.Laws.Vocabulary.{List, ℕ, ap, append_assoc, arith, length, sym, [], ◌++◌, ◌+◌, ◌-◌, ◌∙◌}
use Rattle.mk_heap.proofs.Below.Laws.Vocabulary.{◌∷◌}
use Rattle.mk_trace.proofs.{Vocabulary.{length-append, range_with_len}, SlotTypes.range_more}
use Rattle.mk_trace.proofs.configs.slot_globals.Goals as goal

pub loop-slot-preserved : goal.loop-slot-preserved
loop-slot-preserved c =
    let i = c.loop-slot.slot in
    let old : List ℕ = c.loop-slot.globals in
    let rest = range_with_len (i + 1) (c.args.count - (i + 1)) in
    let added = c.in_ok-add.ensures.added in
    let count = c.loop-slot.invariant.count in
    record {
      count = omega (arith, ap length added, length-append old (i ∷ []), count);
      whole = ap (λ (l : List ℕ). l ++ rest) added ∙ append_assoc old (i ∷ []) rest ∙ sym (ap (λ (l : List ℕ). old ++ l)
          (range_more i c.args.count c.loop-slot-test.true)) ∙ c.loop-slot.invariant.whole;
    }
