use Rattle.std.proofs.lemmas.List.{at_drop_all}
use Rattle.mk_heap.proofs.Below.Laws.Vocabulary.{List, ap, append-nil, append_assoc, drop, sym, [], ◌++◌, ◌+◌, ◌∙◌, ◌∷◌}
use Rattle.mk_trace.proofs.Vocabulary.{Kind, at_drop_more, types_from}
use Rattle.mk_trace.proofs.configs.slot_types.Goals as goal

pub loop-slot-preserved : goal.loop-slot-preserved
loop-slot-preserved c =
    let slots = c.args.slots.now in
    let i = c.loop-slot.slot in
    let old : List (List Kind) = c.loop-slot.types in
    let rest : List (List Kind) = types_from (i + 1) (drop (i + 1) slots) in
    ap (λ (l : List (List Kind)). l ++ rest) c.in_ok-add.ensures.added
    ∙ append_assoc old (c.in_ok-slot_type.field-0.items ∷ []) rest
    ∙ ap (λ (kinds : List Kind). old ++ kinds ∷ rest) c.in_ok-slot_type.ensures
    ∙ sym (ap (λ (l : List (List Kind)). old ++ l) (at_drop_more (types_from i) slots i 0 c.loop-slot-test.true))
    ∙ c.loop-slot.invariant

pub returns : goal.returns
returns c =
    let slots = c.args.slots.now in
    let i = c.loop-slot.slot in
    let old : List (List Kind) = c.loop-slot.types in
    cc (append-nil old, at_drop_all (types_from i) slots i c.loop-slot-test.false, c.loop-slot.invariant)
