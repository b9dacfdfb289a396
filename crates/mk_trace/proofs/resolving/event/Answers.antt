use Rattle.mk_heap.proofs.Below.Laws.Vocabulary.{ap, length, sym, ◌<◌, ◌∙◌}
use Rattle.mk_trace.proofs.{Vocabulary.{rules, slot_number}, SlotNumbers.number_within, resolving.event.Goals.In-Some}
use Rattle.mk_trace.proofs.resolving.event.Goals as goal

within : (c : In-Some) → c.in-Some.number < length c.args.slots.now
within c =
    number_within _ c.args.line.now.slot (sym (sym c.in-Some.is ∙ c.copied.ensures ∙ c.get.ensures.value ∙ c.requires _
    ∙ ap (slot_number c.args.slots.now) c.as_bytes.ensures))

pub offset_bounds-slots-number : goal.offset_bounds-slots-number
offset_bounds-slots-number c = let inside = within c in search rules

pub bounds-slots-number : goal.bounds-slots-number
bounds-slots-number c = within c

pub bounds-slots-number-in-Some : goal.bounds-slots-number-in-Some
bounds-slots-number-in-Some c = within c
