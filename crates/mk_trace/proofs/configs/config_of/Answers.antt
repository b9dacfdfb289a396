use Rattle.mk_trace.proofs.{Vocabulary.IsWithinLimits, Playable.is_playable, SlotTypes.config_is}
use Rattle.mk_heap.proofs.Below.Laws.Vocabulary.{length, refl, subst}
use Rattle.mk_trace.proofs.configs.config_of.Goals as goal

pub slot_globals-requires : goal.slot_globals-requires
slot_globals-requires c =
    rw c.slots-slots.ensures.slots (is_playable c.args.trace.now c.slots-slots.ensures.of_some_text).slot_count.1

pub returns-clause-limits : goal.returns-clause-limits
returns-clause-limits c =
    subst IsWithinLimits (config_is c.args.trace.now c.pages.result c.resident.result
    (length c.slots-slots.result.now) c.slots-slots.result.now c.in_ok-slot_types.field-0 c.in_ok-slot_globals.field-0
    c.pages.ensures.pages c.resident.ensures.resident c.slots-slots.ensures.slots c.in_ok-slot_types.ensures refl
    c.in_ok-slot_globals.ensures) (is_playable c.args.trace.now c.slots-slots.ensures.of_some_text).heap
