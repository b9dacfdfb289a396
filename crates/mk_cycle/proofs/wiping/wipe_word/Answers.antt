use Rattle.mk_words.proofs.Below.Laws.Vocabulary.{◌∙◌}
use Rattle.mk_cycle.proofs.GivingSteps.{none_then, still_unmapped_word, wipe_allowed, wipe_frees, wiped}
use Rattle.mk_cycle.proofs.FreeingSteps.{freed_turn}
use Rattle.mk_cycle.proofs.wiping.wipe_word.Goals as goal

pub wipe-requires-clause-one_table : goal.wipe-requires-clause-one_table
wipe-requires-clause-one_table c = (freed_turn c.look_at_heap.ensures.frees.frees c.requires.turn.is_turn).one_table

pub wipe-requires-clause-enabled : goal.wipe-requires-clause-enabled
wipe-requires-clause-enabled c =
    let first = c.look_at_heap.ensures.frees.frees in
    wipe_allowed c.look_at_heap.new.turn.in_order (freed_turn first c.requires.turn.is_turn)
    (still_unmapped_word first c.requires.unmapped) (λ z. c.if-look_at_heap-ne0.true (c.look_at_heap.ensures.reads ∙ z))

pub returns-then-look_at_heap-ne0-clause-frees : goal.returns-then-look_at_heap-ne0-clause-frees
returns-then-look_at_heap-ne0-clause-frees c =
    let first = c.look_at_heap.ensures.frees in
    none_then first (wipe_frees (freed_turn first.frees c.requires.turn.is_turn) c.wipe.ensures)

pub returns-then-look_at_heap-ne0-clause-zero : goal.returns-then-look_at_heap-ne0-clause-zero
returns-then-look_at_heap-ne0-clause-zero c = wiped c.wipe.ensures
