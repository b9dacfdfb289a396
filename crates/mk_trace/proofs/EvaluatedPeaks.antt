-- The peaks of small schedules.
use Rattle.mk_trace.{proofs.Vocabulary.{peaks_of}, specs.Peaks.{found_by_ends_from, greatest_from}}
use Rattle.mk_heap.proofs.Below.Laws.Vocabulary.{refl, [], ◌∷◌, ◌≡◌}
use Rattle.mk_core.proofs.Schedules.{by, c0, freed_after_begin, host, one_page}
use Rattle.mk_core.proofs.LargeSchedule.{large_freed, three_pages}
use Rattle.mk_core.specs.{Allocations.unreleased_storage, Words.all_below, Cells.pointed_cell, History.left_from}

-- Of two objects of 32 words the first is freed before a cycle begins, and the second after its begin. Both are
-- quarantined when it ends. The first is released by it, and the second by the next one.
pub peaks_freed : peaks_of one_page freed_after_begin
    ≡ record { held = 64; quarantined = 64; reserved = 0; cycles = 2; ages = (1, 1) ∷ (2, 1) ∷ [] }
unfolding by c0 host all_below pointed_cell one_page freed_after_begin left_from unreleased_storage greatest_from
    found_by_ends_from
peaks_freed = refl

-- A freed object of two pages isn't held any longer, and its addresses are reserved until a cycle releases it.
pub peaks_large : peaks_of three_pages large_freed
    ≡ record { held = 128; quarantined = 128; reserved = 128; cycles = 1; ages = (1, 1) ∷ [] }
unfolding by c0 all_below pointed_cell three_pages large_freed left_from unreleased_storage greatest_from
    found_by_ends_from
peaks_large = refl
