-- What the schedules leave, counted: allocations, held and fresh words, tallies, and frees that are due.
use Rattle.mk_core.proofs.Vocabulary.{Config, Event, List, Step, ℕ, all_below, ap, arith, calls_from, drop, false}
use Rattle.mk_core.proofs.Vocabulary.{false≢true, is_give, left, left_from, may_turn_black, pointed_cell, refl, take}
use Rattle.mk_core.proofs.{Vocabulary.{true, unreleased_storage, [], ◌∷◌, ◌≡◌}, EventsAt.{Also, AtEach, at_each}}
use Rattle.mk_core.proofs.{EventsAt.{event_number, ◌and◌}, Schedules.{blackened_before_the_move, by, c0}}
use Rattle.mk_core.proofs.Schedules.{freed_after_begin, host, m0, one_page, pointer_page}
use Rattle.mk_core.proofs.MoreSchedules.{a_quarter_and_all, full_then_reused, two_pages}
use Rattle.mk_core.specs.Counts.{IsDue, IsTidy, TalliesAreExact, TalliesAreTidy, ends, full_answers, releases}
use Rattle.mk_core.specs.Allocations.{fresh_words_of, held_by_allocations}

-- the words that are held after the events, and those that are fresh
abbrev Holds : Config → List Event → ℕ → ℕ → Type 0
Holds c es held fresh =
    (held_by_allocations c (left c es).allocations ≡ held) × (fresh_words_of c (left c es).allocations ≡ fresh)

-- Both freed objects are released at the end. The third has taken the cell of the first. Only the third object is held,
-- in 32 words. After the event that frees the first object both are held, and it is fresh. After the one that frees the
-- second, after the `begin`, only the second is fresh. Two cycles have ended, each with a released object, and no call
-- was refused.
pub freed_counts : ((left one_page freed_after_begin).allocations
    ≡ record { base = 0; ty = 0; freed = true; fresh = false; released = true }
    ∷ record { base = 32; ty = 0; freed = true; fresh = false; released = true }
    ∷ record { base = 0; ty = 0; freed = false; fresh = false; released = false } ∷ [])
    × Holds one_page freed_after_begin 32 0 × Holds one_page (take 14 freed_after_begin) 64 32
    × Holds one_page (take 20 freed_after_begin) 64 32
    × ((ends freed_after_begin ≡ 2) × (releases (left one_page freed_after_begin).allocations ≡ 2)
    × (full_answers one_page freed_after_begin ≡ 0))
unfolding by c0 host all_below pointed_cell one_page freed_after_begin left_from unreleased_storage calls_from
freed_counts = (refl, (refl, refl), (refl, refl), (refl, refl), (refl, refl, refl))

-- In the schedule with a marker each object has 2 words. The third is freed, and stays so after the cycle that reaches
-- it. It is held with the others, and fresh only up to the `begin`.
pub blackened_counts : ((left pointer_page blackened_before_the_move).allocations
    ≡ record { base = 0; ty = 0; freed = false; fresh = false; released = false }
    ∷ record { base = 2; ty = 0; freed = false; fresh = false; released = false }
    ∷ record { base = 4; ty = 0; freed = true; fresh = false; released = false } ∷ [])
    × ((held_by_allocations pointer_page (left pointer_page blackened_before_the_move).allocations ≡ 6)
    × (fresh_words_of pointer_page (left pointer_page (take 32 blackened_before_the_move)).allocations ≡ 2)
    × (fresh_words_of pointer_page (left pointer_page (take 35 blackened_before_the_move)).allocations ≡ 0))
unfolding by c0 m0 host all_below pointed_cell may_turn_black pointer_page blackened_before_the_move left_from
    unreleased_storage
blackened_counts = (refl, (refl, refl, refl))

-- Before the last `give` the tallies of held and fresh words are right. That of cycles isn't: it was never stored.
pub freed_is_exact : TalliesAreExact one_page (take 55 freed_after_begin)
unfolding by c0 host all_below pointed_cell one_page freed_after_begin left_from unreleased_storage
freed_is_exact = record { held = refl; fresh = refl }

pub freed_is_not_tidy : TalliesAreTidy one_page (take 55 freed_after_begin) → ⊥
unfolding by c0 host all_below pointed_cell one_page freed_after_begin left_from
freed_is_not_tidy h = let wrong : ◌≡◌ {A = ℕ} 0 2 = h.cycles in omega arith

pub freed_has_untidy_give : IsTidy one_page freed_after_begin → ⊥
unfolding by c0 host freed_after_begin event_number
freed_has_untidy_give h = freed_is_not_tidy (h (take 55 freed_after_begin) _ (drop 56 freed_after_begin) refl refl)

-- Here every tally is stored before its `give`.
pub full_is_tidy : IsTidy one_page full_then_reused
unfolding by c0 all_below pointed_cell may_turn_black one_page full_then_reused left_from calls_from AtEach Also
full_is_tidy before e behind is give =
    at_each is_give (λ (es : List Event) (x : Event). TalliesAreTidy one_page es) [] full_then_reused
    (record { cycles = refl; released = refl; full = refl }
    and record { cycles = refl; released = refl; full = refl } and record {
      cycles = refl;
      released = refl;
      full =
          refl;
    }
    and record { cycles = refl; released = refl; full = refl } and record {
      cycles = refl;
      released = refl;
      full =
          refl;
    }
    and tt) before e behind is (ap is_give give)

-- Of its two cycles the second releases an object, and one New is refused.
pub full_counts : ((ends full_then_reused ≡ 2) × (releases (left one_page full_then_reused).allocations ≡ 1)
    × (full_answers one_page full_then_reused ≡ 1)) × (TalliesAreExact one_page (take 56 full_then_reused))
unfolding by c0 all_below pointed_cell may_turn_black one_page full_then_reused left_from calls_from unreleased_storage
full_counts = ((refl, refl, refl), record { held = refl; fresh = refl })

-- 2 fresh words of 8 are a quarter, and no more: the first free isn't due. The second is, with 8 of 8.
pub dues_of_a_quarter : (IsDue two_pages (take 14 a_quarter_and_all) (record { seat = c0; step = Step.Quar 0 1 }) → ⊥)
    × (IsDue two_pages (take 19 a_quarter_and_all) (record { seat = c0; step = Step.Quar 1 1 }))
unfolding by c0 all_below pointed_cell two_pages a_quarter_and_all left_from unreleased_storage
dues_of_a_quarter = (
  λ h. let wrong = h.quarter in omega arith,
  record { decides = refl; quarter = omega arith },
)

-- The step that takes the snapshot frees nothing, though half of the held words is fresh after it.
pub snapshot_is_not_due : IsDue one_page (take 14 freed_after_begin)
    (record { seat = c0; step = Step.Quar 0 4294967297 }) → ⊥
unfolding by c0 host all_below pointed_cell one_page freed_after_begin left_from unreleased_storage
snapshot_is_not_due h = let wrong : false ≡ true = h.decides in false≢true wrong
