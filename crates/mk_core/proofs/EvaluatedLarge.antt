-- The schedule of a large object, evaluated: answers, counts, places and what is due.
use Rattle.mk_core.proofs.Vocabulary.{Answer, Event, IsHistory, IsWithinLimits, List, NoneServesFrom, Op, Some}
use Rattle.mk_core.proofs.Vocabulary.{StandsAtItsPlace, Step, all_below, answered, ap, arith, calls, calls_from, false}
use Rattle.mk_core.proofs.Vocabulary.{false≢true, is_give, left, left_from, pointed_cell, refl, replicate, take, true}
use Rattle.mk_core.proofs.{Vocabulary.{unreleased_storage, [], ◌<◌, ◌∷◌, ◌≡◌}, EvaluatedHistories.{admitted, history}}
use Rattle.mk_core.proofs.{EvaluatedHistories.{numbers, one_type, small_limits}, EventsAt.{Also, AtEach, at_each}}
use Rattle.mk_core.{proofs.EventsAt.{event_number, served, stands_at, turn_number, ◌and◌}, specs.History.{RefinesNever}}
use Rattle.mk_core.proofs.{LargeSchedule.{large_freed, no_fault_large, three_pages}, Schedules.{by, c0}}
use Rattle.mk_never.specs.declared.types.Kind.TheVariants.{Num}
use Rattle.mk_core.specs.Allocations.{FitsAmongAllocations, fresh_words_of, held_by_allocations}
use Rattle.mk_core.specs.{Allocations.place_among_allocations, Counts.{IsDue, IsTidy, TalliesAreTidy}}

three_pages_limits : IsWithinLimits three_pages
unfolding three_pages
three_pages_limits =
    small_limits 3 2 three_pages.types (omega arith, omega arith) (omega arith, omega arith) (omega arith)
    (one_type three_pages.types (replicate 65 Num) (numbers three_pages.types 65 (omega arith, omega arith)))

pub large_is_history : IsHistory three_pages large_freed
unfolding by c0 all_below pointed_cell three_pages large_freed left_from calls_from
large_is_history = history large_freed three_pages_limits no_fault_large (admitted (omega arith) (omega arith) tt tt and
    admitted (omega arith) (omega arith) (omega arith, refl) tt and admitted (omega arith) (omega arith) tt refl and
    admitted (omega arith) (omega arith) (omega arith, refl) tt and admitted (omega arith) (omega arith) tt refl and
    admitted (omega arith) (omega arith) tt tt and admitted (omega arith) (omega arith) tt tt and tt)

-- A New, a write and a Free are done. The read is refused as one of an unmapped object, and the second Free as one too
-- many.
pub large_answers : (answered (calls three_pages large_freed) ≡ Answer.Done ∷ Answer.Done ∷ Answer.Done ∷ Answer.Fault ∷
    Answer.Double ∷ Answer.Done ∷ Answer.Done ∷ []) × RefinesNever three_pages large_freed
unfolding by c0 all_below pointed_cell three_pages large_freed calls_from left_from
large_answers = (refl, refl)

-- 65 words take two pages, which are 128 words. From the event that frees them on none is held, and none is fresh: this
-- free isn't due.
pub large_counts : ((held_by_allocations three_pages (left three_pages (take 16 large_freed)).allocations ≡ 128)
    × (held_by_allocations three_pages (left three_pages (take 17 large_freed)).allocations ≡ 0)
    × (fresh_words_of three_pages (left three_pages (take 17 large_freed)).allocations ≡ 0))
    × (IsDue three_pages (take 16 large_freed) (record { seat = c0; step = Step.Quar 0 1 }) → ⊥)
unfolding by c0 all_below pointed_cell three_pages large_freed left_from unreleased_storage
large_counts = ((refl, refl, refl), λ h. let wrong : 0 < 0 = h.quarter in omega arith)

-- The unmapped pages stay taken up to the release: one page is left, and an object of two fits only after it.
pub large_places : (place_among_allocations three_pages 64 true (left three_pages (take 41 large_freed)).allocations
    ≡ Some (record { page = 2; index = 0; carve = true }))
    × (FitsAmongAllocations three_pages 65 true (left three_pages (take 41 large_freed)).allocations
    → ⊥) × FitsAmongAllocations three_pages 65 true (left three_pages (take 42 large_freed)).allocations
unfolding by c0 all_below pointed_cell three_pages large_freed left_from unreleased_storage
large_places = (refl, λ h. false≢true h, refl)

-- So the second object stands where the first one stood. The headers that the cycle frees serve nothing.
pub large_grant : StandsAtItsPlace three_pages (take 53 large_freed) c0
unfolding by c0 all_below pointed_cell three_pages large_freed left_from unreleased_storage event_number
    turn_number NoneServesFrom
large_grant = stands_at (turn_number three_pages c0 34 (Some (Op.New 1 0 false)) (take 53 large_freed) refl refl refl)
    (served _ 15 refl (refl and refl and refl and refl and refl and refl and refl and refl and refl and refl and refl
    and refl and refl and refl and refl and tt) refl) (record { page = 0; index = 0; carve = true }) refl refl

pub large_is_tidy : IsTidy three_pages large_freed
unfolding by c0 all_below pointed_cell three_pages large_freed left_from calls_from AtEach Also
large_is_tidy before e behind is give =
    at_each is_give (λ (es : List Event) (x : Event). TalliesAreTidy three_pages es) [] large_freed
    (record { cycles = refl; released = refl; full = refl } and record { cycles = refl; released = refl; full = refl }
    and record { cycles = refl; released = refl; full = refl } and record {
      cycles = refl;
      released = refl;
      full =
          refl;
    }
    and tt) before e behind is (ap is_give give)
