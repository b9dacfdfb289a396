-- Places in the schedules: what fits, where each object is granted, and where a New is refused.
use Rattle.mk_core.proofs.Vocabulary.{Bool, Event, List, NoneServesFrom, Op, Some, StandsAtItsPlace, Step, all_below}
use Rattle.mk_core.proofs.Vocabulary.{ap, false, false≢true, is_begin, is_close, is_end, is_release, left, left_from}
use Rattle.mk_core.proofs.Vocabulary.{may_turn_black, pointed_cell, refl, take, true, unreleased_storage, [], ◌≡◌}
use Rattle.mk_core.proofs.EventsAt.{Also, AtEach, at_each, at_number, cycle_of, event_number, next_of, served}
use Rattle.mk_core.proofs.{EventsAt.{stands_at, turn_number, ◌and◌}, Schedules.{by, c0, freed_after_begin, host}}
use Rattle.mk_core.proofs.{Schedules.one_page, MoreSchedules.{full_then_reused, granted_while_marking, two_pages}}
use Rattle.mk_core.specs.Placement.{FindsNoPlace, FullsFitNowhere, GrantsStandAtTheirPlaces}
use Rattle.mk_core.specs.Allocations.{FitsAmongAllocations, place_among_allocations}

-- One cell of 32 words is taken, and the other is free. An object of 2 words needs a page of its own size, which isn't
-- there.
pub places_beside : (place_among_allocations one_page 32 true (left one_page freed_after_begin).allocations
    ≡ Some (record { page = 0; index = 1; carve = false }))
    × (FitsAmongAllocations one_page 32 true (left one_page freed_after_begin).allocations)
    × (FitsAmongAllocations one_page 2 true (left one_page freed_after_begin).allocations → ⊥)
unfolding by c0 host all_below pointed_cell one_page freed_after_begin left_from unreleased_storage
places_beside = (refl, refl, λ h. false≢true h)

abbrev pub is_grant : Step → Bool
is_grant Step.Grant = true
is_grant _ = false

-- The first object carves the page, and the second takes the cell beside it. The third is served only after the cycle
-- in its turn: the `used` and the `head` of the cycle serve nothing. So it stands where the first one stood.
pub grants : StandsAtItsPlace one_page (take 3 freed_after_begin) c0
    × StandsAtItsPlace one_page (take 8 freed_after_begin) c0 × StandsAtItsPlace one_page (take 53 freed_after_begin) c0
unfolding by c0 host all_below pointed_cell one_page freed_after_begin left_from unreleased_storage event_number
    turn_number NoneServesFrom
grants = (
  stands_at (turn_number one_page c0 0 (Some (Op.New 0 0 false)) (take 3 freed_after_begin) refl refl refl)
      (served _ 0 refl tt refl) (record { page = 0; index = 0; carve = true }) refl refl,
  stands_at (turn_number one_page c0 6 (Some (Op.New 1 0 false)) (take 8 freed_after_begin) refl refl refl)
      (served _ 0 refl tt refl) (record { page = 0; index = 1; carve = false }) refl refl,
  stands_at (turn_number one_page c0 39 (Some (Op.New 2 0 false)) (take 53 freed_after_begin) refl refl refl)
      (served _ 11 refl (refl and refl and refl and refl and refl and refl and refl and refl and refl and refl and refl
      and tt) refl) (record { page = 0; index = 0; carve = true }) refl refl,
)

pub grants_stand : GrantsStandAtTheirPlaces one_page freed_after_begin
unfolding by c0 host freed_after_begin AtEach Also
grants_stand before e behind is grant =
    at_each is_grant (λ (es : List Event) (x : Event). StandsAtItsPlace one_page es x.seat) [] freed_after_begin
    (grants.0, (grants.1, (grants.2, tt))) before e behind is (ap is_grant grant)

-- While the phase is marking, the mark on the page's ten cells is what serves the object first.
pub grant_while_marking : StandsAtItsPlace two_pages (take 16 granted_while_marking) c0
unfolding by c0 all_below pointed_cell two_pages granted_while_marking left_from unreleased_storage event_number
    turn_number NoneServesFrom
grant_while_marking =
    stands_at (turn_number two_pages c0 12 (Some (Op.New 1 1 false)) (take 16 granted_while_marking) refl refl refl)
    (served _ 0 refl tt refl) (record { page = 1; index = 0; carve = true }) refl refl

-- The refused New begins and ends a cycle in its turn. Both cells are still taken after it, so it doesn't fit.
pub full : FindsNoPlace one_page (take 31 full_then_reused) c0
unfolding by c0 all_below pointed_cell may_turn_black one_page full_then_reused left_from unreleased_storage
    event_number at_number turn_number
full = record {
  turn = turn_number one_page c0 16 (Some (Op.New 2 0 false)) (take 31 full_then_reused) refl refl refl;
  cycle = cycle_of (at_number is_begin 2 _ refl refl) (next_of (at_number is_close 7 _ refl refl) refl)
      (next_of (at_number is_release 0 _ refl refl) refl) (next_of (at_number is_end 0 _ refl refl) refl);
  no_fit = λ h. false≢true h;
}

abbrev pub is_full_step : Step → Bool
is_full_step Step.Full = true
is_full_step _ = false

pub fulls_fit_nowhere : FullsFitNowhere one_page full_then_reused
unfolding by c0 full_then_reused AtEach Also
fulls_fit_nowhere before e behind is kind =
    at_each is_full_step (λ (es : List Event) (x : Event). FindsNoPlace one_page es x.seat) [] full_then_reused
    (full, tt) before e behind is (ap is_full_step kind)
