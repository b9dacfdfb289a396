-- What the definitions say of small schedules.
use Rattle.mk_caller.proofs.Below.Laws.Vocabulary.{Tally, take}
use Rattle.mk_alloc.proofs.QuarantineVocabulary.{Event, FreshIsQuarterOfHeld, IsKeptByLastCycle, List, None, Op, Some}
use Rattle.mk_alloc.proofs.QuarantineVocabulary.{Step, arith, false, fresh_after, given_back, held_after, is_begin}
use Rattle.mk_alloc.proofs.QuarantineVocabulary.{is_close, is_end, is_release, left, refl, [], ◌++◌, ◌∷◌, ◌≡◌, ◌≤◌}
use Rattle.mk_alloc.specs.Bounds.{given_back_from}
use Rattle.mk_core.proofs.{EventsAt.{at_number, event_number}, Schedules.{by, c0, fault, first_fault, host, one_page}}
use Rattle.mk_core.{proofs.MoreSchedules.{full_then_reused, two_pages}, specs.MarkingConditions.{may_turn_black}}
use Rattle.mk_core.specs.{Allocations.unreleased_storage, Words.all_below, Cells.pointed_cell, History.left_from}

-- A schedule in which what was freed since the last `begin` is more than a quarter of what is held, and just a quarter
-- with what was given back.

-- Of an object of 2 words and one of 6 the larger is freed first. That is due, so it begins a cycle, which goes on.
-- Then the smaller is freed, which isn't due. When the caller has cleared its registers the host ends the cycle, in a
-- later turn.
unfoldable pub released_later : List Event
released_later =
    by c0 (Step.Take (Some (Op.New 0 0 false)) ∷ Step.Head 0 13 ∷ Step.Used 0 1 ∷ Step.Grant ∷ Step.Tally Tally.Held 2 ∷
    Step.Give ∷ []) ++ by c0 (Step.Take (Some (Op.New 1 1 false)) ∷ Step.Head 1 45 ∷ Step.Used 1 1 ∷ Step.Grant ∷
    Step.Tally Tally.Held 8 ∷ Step.Give ∷ []) ++ by c0
    (Step.Take (Some (Op.Free 1)) ∷ Step.Reg ∷ Step.Quar 1 1 ∷ Step.Quar 1 4294967297 ∷ Step.Begin ∷ Step.Give ∷ []) ++
    by c0 (Step.Take (Some (Op.Free 0)) ∷ Step.Reg ∷ Step.Quar 0 1 ∷ Step.Tally Tally.Fresh 2 ∷ Step.Give ∷ []) ++ by c0
    (Step.Enter (Op.Clear 0) ∷ Step.Reg ∷ Step.Leave ∷ []) ++ by c0 (Step.Enter (Op.Clear 1) ∷ Step.Reg ∷ Step.Leave ∷
    []) ++ by host (Step.Take None ∷ Step.Hold 0 ∷ Step.Want ∷ Step.Close ∷ Step.Release ∷ Step.Used 1 0 ∷ Step.Quar 1 0
    ∷ Step.Head 1 0 ∷ Step.Tally Tally.Held 2 ∷ Step.End ∷ Step.Open 0 ∷ Step.Give ∷ [])

pub no_fault_later : first_fault two_pages released_later ≡ None
unfolding first_fault fault by c0 host all_below pointed_cell two_pages released_later
no_fault_later = refl

-- Before the host's `release` 2 of 8 words are fresh, and nothing was given back; after it the 6 words of the larger
-- object are.

pub before_release : (held_after two_pages (take 33 released_later) ≡ 8)
    × (fresh_after two_pages (take 33 released_later) ≡ 2) × (given_back two_pages (take 33 released_later) ≡ 0)
unfolding by c0 host all_below pointed_cell two_pages released_later left_from unreleased_storage given_back_from
before_release = (refl, refl, refl)

-- In the end the turn is free, and the 2 words that are held are fresh: that is more than a quarter of them, and just a
-- quarter of the 8 words with those that were given back.
pub in_the_end : ((left two_pages released_later).now.words.turn ≡ 0) × (held_after two_pages released_later ≡ 2)
    × (fresh_after two_pages released_later ≡ 2) × (given_back two_pages released_later ≡ 6)
unfolding by c0 host all_below pointed_cell two_pages released_later left_from unreleased_storage given_back_from
in_the_end = (refl, refl, refl, refl)

pub more_than_a_quarter : FreshIsQuarterOfHeld two_pages released_later → ⊥
unfolding by c0 host all_below pointed_cell two_pages released_later left_from unreleased_storage
more_than_a_quarter h = let wrong : 8 ≤ 2 = h in omega arith

-- Of two cycles the first released nothing, and the second the 32 words of an object.
pub given_back_at_last : (given_back one_page full_then_reused ≡ 32)
    × (given_back one_page (take 40 full_then_reused) ≡ 0)
unfolding by c0 all_below pointed_cell may_turn_black one_page full_then_reused left_from unreleased_storage
    given_back_from
given_back_at_last = (refl, refl)

-- The first cycle of that schedule kept the object that a register still pointed to.
pub kept_by_first : IsKeptByLastCycle one_page (take 36 full_then_reused) 1
unfolding by c0 all_below pointed_cell may_turn_black one_page full_then_reused left_from event_number at_number
kept_by_first = record {
  cycle = record {
    releasing = record {
      marking = record {
        begin = at_number is_begin 19 (take 36 full_then_reused) refl refl;
        close = record { at = at_number is_close 7 _ refl refl; none_before = refl };
      };
      release = record { at = at_number is_release 0 _ refl refl; none_before = refl };
    };
    end = record { at = at_number is_end 0 _ refl refl; none_before = refl };
  };
  last = refl;
  snapshot = refl;
  unreleased = refl;
}
