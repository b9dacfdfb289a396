-- Which event may come next: the first of the seven conditions that fails, or 0.
use Rattle.std.specs.Prelude.{ℕ, Option, Some, None, ◌≡◌, ◌↔◌, Bool, true, ◌&&◌, not, if◌then◌else◌}
use Rattle.mk_core.specs.declared.{failing.Condition.Condition, config.Config.Config}
use Rattle.mk_core.specs.declared.events.{Seat.Seat, Step.Step, Event.Event}
use Rattle.mk_core.specs.{declared.seats.{Flight.Flight, Marker.Marker as MarkerState}, Words.phase_of}
use Rattle.mk_core.specs.{NewPlaces.{object_made, is_run_gone}, Moments.{Moment, flight_of, marker_at}}
use Rattle.mk_core.specs.Conditions.{is_in_range, has_gates, has_phase, seat_exists, group_of, is_open_to, is_in_order}
use Rattle.mk_core.specs.TurnConditions.{may_head, may_use, may_quarantine, may_give, may_wipe, may_answer_full}
use Rattle.mk_core.specs.{TurnConditions.is_used_once, MarkingConditions.{may_mark, may_begin, may_close, may_end}}
use Rattle.mk_core.specs.MarkingConditions.{may_undirty, may_black, may_unblack, is_out, may_mlook, may_claim}
use Rattle.mk_core.specs.MarkingConditions.{may_mload, may_mmark, may_mblack, may_end_all}

-- the number of a condition, as a schedule's refusal prints it
abbrev pub condition_number : Condition → ℕ
condition_number Condition.Seat = 1
condition_number Condition.Kind = 2
condition_number Condition.Order = 3
condition_number Condition.Range = 4
condition_number Condition.Gates = 5
condition_number Condition.Phase = 6
condition_number Condition.Own = 7

-- That of one that fails, or 0 if none does.
abbrev pub number_failing : Option Condition → ℕ
number_failing None = 0
number_failing (Some x) = condition_number x

-- condition 7 for the kinds of a marker
abbrev pub marker_may : Config → MarkerState → Step → Bool
marker_may c x Step.Attend = is_out x.presence
marker_may c x Step.Quit = not (is_out x.presence)
marker_may c x (Step.Mlook w) = may_mlook x w
marker_may c x (Step.Claim p k) = may_claim x p k
marker_may c x Step.Mload = may_mload x
marker_may c x Step.Mmark = may_mmark c x
marker_may c x Step.Mblack = may_mblack x
-- all other kinds, which are no marker's
marker_may c x _ = true

-- condition 7 for the kinds of the turn's holder, if its call is f
abbrev pub holder_may : Config → Moment → Flight → Step → Bool
holder_may c m f Step.Give = may_give m f
holder_may c m f (Step.Head p v) = may_head c m f p v
holder_may c m f (Step.Used p v) = may_use c m f p v
holder_may c m f (Step.Quar p v) = may_quarantine c m f p v
holder_may c m f Step.Grant = is_used_once m.seats.holding.placing
holder_may c m f (Step.Open j) = is_run_gone m.words m.seats.holding.freed
holder_may c m f (Step.Mark p v) = may_mark c m f p v
holder_may c m f (Step.Wipe n) = may_wipe c m n
holder_may c m f Step.Full =
    may_answer_full c.resident m.words.pages (object_made c f.op) m.seats.holding.placing m.seats.holding.cycle
holder_may c m f Step.Begin = may_begin c.pages m.words
holder_may c m f Step.Close = may_close c m
holder_may c m f Step.End = may_end c.pages m.words
holder_may c m f (Step.Undirty p) = may_undirty m p
holder_may c m f (Step.Black p v) = may_black c m p v
holder_may c m f (Step.Unblack p) = may_unblack m
holder_may c m f Step.Over = may_end_all c m
-- kinds that ask no more than conditions 1 to 6, and those of callers and markers
holder_may c m f _ = true

-- condition 7: each of the two is true of the other's kinds
abbrev pub meets_own : Config → Moment → Seat → Step → Bool
meets_own c m seat s = marker_may c (marker_at m seat) s && holder_may c m (flight_of m seat) s

-- the first of conditions 4 to 7 that fails, or 0
abbrev pub failing_in_order : Config → Moment → Event → ℕ
failing_in_order c m e =
    if is_in_range c e.seat (flight_of m e.seat) e.step
    then
    (if has_gates c m.words e.seat (flight_of m e.seat) e.step
    then (if has_phase (phase_of m.words) e.step then (if meets_own c m e.seat e.step then 0 else 7) else 6)
    else 5)
    else 4

-- The first condition that fails, or 0 if none fails.
abbrev pub failing : Config → Moment → Event → ℕ
failing c m e =
    if seat_exists c e.seat
    then
    (if is_open_to e.seat (group_of e.step) then (if is_in_order c m e.seat e.step then failing_in_order c m e else 3)
    else 2)
    else 1

-- The event may come: none of its conditions fails.
abbrev pub IsEnabled : Config → Moment → Event → Type 0
IsEnabled c m e = failing c m e ≡ 0

-- What an enabled event says: it meets each of the seven conditions. The last is in two parts, of which one is true.
pub record MeetsAll (c : Config) (m : Moment) (e : Event) : Type 0 where
  pub seat : seat_exists c e.seat ≡ true
  pub kind : is_open_to e.seat (group_of e.step) ≡ true
  pub order : is_in_order c m e.seat e.step ≡ true
  pub range : is_in_range c e.seat (flight_of m e.seat) e.step ≡ true
  pub gates : has_gates c m.words e.seat (flight_of m e.seat) e.step ≡ true
  pub phase : has_phase (phase_of m.words) e.step ≡ true
  pub marker : marker_may c (marker_at m e.seat) e.step ≡ true
  pub holder : holder_may c m (flight_of m e.seat) e.step ≡ true

-- Just those events may come that meet all seven conditions.
abbrev pub EnabledEventsMeetAll : Type 0
EnabledEventsMeetAll = (c : Config) (m : Moment) (e : Event) → IsEnabled c m e ↔ MeetsAll c m e
