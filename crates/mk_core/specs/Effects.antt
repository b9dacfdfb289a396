-- What each event does: to the word that it reaches, and to what its seat is in the middle of.
use Rattle.std.specs.Prelude.{ℕ, ◌+◌, ◌-◌, ◌*◌, ◌%◌, ◌^◌, Bool, false, ◌&&◌, not, min, ◌==◌, List, slice_set, Option}
use Rattle.std.specs.Prelude.{Some, None, is_none, option_map, option_and_then, unwrap_or, if◌then◌else◌}
use Rattle.mk_never.specs.declared.operations.Op.{Op}
use Rattle.mk_geom.specs.{declared.{addresses.Cell.Cell, pages.Place.Place}, Addresses.header_of}
use Rattle.mk_geom.specs.PageUses.{or_else}
use Rattle.mk_geom.specs.Addresses.{is_heap_address, cell_at, page_at_address, address_of}
use Rattle.mk_core.specs.Cells.{header_in, run_headed, heads_run, has_no_pointers, is_unmapped_header, pointed_cell}
use Rattle.mk_core.specs.{Cells.{is_used, is_freed, is_marked, words_scanned, words_under}, Calls.{at_rest, begun}}
use Rattle.mk_core.specs.Calls.{onward, still, refused, progress_reg, progress_read, progress_cas, progress_getg}
use Rattle.mk_core.specs.Moments.{Moment, Seats, nothing_done, outside, flight_of, marker_of, others_are_held, is_phase}
use Rattle.mk_core.specs.declared.seats.Placing.TheVariants.{Unplaced, Chosen, Used, Granted}
use Rattle.mk_core.specs.{declared.seats.Source.TheVariants.{Root, Marked, Unmarked}, Accesses.{word_accessed, access}}
use Rattle.mk_core.specs.{Accesses.found, declared.seats.OwnCycle.TheVariants.{Begun, Ended}}
use Rattle.mk_core.specs.{declared.seats.Presence.TheVariants.{Visiting, Attending}, Words.{Words, accessed}}
use Rattle.mk_core.specs.{NewPlaces.{object_made, target}, TurnConditions.{place_now, cell_freed}}
use Rattle.mk_core.specs.declared.{config.Config.Config, events.{Seat.Seat, Word.Word}}
use Rattle.mk_core.specs.declared.events.{Step.Step, Event.Event, Answer.Answer}
use Rattle.mk_core.specs.declared.seats.{Flight.Flight, Progress.Progress, Hand.Hand}
use Rattle.mk_core.specs.declared.seats.{Placing.Placing, OwnCycle.OwnCycle}
use Rattle.mk_core.specs.declared.seats.{Holding.Holding, RunPages.RunPages, Scan.Scan}
use Rattle.mk_core.specs.{declared.seats.{SeenHeader.SeenHeader, Marker.Marker}, Words.has_bit}
use Rattle.mk_core.specs.{Words.is_some_and, MarkingConditions.marks_place, declared.seats.Stage.Stage}

-- a decided answer, and then `give`
abbrev pub decided : Flight → Answer → Progress
decided f a = record { flight = record f { stage = Stage.Give }; answer = Some a }

-- the call begins if the word that was found is 0
abbrev pub begins_where_free : Flight → Op → ℕ → Progress
begins_where_free f o found = if found == 0 then record { flight = begun o; answer = None } else still f

-- `probe`: an access to an unmapped run is refused
abbrev pub progress_probe : Flight → ℕ → Progress
progress_probe f header = if is_unmapped_header (header_of header) then refused f Answer.Fault else onward f None

-- a look at the quarantine word of an undecided Free's target, if it is freed already
abbrev pub sees_double : Words → Option Cell → Word → Bool
sees_double w cell (Word.Quar p) = is_some_and (λ (x : Cell). (p == x.page) && is_freed w x) cell
sees_double w cell _ = false

-- what a look makes of a Free: it may find the object freed already
abbrev pub progress_look : Config → Words → Flight → Word → Progress
progress_look c w f x = if sees_double w (target c.pages w f) x then decided f Answer.Double else still f

-- what a `quar` makes of a Free, with the cell that it frees
abbrev pub progress_freed : Flight → Option Cell → Progress
progress_freed f (Some cell) = decided f Answer.Done
progress_freed f None = still f

-- A step of a caller whose call is f, if its access finds this word.
abbrev pub progress : Config → Moment → Flight → ℕ → Step → Progress
progress c m f found (Step.Enter o) = begins_where_free f o found
progress c m f found Step.Leave = record { flight = at_rest; answer = None }
progress c m f found Step.Reg = progress_reg f f.stage found
progress c m f found Step.Probe = progress_probe f found
progress c m f found Step.Read = progress_read f f.op found
progress c m f found Step.Write = onward f (Some Answer.Done)
progress c m f found Step.Cas = progress_cas f found
progress c m f found Step.Getg = progress_getg f found
progress c m f found Step.Setg = onward f (Some Answer.Done)
progress c m f found Step.Dirty = onward f None
progress c m f found (Step.Take (Some o)) = begins_where_free f o found
progress c m f found Step.Give = record { flight = at_rest; answer = None }
progress c m f found (Step.Look x) = progress_look c m.words f x
progress c m f found (Step.Quar p v) = progress_freed f (cell_freed c.pages m.words f p v)
progress c m f found Step.Grant = decided f Answer.Done
progress c m f found Step.Full = decided f Answer.Full
progress c m f found _ = still f

-- the cell that a New has taken and that isn't granted yet
abbrev pub is_ungranted : Placing → Cell → Bool
is_ungranted (Used place) cell = (place.page == cell.page) && (place.index == cell.index)
is_ungranted _ cell = false

-- The cell belongs to a mapped allocation.
abbrev pub is_mapped_cell : Words → Placing → Cell → Bool
is_mapped_cell w placing cell =
    is_used w cell && not (heads_run (header_in w cell.page) && is_freed w cell) && not (is_ungranted placing cell)

-- A heap word of a cell that is scanned gives a hand if the cell is marked, or, in the stop, if it belongs to a mapped
-- allocation.
abbrev pub hand_of_cell : Words → Bool → Placing → Cell → ℕ → Option Hand
hand_of_cell w in_stop placing cell value =
    if has_no_pointers (header_in w cell.page)
    then None
    else if is_marked w cell
    then Some (record { value = value; source = Marked })
    else if in_stop && is_mapped_cell w placing cell then Some (record { value = value; source = Unmarked }) else None

-- at phase 2, with all other gates held
abbrev pub is_in_stop : ℕ → Words → Seat → Bool
is_in_stop callers w s = is_phase w 2 && others_are_held callers w s

-- the hand that a look gives, if it gives one
abbrev pub hand_given : Config → Moment → Seat → Word → ℕ → Option Hand
hand_given c m s (Word.Reg j r) value = Some (record { value = value; source = Root })
hand_given c m s (Word.Global g) value = Some (record { value = value; source = Root })
hand_given c m s (Word.Heap n) value =
    option_and_then (λ (cell : Cell). hand_of_cell m.words (is_in_stop c.callers m.words s) m.seats.holding.placing cell
    value)
    (pointed_cell c.pages m.words.pages (address_of n))
hand_given c m s _ value = None

-- The first step that serves the new object fixes its place.
abbrev pub chosen : Placing → Option Place → Placing
chosen Unplaced (Some place) = Chosen place
chosen placing _ = placing

-- the place of a New is used now
abbrev pub taken : Placing → Option Place → Placing
taken placing (Some place) = Used place
taken placing None = placing

-- the run whose first page this cell is on
abbrev pub run_of_cell : Words → Option Cell → Option RunPages
run_of_cell w cell = option_and_then (λ (x : Cell). run_headed (header_in w x.page) x.page) cell

-- a cycle that began in the call has ended in it
abbrev pub cycle_ended : OwnCycle → OwnCycle
cycle_ended Begun = Ended
cycle_ended cycle = cycle

-- What the holder of the turn has done after its step; a seat that doesn't hold it changes nothing of that.
abbrev pub holding_behind : Config → Moment → Seat → Flight → ℕ → Step → Holding → Holding
holding_behind c m s f found (Step.Take o) h = if found == 0 then nothing_done else h
holding_behind c m s f found Step.Give h = nothing_done
holding_behind c m s f found (Step.Look x) h = record h { hand = or_else (hand_given c m s x found) h.hand }
holding_behind c m s f found (Step.Head p v) h =
    record h { placing = if is_phase m.words 4 then h.placing else chosen h.placing (place_now c m f) }
holding_behind c m s f found (Step.Used p v) h =
    record h { placing = if is_phase m.words 4 then h.placing else taken h.placing (place_now c m f) }
holding_behind c m s f found (Step.Quar p v) h =
    record h { freed = or_else (run_of_cell m.words (cell_freed c.pages m.words f p v)) h.freed }
holding_behind c m s f found Step.Grant h = record h { placing = Granted }
holding_behind c m s f found (Step.Mark p v) h =
    record h {
      placing =
          if marks_place m.words (object_made c f.op) (place_now c m f) p v
          then chosen h.placing (place_now c m f)
          else h.placing;
    }
holding_behind c m s f found Step.Begin h = record h { hand = None; cycle = Begun }
holding_behind c m s f found Step.End h = record h { cycle = cycle_ended h.cycle }
holding_behind c m s f found _ h = h

-- A value outside the heap isn't an open hand.
abbrev pub open_hand : Config → ℕ → Option ℕ
open_hand c value = if is_heap_address c.pages value then Some value else None

-- The open hand is closed if the header of its page shows nothing there.
abbrev pub hand_behind_look : Config → ℕ → ℕ → Option ℕ → Option ℕ
hand_behind_look c page header None = None
hand_behind_look c page header (Some value) =
    if (page == page_at_address value) && is_none (cell_at c.pages header value) then None else Some value

-- a marker after a look
abbrev pub behind_mlook : Config → ℕ → Word → Marker → Marker
behind_mlook c found (Word.Head p) x =
    record x { hand = hand_behind_look c p found x.hand; seen = Some (record { page = p; header = found }) }
behind_mlook c found _ x = record x { seen = None }

-- the scan of a cell under the header that was seen, with no word to load if the cell isn't scanned
abbrev pub scan_begun : ℕ → ℕ → ℕ → Scan
scan_begun page index header =
    record {
      page = page;
      index = index;
      next = 64 * page + index * words_under (header_of header);
      end = 64 * page + index * words_under (header_of header) + words_scanned (header_of header);
    }

-- the scan that a `claim` begins, if the cell is marked
abbrev pub scan_claimed : ℕ → ℕ → ℕ → Option SeenHeader → Option Scan
scan_claimed page index marks (Some seen) = if has_bit marks index then Some (scan_begun page index seen.header)
    else None
scan_claimed page index marks None = None

-- the scan after a load
abbrev pub scan_onward : Option Scan → Option Scan
scan_onward (Some scan) = Some (record scan { next = scan.next + 1 })
scan_onward None = None

-- a marker after its step
abbrev pub marker_behind : Config → ℕ → Step → Marker → Marker
marker_behind c found Step.Attend x =
    record { presence = if found % 8 == 1 then Attending else Visiting; scan = None; hand = None; seen = None }
marker_behind c found Step.Quit x = outside
marker_behind c found (Step.Mlook w) x = behind_mlook c found w x
marker_behind c found (Step.Claim p k) x = record x { scan = scan_claimed p k found x.seen }
marker_behind c found Step.Mload x = record x { scan = scan_onward x.scan; hand = open_hand c found }
marker_behind c found Step.Mmark x = record x { hand = None }
marker_behind c found Step.Mblack x = record x { scan = None }
marker_behind c found _ x = x

-- the storage of a small object that is freed; a run is no longer mapped
abbrev pub words_freed : Words → Option Cell → ℕ
words_freed w cell =
    unwrap_or (option_map (λ (x : Cell). if heads_run (header_in w x.page) then 0 else words_under (header_in w x.page))
    cell) 0

-- The count of fresh words stands still at 2^64 - 1.
abbrev pub fresh_behind : Config → Moment → Flight → Step → ℕ
fresh_behind c m f (Step.Quar p v) = min (m.fresh_words + words_freed m.words (cell_freed c.pages m.words f p v))
    (2 ^ 64 - 1)
fresh_behind c m f Step.Begin = 0
fresh_behind c m f _ = m.fresh_words

-- A step of a caller changes only its own call, and one of a marker only what this marker is at.
abbrev pub flights_behind : Config → Moment → Seat → ℕ → Step → List Flight
flights_behind c m (Seat.Caller k) found s =
    slice_set m.seats.flights k (progress c m (flight_of m (Seat.Caller k)) found s).flight
flights_behind c m _ found s = m.seats.flights

-- the markers after a step
abbrev pub markers_behind : Config → Moment → Seat → ℕ → Step → List Marker
markers_behind c m (Seat.Marker k) found s = slice_set m.seats.markers k (marker_behind c found s (marker_of m k))
markers_behind c m _ found s = m.seats.markers

-- what each seat is in the middle of after a step
abbrev pub seats_behind : Config → Moment → Seat → ℕ → Step → Seats
seats_behind c m seat found s =
    record {
      flights = flights_behind c m seat found s;
      holding = holding_behind c m seat (flight_of m seat) found s m.seats.holding;
      markers = markers_behind c m seat found s;
    }

-- what an event leaves
abbrev pub moment_behind : Config → Moment → Event → Moment
moment_behind c m e =
    record {
      words = accessed m.words (word_accessed c m e) (access c m e);
      seats = seats_behind c m e.seat (found c m e) e.step;
      fresh_words = fresh_behind c m (flight_of m e.seat) e.step;
    }

-- the answer that a step decides
abbrev pub answer_by : Config → Moment → Seat → ℕ → Step → Option Answer
answer_by c m (Seat.Caller k) found s = (progress c m (flight_of m (Seat.Caller k)) found s).answer
answer_by c m _ found s = None

-- the answer that an event decides, if it decides one
abbrev pub answer_decided : Config → Moment → Event → Option Answer
answer_decided c m e = answer_by c m e.seat (found c m e) e.step
