-- Condition 7 for the kinds of step that mark, begin, close and end a cycle, and for the markers' kinds and `over`.
use Rattle.std.specs.Prelude.{ℕ, ◌^◌, Bool, true, false, ◌&&◌, ◌||◌, not, nat_lt, ◌==◌, List, Option, slice_index}
use Rattle.std.specs.{Prelude.{bit_and, Some, None, is_some, is_none, if◌then◌else◌}, List.list_all}
use Rattle.mk_geom.specs.{declared.addresses.Cell.Cell, declared.pages.Place.Place, Addresses.{header_of, cell_at}}
use Rattle.mk_geom.specs.Addresses.{page_at_address}
use Rattle.mk_core.specs.{declared.config.Config.Config, declared.seats.Flight.Flight, declared.seats.Hand.Hand}
use Rattle.mk_core.specs.{declared.seats.Marker.Marker, declared.seats.Presence.Presence}
use Rattle.mk_core.specs.{declared.seats.Presence.TheVariants.{Attending, Out}, Words.{Words, header_at, used_at}}
use Rattle.mk_core.specs.{Words.{without, all_below, is_some_and}, Cells.{header_in, head_page, cells_under, cell_bits}}
use Rattle.mk_core.specs.Cells.{has_no_pointers, pointed_cell, is_marked, points_well, words_point_well}
use Rattle.mk_core.specs.{Cells.none_is_left_unmarked, declared.seats.Object.Object, NewPlaces.{object_made, bits_made}}
use Rattle.mk_core.specs.{TurnConditions.place_now, Moments.{Moment, is_phase}, declared.events.Word.Word}
use Rattle.mk_core.specs.{declared.seats.Scan.Scan, declared.seats.SeenHeader.SeenHeader, Conditions.host_has_turn}

-- the marker attends
abbrev pub is_attending : Presence → Bool
is_attending Attending = true
is_attending _ = false

-- no marker attends
abbrev pub none_attends : List Marker → Bool
none_attends markers = list_all (λ (marker : Marker). not (is_attending marker.presence)) markers

-- `mark` (a): the one bit of the cell into which the hand points
abbrev pub is_bit_of : Option Cell → ℕ → ℕ → Bool
is_bit_of cell page value = is_some_and (λ (x : Cell). (page == x.page) && (value == 2 ^ x.index)) cell

-- the mark is that of the cell into which the hand points
abbrev pub marks_by_hand : ℕ → Words → Option Hand → ℕ → ℕ → Bool
marks_by_hand pages w hand page value =
    is_some_and (λ (x : Hand). is_bit_of (pointed_cell pages w.pages x.value) page value) hand

-- `mark` (b): the bits of the cells that the place's first page gets, which has no header yet.
abbrev pub marks_place : Words → Object → Option Place → ℕ → ℕ → Bool
marks_place w o place page value =
    is_some_and
    (λ (x : Place). is_phase w 1 && (page == x.page) && (header_at w page == 0) && (value == bits_made o))
    place

-- the own condition of `mark`
abbrev pub may_mark : Config → Moment → Flight → ℕ → ℕ → Bool
may_mark c m f page value =
    marks_by_hand c.pages m.words m.seats.holding.hand page value || marks_place m.words (object_made c f.op)
    (place_now c m f) page value

-- `begin`: no mark is left, the snapshot is taken, and no object is fresh
abbrev pub has_clean_page : Words → ℕ → Bool
has_clean_page w p =
    (slice_index w.marks p == 0) && (slice_index w.blacks p == 0) && (slice_index w.freed p == slice_index w.snapshot p)

-- the own condition of `begin`
abbrev pub may_begin : ℕ → Words → Bool
may_begin pages w = all_below pages (has_clean_page w) && (w.fresh == 0)

-- `close`: no marker attends, every marked cell is black, no page is dirty, and the roots point well
abbrev pub has_closed_page : Words → ℕ → Bool
has_closed_page w p =
    (without (bit_and (slice_index w.marks p) (cell_bits w p)) (slice_index w.blacks p) == 0)
    && (slice_index w.dirty p == 0)

-- all registers and globals point well
abbrev pub roots_point_well : ℕ → Words → Bool
roots_point_well pages w = list_all (points_well pages w) w.registers && list_all (points_well pages w) w.globals

-- the own condition of `close`
abbrev pub may_close : Config → Moment → Bool
may_close c m = none_attends m.seats.markers && all_below c.pages (has_closed_page m.words)
    && roots_point_well c.pages m.words

-- `end`: no released cell is left, and each page with a header has a used cell, a run's at its head
abbrev pub has_settled_page : Words → ℕ → Bool
has_settled_page w p =
    none_is_left_unmarked w p && ((header_at w p == 0) || not (used_at w (head_page w p) == 0))

-- the own condition of `end`
abbrev pub may_end : ℕ → Words → Bool
may_end pages w = all_below pages (has_settled_page w)

-- `undirty`: in the stop, a page of which nothing is black
abbrev pub may_undirty : Moment → ℕ → Bool
may_undirty m page =
    not (is_phase m.words 2)
    || (none_attends m.seats.markers && (slice_index m.words.blacks page == 0)
    && (slice_index m.words.blacks (head_page m.words page) == 0))

-- the own condition of `unblack`
abbrev pub may_unblack : Moment → Bool
may_unblack m = not (is_phase m.words 2) || none_attends m.seats.markers

-- `black`: a marked cell whose words point well or aren't scanned
unfoldable pub may_turn_black : ℕ → Words → Cell → Bool
may_turn_black pages w cell =
    nat_lt cell.index (cells_under (header_in w cell.page)) && is_marked w cell
    && (has_no_pointers (header_in w cell.page) || words_point_well pages w cell)

-- the value is one bit, that of the cell
abbrev pub blackens : ℕ → Words → ℕ → ℕ → ℕ → Bool
blackens pages w page value k = (value == 2 ^ k) && may_turn_black pages w (record { page = page; index = k })

-- the own condition of `black`
abbrev pub may_black : Config → Moment → ℕ → ℕ → Bool
may_black c m page value =
    none_attends m.seats.markers && not (all_below 32 (λ k. not (blackens c.pages m.words page value k)))

-- the marker is out
abbrev pub is_out : Presence → Bool
is_out Out = true
is_out _ = false

-- the words that a marker looks at
abbrev pub is_markers_word : Word → Bool
is_markers_word Word.Phase = true
is_markers_word (Word.Mark p) = true
is_markers_word (Word.Black p) = true
is_markers_word (Word.Head p) = true
is_markers_word _ = false

-- the last look was at the page's header, and showed a cell of this index
abbrev pub has_seen_cell : Option SeenHeader → ℕ → ℕ → Bool
has_seen_cell None page k = false
has_seen_cell (Some seen) page k = (seen.page == page) && nat_lt k (cells_under (header_of seen.header))

-- the cell into which the open hand points by the header that was seen of its page
abbrev pub cell_seen : Config → Option SeenHeader → Option ℕ → Option Cell
cell_seen c (Some seen) (Some value) = if seen.page == page_at_address value then cell_at c.pages seen.header value
    else None
cell_seen c _ _ = None

-- the scan has a next word
abbrev pub has_next_word : Option Scan → Bool
has_next_word (Some scan) = nat_lt scan.next scan.end
has_next_word None = false

-- there is a scan, and it has no next word
abbrev pub is_scanned : Option Scan → Bool
is_scanned (Some scan) = not (nat_lt scan.next scan.end)
is_scanned None = false

-- the own condition of `mlook`
abbrev pub may_mlook : Marker → Word → Bool
may_mlook x w = is_attending x.presence && is_markers_word w

-- the own condition of `claim`
abbrev pub may_claim : Marker → ℕ → ℕ → Bool
may_claim x page k = is_attending x.presence && is_none x.scan && has_seen_cell x.seen page k

-- the own condition of `mload`
abbrev pub may_mload : Marker → Bool
may_mload x = has_next_word x.scan && is_none x.hand

-- the own condition of `mmark`
abbrev pub may_mmark : Config → Marker → Bool
may_mmark c x = is_some (cell_seen c x.seen x.hand)

-- the own condition of `mblack`
abbrev pub may_mblack : Marker → Bool
may_mblack x = is_scanned x.scan && is_none x.hand

-- the own condition of `over`
abbrev pub may_end_all : Config → Moment → Bool
may_end_all c m = host_has_turn c m && is_phase m.words 0
