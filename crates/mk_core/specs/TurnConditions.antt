-- Condition 7 for the kinds of the turn's holder that change objects: each kind's own condition.
use Rattle.std.specs.Prelude.{ℕ, ◌+◌, ◌-◌, ◌/◌, ◌%◌, ◌^◌, Bool, true, false, ◌&&◌, ◌||◌, not, ◌==◌, List, Option, None}
use Rattle.std.specs.Prelude.{if◌then◌else◌, slice_index, bit_and, is_none}
use Rattle.mk_geom.specs.declared.{addresses.Cell.Cell, pages.{Page.Page, Place.Place}}
use Rattle.mk_geom.specs.{PageUses.{held_by_uses, uses_of_pages}, Addresses.address_of}
use Rattle.mk_core.specs.NewPlaces.{object_made, place_on_pages, place_by_placing, pages_made, header_made, bits_made}
use Rattle.mk_core.specs.NewPlaces.{is_next_header, place_stands, unmapped_header, is_run_unmapped, is_run_gone}
use Rattle.mk_core.specs.{NewPlaces.{is_undecided_new, target}, Cells.{head_page, pointed_cell, is_freed}}
use Rattle.mk_core.specs.Cells.{are_left_unmarked, is_released_cell, words_are_zero, first_word, cell_words, is_in_run}
use Rattle.mk_core.specs.{Words.{Words, used_at, quarantine_word}, declared.seats.Placing.TheVariants.{Unplaced, Used}}
use Rattle.mk_core.specs.{Words.{has_bit, without, all_below, is_some_and}, Moments.{Moment, is_phase}}
use Rattle.mk_core.specs.declared.{seats.{Object.Object, Flight.Flight}, config.Config.Config}
use Rattle.mk_core.specs.declared.seats.{Stage.Stage, Placing.Placing, OwnCycle.OwnCycle}
use Rattle.mk_core.specs.declared.seats.{OwnCycle.TheVariants.Ended, RunPages.RunPages}

-- the place of an undecided New
abbrev pub place_now : Config → Moment → Flight → Option Place
place_now c m f =
    if is_undecided_new f then place_by_placing c.resident m.words.pages
    (object_made c f.op) m.seats.holding.placing else None

-- If the phase is marking, the cells that a header makes are marked before it is stored.
abbrev pub is_marked_first : Words → Object → Place → Bool
is_marked_first w o place =
    not (is_phase w 1) || (without (bits_made o) (slice_index w.marks place.page) == 0)

-- `head` (a) and (b): a page of the place gets its header
abbrev pub carves : Words → Object → Option Place → ℕ → ℕ → Bool
carves w o place page value =
    is_some_and
    (λ (x : Place). is_next_header w x.page (pages_made o) (header_made o) page value && is_marked_first w o x)
    place

-- `head` (c): a page of the run that the call freed is unmapped
abbrev pub unmaps : Words → Option RunPages → ℕ → ℕ → Bool
unmaps w freed page value =
    is_some_and (λ (run : RunPages). is_next_header w run.page run.count (unmapped_header run.count) page value) freed

-- `head` (d): a page with nothing on it is free. A later page of a run is asked for its head's words.
abbrev pub empties : Words → ℕ → ℕ → Bool
empties w page value =
    (value == 0) && (used_at w (head_page w page) == 0)
    && (slice_index w.freed (head_page w page) == 0) && (slice_index w.snapshot (head_page w page) == 0)

-- the own condition of `head`
abbrev pub may_head : Config → Moment → Flight → ℕ → ℕ → Bool
may_head c m f page value =
    if is_phase m.words 4
    then empties m.words page value
    else carves m.words (object_made c f.op) (place_now c m f) page value
    || unmaps m.words m.seats.holding.freed page value

-- `used` (a): the cell of the place is taken, once, after all its headers
abbrev pub takes_cell : Words → Object → Option Place → ℕ → ℕ → Bool
takes_cell w o place page value =
    is_some_and
    (λ (x : Place). (page == x.page) && place_stands w o x && not (has_bit (used_at w page) x.index)
    && (value == used_at w page + 2 ^ x.index))
    place

-- the New's cell is used already
abbrev pub is_used_once : Placing → Bool
is_used_once (Used place) = true
is_used_once _ = false

-- the words of each of these cells of a page are 0
abbrev pub are_wiped : Words → ℕ → ℕ → Bool
are_wiped w page bits =
    all_below 32 (λ k. not (has_bit bits k) || words_are_zero w (first_word w (record { page = page; index = k }))
    (cell_words w (record { page = page; index = k })))

-- `used` (b): released cells whose words are 0 are given back
abbrev pub gives_back : Words → ℕ → ℕ → Bool
gives_back w page value =
    (bit_and value (used_at w page) == value) && are_left_unmarked w page (used_at w page - value)
    && are_wiped w page (used_at w page - value)

-- the own condition of `used`
abbrev pub may_use : Config → Moment → Flight → ℕ → ℕ → Bool
may_use c m f page value =
    if is_phase m.words 4
    then gives_back m.words page value
    else not (is_used_once m.seats.holding.placing) && takes_cell m.words (object_made c f.op)
    (place_now c m f) page value

-- `quar` (a): the freed bit of the target, which wasn't set
abbrev pub frees : Words → Option Cell → ℕ → ℕ → Bool
frees w cell page value =
    is_some_and
    (λ (x : Cell). (page == x.page) && not (is_freed w x)
    && (value == quarantine_word (slice_index w.freed page + 2 ^ x.index) (slice_index w.snapshot page)))
    cell

-- the cell that a `quar` frees
abbrev pub cell_freed : ℕ → Words → Flight → ℕ → ℕ → Option Cell
cell_freed pages w f page value =
    if not (is_phase w 4) && frees w (target pages w f) page value then target pages w f else None

-- `quar` (b): the freed cells are the snapshot
abbrev pub takes_snapshot : Words → ℕ → ℕ → Bool
takes_snapshot w page value =
    is_phase w 0 && (value == quarantine_word (slice_index w.freed page) (slice_index w.freed page))

-- `quar` (c): released cells that aren't used lose both bits
abbrev pub drops : Words → ℕ → ℕ → ℕ → Bool
drops w page freed snapshot =
    (bit_and snapshot (slice_index w.snapshot page) == snapshot)
    && are_left_unmarked w page (slice_index w.snapshot page - snapshot)
    && (bit_and (used_at w page) (slice_index w.snapshot page - snapshot) == 0)
    && (freed == without (slice_index w.freed page) (slice_index w.snapshot page - snapshot))

-- the own condition of `quar`
abbrev pub may_quarantine : Config → Moment → Flight → ℕ → ℕ → Bool
may_quarantine c m f page value =
    if is_phase m.words 4
    then drops m.words page (value % 2 ^ 32) (value / 2 ^ 32)
    else frees m.words (target c.pages m.words f) page value || takes_snapshot m.words page value

-- the words held, as the pages show them
abbrev pub held_by_pages : Words → ℕ
held_by_pages w = held_by_uses (uses_of_pages w.pages)

-- no call of a caller's is undecided
abbrev pub is_decided : Stage → Bool
is_decided Stage.Turn = false
is_decided _ = true

-- `give`
abbrev pub may_give : Moment → Flight → Bool
may_give m f =
    is_decided f.stage && is_run_gone m.words m.seats.holding.freed
    && (m.words.held == held_by_pages m.words) && (m.words.fresh == m.fresh_words)

-- `full`: a cycle was begun and ended in this call, and nothing fits
abbrev pub may_answer_full : ℕ → List Page → Object → Placing → OwnCycle → Bool
may_answer_full resident pages o Unplaced Ended = is_none (place_on_pages resident pages o)
may_answer_full resident pages o _ _ = false

-- a word of the run whose pages this call unmapped
abbrev pub is_in_gone_run : Words → Option RunPages → ℕ → Bool
is_in_gone_run w freed n = is_some_and (λ (run : RunPages). is_in_run run n && is_run_unmapped w run) freed

-- `wipe`
abbrev pub may_wipe : Config → Moment → ℕ → Bool
may_wipe c m n =
    is_some_and (is_released_cell m.words) (pointed_cell c.pages m.words.pages (address_of n))
    || is_in_gone_run m.words m.seats.holding.freed n
