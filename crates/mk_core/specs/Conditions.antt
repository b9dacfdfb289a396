-- Conditions 1 to 6 of a step. The seat exists, the kind is open to it, and the step comes next in its order; the
-- arguments are in range, and the gates and the phase are as the kind asks.
use Rattle.std.specs.Prelude.{◌+◌, Bool, true, false, ◌&&◌, not, nat_lt, ◌==◌, Some, None, ℕ, ◌*◌, ◌||◌, nat_le, Option}
use Rattle.mk_never.specs.declared.operations.Op.{Op}
use Rattle.mk_geom.specs.{declared.addresses.Cell.Cell, Addresses.header_of}
use Rattle.mk_core.specs.{Calls.{is_under_turn, has_operands, word_met}, Cells.{header_in, heads_run}}
use Rattle.mk_core.specs.{Cells.is_unmapped_header, Moments.{Moment, flight_of, is_number_of, is_held, others_are_held}}
use Rattle.mk_core.specs.{Moments.{none_is_held, is_phase}, NewPlaces.target, Words.{Words, is_some_and}}
use Rattle.mk_core.specs.{declared.config.Config.Config, declared.events.Group.Group, declared.events.Seat.Seat}
use Rattle.mk_core.specs.{declared.events.Seat.TheVariants.{Caller, Marker, Host}, declared.events.Step.Step}
use Rattle.mk_core.specs.{declared.events.Word.Word, declared.seats.Flight.Flight, declared.seats.Stage.Stage}

-- condition 1: there is such a seat
abbrev pub seat_exists : Config → Seat → Bool
seat_exists c (Caller k) = nat_lt k c.callers
seat_exists c (Marker k) = nat_lt k 8
seat_exists c Host = true

-- whose kind of step it is
abbrev pub group_of : Step → Group
group_of (Step.Enter o) = Group.Callers
group_of Step.Leave = Group.Callers
group_of Step.Reg = Group.Callers
group_of Step.Probe = Group.Callers
group_of Step.Read = Group.Callers
group_of Step.Write = Group.Callers
group_of Step.Cas = Group.Callers
group_of Step.Getg = Group.Callers
group_of Step.Setg = Group.Callers
group_of Step.Dirty = Group.Callers
group_of Step.Attend = Group.Markers
group_of Step.Quit = Group.Markers
group_of (Step.Mlook x) = Group.Markers
group_of (Step.Claim p k) = Group.Markers
group_of Step.Mload = Group.Markers
group_of Step.Mmark = Group.Markers
group_of Step.Mblack = Group.Markers
group_of Step.Over = Group.Host
-- all others are steps of the turn's holder
group_of _ = Group.Turn

-- condition 2: the seat has steps of this group
abbrev pub is_open_to : Seat → Group → Bool
is_open_to (Caller k) Group.Callers = true
is_open_to (Caller k) Group.Turn = true
is_open_to (Marker k) Group.Markers = true
is_open_to Host Group.Turn = true
is_open_to Host Group.Host = true
is_open_to _ _ = false

-- it is a step of the turn
abbrev pub is_of_turn : Group → Bool
is_of_turn Group.Turn = true
is_of_turn _ = false

-- The step is one of the turn's holder, whatever it holds the turn for.
abbrev pub is_of_any_holder : Step → Bool
is_of_any_holder (Step.Take o) = false
is_of_any_holder Step.Grant = false
is_of_any_holder Step.Full = false
is_of_any_holder s = is_of_turn (group_of s)

-- the steps that decide a New, besides those of any holder
abbrev pub may_decide_new : Op → Step → Bool
may_decide_new (Op.New d ty full) Step.Grant = true
may_decide_new (Op.New d ty full) Step.Full = true
may_decide_new _ s = is_of_any_holder s

-- a caller's next step, at a stage of its call
abbrev pub comes_next : Stage → Op → Step → Bool
comes_next Stage.Idle o (Step.Enter next) = not (is_under_turn next)
comes_next Stage.Idle o (Step.Take (Some next)) = is_under_turn next
comes_next Stage.LoadQ o Step.Reg = true
comes_next Stage.LoadP o Step.Reg = true
comes_next Stage.LoadR o Step.Reg = true
comes_next Stage.Store o Step.Reg = true
comes_next Stage.Put o Step.Reg = true
comes_next Stage.Probe o Step.Probe = true
comes_next Stage.Read o Step.Read = true
comes_next Stage.Write o Step.Write = true
comes_next Stage.Cas o Step.Cas = true
comes_next Stage.Getg o Step.Getg = true
comes_next Stage.Setg o Step.Setg = true
comes_next Stage.Dirty o Step.Dirty = true
comes_next Stage.Leave o Step.Leave = true
comes_next Stage.Turn o s = may_decide_new o s
comes_next Stage.Give o s = is_of_any_holder s
comes_next _ _ _ = false

-- The host takes the turn if it hasn't it, with no operation. Whether it may say `over` is asked last.
abbrev pub comes_next_to_host : Bool → Step → Bool
comes_next_to_host has_turn (Step.Take None) = not has_turn
comes_next_to_host has_turn Step.Over = true
comes_next_to_host has_turn s = has_turn && is_of_any_holder s

-- the host has the turn
abbrev pub host_has_turn : Config → Moment → Bool
host_has_turn c m = m.words.turn == 1 + c.callers

-- condition 3: the step is the seat's next one
abbrev pub is_in_order : Config → Moment → Seat → Step → Bool
is_in_order c m (Caller k) s = comes_next (flight_of m (Caller k)).stage (flight_of m (Caller k)).op s
is_in_order c m (Marker k) s = true
is_in_order c m Host s = comes_next_to_host (host_has_turn c m) s

-- condition 4: there is such a word
abbrev pub is_word : Config → Word → Bool
is_word c (Word.Gate j) = nat_lt j c.callers
is_word c (Word.Reg j r) = nat_lt j c.callers && nat_lt r 8
is_word c (Word.Global g) = nat_lt g 64
is_word c (Word.Head p) = nat_lt p c.pages
is_word c (Word.Used p) = nat_lt p c.pages
is_word c (Word.Quar p) = nat_lt p c.pages
is_word c (Word.Mark p) = nat_lt p c.pages
is_word c (Word.Black p) = nat_lt p c.pages
is_word c (Word.Dirty p) = nat_lt p c.pages
is_word c (Word.Heap n) = nat_lt n (64 * c.pages)
-- words that there is one of
is_word c _ = true

-- there is such a caller, and it is another one
abbrev pub is_other_caller : Config → Seat → ℕ → Bool
is_other_caller c seat j = nat_lt j c.callers && not (is_number_of seat j)

-- The word that a call accesses is one of the heap. It is so at the `probe`, and no later step changes which word it
-- is.
abbrev pub is_word_met : Config → Flight → Bool
is_word_met c f = nat_le 65536 f.q && nat_lt (word_met f) (64 * c.pages)

-- condition 4
abbrev pub is_in_range : Config → Seat → Flight → Step → Bool
is_in_range c seat f (Step.Enter o) = has_operands c o
is_in_range c seat f (Step.Take (Some o)) = has_operands c o
is_in_range c seat f Step.Probe = is_word_met c f
is_in_range c seat f Step.Read = is_word_met c f
is_in_range c seat f Step.Write = is_word_met c f
is_in_range c seat f Step.Cas = is_word_met c f
is_in_range c seat f Step.Dirty = is_word_met c f
is_in_range c seat f (Step.Look x) = is_word c x
is_in_range c seat f (Step.Head p v) = nat_lt p c.pages
is_in_range c seat f (Step.Used p v) = nat_lt p c.pages
is_in_range c seat f (Step.Quar p v) = nat_lt p c.pages
is_in_range c seat f (Step.Hold j) = is_other_caller c seat j
is_in_range c seat f (Step.Open j) = is_other_caller c seat j
is_in_range c seat f (Step.Clear p) = nat_lt p c.pages
is_in_range c seat f (Step.Mark p v) = nat_lt p c.pages
is_in_range c seat f (Step.Wipe n) = nat_lt n (64 * c.pages)
is_in_range c seat f (Step.Undirty p) = nat_lt p c.pages
is_in_range c seat f (Step.Black p v) = nat_lt p c.pages
is_in_range c seat f (Step.Unblack p) = nat_lt p c.pages
is_in_range c seat f (Step.Mlook x) = is_word c x
is_in_range c seat f (Step.Claim p k) = nat_lt p c.pages && nat_lt k 32
-- kinds without arguments, and a tally's, whose number may be any
is_in_range c seat f _ = true

-- An undecided Free whose register points into a run is of a large object.
abbrev pub is_run_cell : Words → Option Cell → Bool
is_run_cell w cell = is_some_and (λ (x : Cell). heads_run (header_in w x.page)) cell

-- A register is looked at by its own caller, or while that caller's gate is held.
abbrev pub may_look_at : Words → Seat → Word → Bool
may_look_at w seat (Word.Reg j r) = is_number_of seat j || is_held w j
may_look_at w seat _ = true

-- condition 5
abbrev pub has_gates : Config → Words → Seat → Flight → Step → Bool
has_gates c w seat f Step.Give = none_is_held c.callers w
has_gates c w seat f (Step.Look x) = may_look_at w seat x
has_gates c w seat f (Step.Head p v) = not (is_unmapped_header (header_of v)) || others_are_held c.callers w seat
has_gates c w seat f (Step.Quar p v) = not (is_run_cell w (target c.pages w f)) || others_are_held c.callers w seat
has_gates c w seat f (Step.Hold j) = not (is_held w j)
has_gates c w seat f (Step.Open j) = is_held w j
has_gates c w seat f Step.Close = others_are_held c.callers w seat
has_gates c w seat f Step.Release = others_are_held c.callers w seat
has_gates c w seat f Step.Want = others_are_held c.callers w seat
has_gates c w seat f (Step.Undirty p) = not (is_phase w 2) || others_are_held c.callers w seat
has_gates c w seat f (Step.Black p v) = others_are_held c.callers w seat
has_gates c w seat f (Step.Unblack p) = not (is_phase w 2) || others_are_held c.callers w seat
-- kinds that ask for no gate
has_gates c w seat f _ = true

-- condition 6, of the phase; if a kind has several cases, it is a phase that one of them names
abbrev pub has_phase : ℕ → Step → Bool
has_phase n Step.Give = (n == 0) || (n == 1) || (n == 5)
has_phase n (Step.Head p v) = (n == 0) || (n == 1) || (n == 4)
has_phase n (Step.Used p v) = (n == 0) || (n == 1) || (n == 4)
has_phase n (Step.Quar p v) = (n == 0) || (n == 1) || (n == 4)
has_phase n Step.Grant = (n == 0) || (n == 1)
has_phase n (Step.Open j) = not (n == 3)
has_phase n (Step.Clear p) = n == 0
has_phase n (Step.Mark p v) = (n == 1) || (n == 2)
has_phase n Step.Full = n == 0
has_phase n Step.Begin = n == 0
has_phase n Step.Close = n == 2
has_phase n Step.Release = n == 3
has_phase n Step.End = n == 4
has_phase n Step.Want = n == 1
has_phase n (Step.Undirty p) = (n == 0) || (n == 2)
has_phase n (Step.Black p v) = n == 2
has_phase n (Step.Unblack p) = (n == 0) || (n == 2)
-- kinds of any phase
has_phase n _ = true
