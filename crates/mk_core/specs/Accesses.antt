-- Which word each event reaches, and how.
use Rattle.std.specs.Prelude.{ℕ, ◌+◌, ◌^◌, Option, Some, None, ◌%◌}
use Rattle.mk_geom.specs.{declared.addresses.Cell.Cell, Addresses.address_of}
use Rattle.mk_core.specs.{Words.bit_for, Calls.{q_of, p_of, r_of, d_of, g_of, word_met, page_met, value_for}}
use Rattle.mk_core.specs.{Calls.value_written, MarkingConditions.cell_seen, Moments.{Moment, flight_of, marker_at}}
use Rattle.mk_core.specs.{Moments.holder_number, NewPlaces.{object_made, base_made}, Words.word_in}
use Rattle.mk_core.specs.declared.accesses.Access.{Access, TheVariants.{Load, Store, Exchange}}
use Rattle.mk_core.specs.declared.accesses.{Access.TheVariants.{Or, Add, Sub}, TableWord.TableWord}
use Rattle.mk_core.specs.declared.{accesses.TableWord.TheVariants.{Turn, Named}, config.Config.Config}
use Rattle.mk_core.specs.declared.events.{Event.Event, Seat.Seat, Step.Step}
use Rattle.mk_core.specs.declared.{events.{Tally.Tally, Word.Word}, seats.Flight.Flight}
use Rattle.mk_core.specs.declared.seats.{Marker.Marker, Placing.Placing}
use Rattle.mk_core.specs.declared.seats.{Placing.TheVariants.Used, Scan.Scan, Stage.Stage}

-- the number of a caller's seat
abbrev pub caller_number : Seat → ℕ
caller_number (Seat.Caller k) = k
caller_number _ = 0

-- the register of a `reg` step, by the stage of the call
abbrev pub register_met : Flight → Stage → ℕ
register_met f Stage.LoadQ = q_of f.op
register_met f Stage.LoadP = p_of f.op
register_met f Stage.LoadR = r_of f.op
register_met f _ = d_of f.op

-- how `reg` reaches a register at this stage of a call
abbrev pub reg_access : Flight → Stage → Access
reg_access f Stage.Store = Store (value_for f f.op)
reg_access f Stage.Put = Store f.loaded
reg_access f _ = Load

-- the word of a tally
abbrev pub tally_word : Tally → Word
tally_word Tally.Held = Word.Held
tally_word Tally.Fresh = Word.Fresh
tally_word Tally.Cycles = Word.Cycles
tally_word Tally.Released = Word.Released
tally_word Tally.Full = Word.Full

-- the first heap word of the object that is granted
abbrev pub granted_base : Config → Flight → Placing → ℕ
granted_base c f (Used place) = base_made (object_made c f.op) place
granted_base c f _ = 0

-- the heap word that a scan loads next
abbrev pub next_word : Option Scan → ℕ
next_word (Some scan) = scan.next
next_word None = 0

-- the page that is scanned
abbrev pub scan_page : Option Scan → ℕ
scan_page (Some scan) = scan.page
scan_page None = 0

-- the bit of the cell that is scanned
abbrev pub scan_bit : Option Scan → ℕ
scan_bit (Some scan) = bit_for scan.index
scan_bit None = 0

-- the page of the cell that a marker is to mark
abbrev pub seen_page : Option Cell → ℕ
seen_page (Some cell) = cell.page
seen_page None = 0

-- the bit of that cell
abbrev pub seen_bit : Option Cell → ℕ
seen_bit (Some cell) = bit_for cell.index
seen_bit None = 0

-- the word, if the seat is number k among the callers or markers, f is its call and x what it is at as a marker
abbrev pub word_reached : Config → ℕ → Flight → Marker → Step → TableWord
word_reached c k f x (Step.Enter o) = Named (Word.Gate k)
word_reached c k f x Step.Leave = Named (Word.Gate k)
word_reached c k f x Step.Reg = Named (Word.Reg k (register_met f f.stage))
word_reached c k f x Step.Probe = Named (Word.Head (page_met f))
word_reached c k f x Step.Read = Named (Word.Heap (word_met f))
word_reached c k f x Step.Write = Named (Word.Heap (word_met f))
word_reached c k f x Step.Cas = Named (Word.Heap (word_met f))
word_reached c k f x Step.Getg = Named (Word.Global (g_of f.op))
word_reached c k f x Step.Setg = Named (Word.Global (g_of f.op))
word_reached c k f x Step.Dirty = Named (Word.Dirty (page_met f))
word_reached c k f x (Step.Take o) = Turn
word_reached c k f x Step.Give = Turn
word_reached c k f x (Step.Look w) = Named w
word_reached c k f x (Step.Head p v) = Named (Word.Head p)
word_reached c k f x (Step.Used p v) = Named (Word.Used p)
word_reached c k f x (Step.Quar p v) = Named (Word.Quar p)
word_reached c k f x Step.Grant = Named (Word.Reg k (d_of f.op))
word_reached c k f x (Step.Tally n v) = Named (tally_word n)
word_reached c k f x (Step.Hold j) = Named (Word.Gate j)
word_reached c k f x (Step.Open j) = Named (Word.Gate j)
word_reached c k f x (Step.Clear p) = Named (Word.Mark p)
word_reached c k f x (Step.Mark p v) = Named (Word.Mark p)
word_reached c k f x (Step.Wipe n) = Named (Word.Heap n)
word_reached c k f x Step.Full = Turn
word_reached c k f x Step.Begin = Named Word.Phase
word_reached c k f x Step.Close = Named Word.Phase
word_reached c k f x Step.Release = Named Word.Phase
word_reached c k f x Step.End = Named Word.Phase
word_reached c k f x Step.Want = Named Word.Phase
word_reached c k f x (Step.Undirty p) = Named (Word.Dirty p)
word_reached c k f x (Step.Black p v) = Named (Word.Black p)
word_reached c k f x (Step.Unblack p) = Named (Word.Black p)
word_reached c k f x Step.Attend = Named Word.Phase
word_reached c k f x Step.Quit = Named Word.Phase
word_reached c k f x (Step.Mlook w) = Named w
word_reached c k f x (Step.Claim p i) = Named (Word.Mark p)
word_reached c k f x Step.Mload = Named (Word.Heap (next_word x.scan))
word_reached c k f x Step.Mmark = Named (Word.Mark (seen_page (cell_seen c x.seen x.hand)))
word_reached c k f x Step.Mblack = Named (Word.Black (scan_page x.scan))
word_reached c k f x Step.Over = Named Word.Phase

-- the access, if the seat takes the turn by this number and its New is so far
abbrev pub access_by : Config → ℕ → Flight → Placing → Marker → Step → Access
access_by c n f placing x (Step.Enter o) = Exchange 0 1
access_by c n f placing x Step.Leave = Store 0
access_by c n f placing x Step.Reg = reg_access f f.stage
access_by c n f placing x Step.Write = Store (value_written f f.op)
access_by c n f placing x Step.Cas = Exchange f.p f.r
access_by c n f placing x Step.Setg = Store f.p
access_by c n f placing x Step.Dirty = Store 1
access_by c n f placing x (Step.Take o) = Exchange 0 (1 + n)
access_by c n f placing x Step.Give = Store 0
access_by c n f placing x (Step.Head p v) = Store v
access_by c n f placing x (Step.Used p v) = Store v
access_by c n f placing x (Step.Quar p v) = Store v
access_by c n f placing x Step.Grant = Store (address_of (granted_base c f placing) % 2 ^ 64)
access_by c n f placing x (Step.Tally t v) = Store v
access_by c n f placing x (Step.Hold j) = Exchange 0 2
access_by c n f placing x (Step.Open j) = Store 0
access_by c n f placing x (Step.Clear p) = Store 0
access_by c n f placing x (Step.Mark p v) = Or v
access_by c n f placing x (Step.Wipe w) = Store 0
access_by c n f placing x Step.Begin = Add 1
access_by c n f placing x Step.Close = Add 1
access_by c n f placing x Step.Release = Add 1
access_by c n f placing x Step.End = Sub 4
access_by c n f placing x Step.Want = Add 1
access_by c n f placing x (Step.Undirty p) = Store 0
access_by c n f placing x (Step.Black p v) = Or v
access_by c n f placing x (Step.Unblack p) = Store 0
access_by c n f placing x Step.Attend = Add 8
access_by c n f placing x Step.Quit = Sub 8
access_by c n f placing x Step.Mmark = Or (seen_bit (cell_seen c x.seen x.hand))
access_by c n f placing x Step.Mblack = Or (scan_bit x.scan)
access_by c n f placing x Step.Over = Add 5
access_by c n f placing x _ = Load

-- the word that the event accesses
abbrev pub word_accessed : Config → Moment → Event → TableWord
word_accessed c m e = word_reached c (caller_number e.seat) (flight_of m e.seat) (marker_at m e.seat) e.step

-- how the event accesses it
abbrev pub access : Config → Moment → Event → Access
access c m e =
    access_by c (holder_number c e.seat) (flight_of m e.seat) m.seats.holding.placing (marker_at m e.seat) e.step

-- what the access finds
abbrev pub found : Config → Moment → Event → ℕ
found c m e = word_in m.words (word_accessed c m e)
