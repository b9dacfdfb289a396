-- Schedules as checked examples of the definitions.
use Rattle.mk_core.proofs.Vocabulary.{Answer, Config, Event, List, None, Op, Option, Seat, Some, Step, Tally, To, Word}
use Rattle.mk_core.proofs.Vocabulary.{World, ℕ, all_below, answered, calls, calls_from, failing, false, first_world}
use Rattle.mk_core.proofs.Vocabulary.{if◌then◌else◌, left_from, map, may_turn_black, pointed_cell, refl, replicate}
use Rattle.mk_core.proofs.Vocabulary.{world_behind, [], ◌++◌, ◌+◌, ◌==◌, ◌∷◌, ◌≡◌}
use Rattle.mk_never.specs.{declared.types.Kind.Kind, declared.types.Kind.TheVariants.Num}

unfoldable pub by : Seat → List Step → List Event
by s steps = map (λ (x : Step). record { seat = s; step = x }) steps

unfoldable pub c0 : Seat
c0 = Seat.Caller 0

unfoldable pub m0 : Seat
m0 = Seat.Marker 0

unfoldable pub host : Seat
host = Seat.Host

-- the first condition that fails along the events, and how many events stand before it
unfoldable pub fault : Config → ℕ → World → List Event → Option (ℕ × ℕ)
fault c n w [] = None
fault c n w (e ∷ es) =
    if failing c w.now e == 0 then fault c (n + 1) (world_behind c w e) es else Some (n, failing c w.now e)

unfoldable pub first_fault : Config → List Event → Option (ℕ × ℕ)
first_fault c es = fault c 0 (first_world c) es

-- a heap of this many pages, all of them resident, with no markers and no globals
abbrev pub heap_of : (pages callers : ℕ) → List (List Kind) → Config
heap_of pages callers types =
    record { pages = pages; resident = pages; callers = callers; markers = 0; types = types; globals = [] }

-- An object is granted, on a page that gets a header word for it, or beside others on page 0, with the used word then.
abbrev pub carved : (d ty page header held : ℕ) → List Event
carved d ty page header held =
    by c0 (Step.Take (Some (Op.New d ty false)) ∷ Step.Head page header ∷ Step.Used page 1 ∷ Step.Grant
    ∷ Step.Tally Tally.Held held ∷ Step.Give ∷ [])

abbrev pub granted : (d used held : ℕ) → List Event
granted d used held =
    by c0 (Step.Take (Some (Op.New d 0 false)) ∷ Step.Used 0 used ∷ Step.Grant ∷ Step.Tally Tally.Held held
    ∷ Step.Give ∷ [])

-- One is freed, with its page's quarantine word and the fresh words then.
abbrev pub freed : (p page quarantine fresh : ℕ) → List Event
freed p page quarantine fresh =
    by c0 (Step.Take (Some (Op.Free p)) ∷ Step.Reg ∷ Step.Quar page quarantine ∷ Step.Tally Tally.Fresh fresh
    ∷ Step.Give ∷ [])

abbrev pub cleared : (d : ℕ) → List Event
cleared d = by c0 (Step.Enter (Op.Clear d) ∷ Step.Reg ∷ Step.Leave ∷ [])

abbrev pub pointer_set : (q i p : ℕ) → List Event
pointer_set q i p =
    by c0 (Step.Enter (Op.SetPtr q i p) ∷ Step.Reg ∷ Step.Reg ∷ Step.Probe ∷ Step.Write ∷ Step.Dirty ∷ Step.Leave ∷ [])

unfoldable pub one_page : Config
one_page = heap_of 1 1 (replicate 32 Num ∷ [])

-- Two objects are freed, one before a cycle begins and one after its begin. It releases only the first.
unfoldable pub freed_after_begin : List Event
freed_after_begin = carved 0 0 0 125 32 ++ granted 1 3 64 ++ by c0 (Step.Take (Some (Op.Free 0)) ∷ Step.Reg ∷ Step.Quar
    0 1 ∷ Step.Quar 0 4294967297 ∷ Step.Begin ∷ Step.Give ∷ []) ++ freed 1 0 4294967299 32 ++ cleared 0 ++ cleared 1 ++
    by host (Step.Take None ∷ Step.Hold 0 ∷ Step.Want ∷ Step.Close ∷ Step.Release ∷ []) ++ by host
    (Step.Used 0 2 ∷ Step.Quar 0 2 ∷ Step.Tally Tally.Held 32 ∷ Step.End ∷ Step.Open 0 ∷ Step.Give ∷ []) ++ by c0
    (Step.Take (Some (Op.New 2 0 false)) ∷ Step.Quar 0 8589934594 ∷ Step.Tally Tally.Fresh 0 ∷ Step.Begin ∷ Step.Want ∷
    Step.Close ∷ Step.Release ∷ Step.Used 0 0 ∷ Step.Quar 0 0 ∷ Step.Head 0 0 ∷ Step.Tally Tally.Held 0 ∷ Step.End ∷
    Step.Head 0 125 ∷ Step.Used 0 1 ∷ Step.Grant ∷ Step.Tally Tally.Held 32 ∷ Step.Give ∷ []) ++ by c0
    (Step.Enter (Op.IsNull 2) ∷ Step.Reg ∷ Step.Leave ∷ [])

pub no_fault_freed : first_fault one_page freed_after_begin ≡ None
unfolding first_fault fault by c0 host all_below pointed_cell one_page freed_after_begin
no_fault_freed = refl

pub answers_freed : answered (calls one_page freed_after_begin) ≡ replicate 7 Answer.Done ++ Answer.Num 0 ∷ []
unfolding by c0 host all_below pointed_cell one_page freed_after_begin left_from calls_from
answers_freed = refl

unfoldable pub pointer_page : Config
pointer_page = heap_of 1 1 ((To 0 0 ∷ Num ∷ []) ∷ [])

-- A marker blackens an object, and then a pointer to a freed object moves into it. The dirty page is scanned again.
unfoldable pub blackened_before_the_move : List Event
blackened_before_the_move = carved 0 0 0 1 2 ++ granted 1 3 4 ++ granted 2 7 6 ++ pointer_set 1 0 2
    ++ by c0 (Step.Enter (Op.SetNum 2 1 7) ∷ Step.Reg ∷ Step.Probe ∷ Step.Write ∷ Step.Dirty ∷ Step.Leave ∷ [])
    ++ by c0 (Step.Take (Some (Op.Free 2)) ∷ Step.Reg ∷ Step.Quar 0 4 ∷ Step.Undirty 0 ∷ Step.Quar 0 17179869188
    ∷ Step.Begin ∷ Step.Look (Word.Reg 0 0) ∷ Step.Mark 0 1 ∷ Step.Give ∷ []) ++ cleared 2
    ++ by m0 (Step.Attend ∷ Step.Mlook (Word.Head 0) ∷ Step.Claim 0 0 ∷ Step.Mload ∷ Step.Mload ∷ Step.Mblack
    ∷ Step.Quit ∷ [])
    ++ by c0 (Step.Enter (Op.GetPtr 2 1 0) ∷ Step.Reg ∷ Step.Probe ∷ Step.Read ∷ Step.Reg ∷ Step.Leave ∷ [])
    ++ pointer_set 0 0 2 ++ pointer_set 1 0 3 ++ cleared 2
    ++ by host (Step.Take None ∷ Step.Hold 0 ∷ Step.Want ∷ Step.Unblack 0 ∷ Step.Undirty 0
    ∷ Step.Look (Word.Reg 0 0) ∷ Step.Mark 0 1 ∷ Step.Look (Word.Reg 0 1) ∷ Step.Mark 0 2 ∷ [])
    ++ by host (Step.Look (Word.Heap 0) ∷ Step.Mark 0 4 ∷ Step.Black 0 1 ∷ Step.Black 0 2 ∷ Step.Black 0 4
    ∷ Step.Close ∷ Step.Release ∷ Step.End ∷ Step.Open 0 ∷ Step.Give ∷ [])
    ++ by c0 (Step.Enter (Op.GetPtr 2 0 0) ∷ Step.Reg ∷ Step.Probe ∷ Step.Read ∷ Step.Reg ∷ Step.Leave ∷ [])
    ++ by c0 (Step.Enter (Op.GetNum 2 1) ∷ Step.Reg ∷ Step.Probe ∷ Step.Read ∷ Step.Leave ∷ [])

pub no_fault_blackened : first_fault pointer_page blackened_before_the_move ≡ None
unfolding first_fault fault by c0 m0 host all_below pointed_cell may_turn_black pointer_page blackened_before_the_move
no_fault_blackened = refl
