-- Two lists of a small heap along a cycle, as checked examples of the definitions: in one the caller is stopped from
-- before the `begin` on, and in the other it writes beside a marker.
use Rattle.mk_core.proofs.Vocabulary.{Bool, Config, Event, List, None, Op, Seat, Some, Step, Tally, To, Word, World}
use Rattle.mk_core.proofs.Vocabulary.{all_below, failing, false, first_world, map, may_turn_black, pointed_cell, refl}
use Rattle.mk_core.proofs.Vocabulary.{true, world_behind, [], ◌&&◌, ◌++◌, ◌==◌, ◌∷◌, ◌≡◌}
use Rattle.mk_never.specs.declared.types.Kind.TheVariants.{Num}

abbrev pub by : Seat → List Step → List Event
by s steps = map (λ (x : Step). record { seat = s; step = x }) steps

abbrev pub by_caller : List Step → List Event
by_caller steps = by (Seat.Caller 0) steps

abbrev pub by_marker : List Step → List Event
by_marker steps = by (Seat.Marker 0) steps

abbrev pub by_host : List Step → List Event
by_host steps = by Seat.Host steps

-- one page, and objects of a pointer to such an object and a number
abbrev pub small : Config
small = record { pages = 1; resident = 1; callers = 1; markers = 1; types = (To 0 0 ∷ Num ∷ []) ∷ []; globals = [] }

-- Three objects, of which register 0 holds the first and register 1 the second. The third is freed.
unfoldable pub three_objects : List Event
three_objects = by_caller (Step.Take (Some (Op.New 0 0 false)) ∷ Step.Head 0 1 ∷ Step.Used 0 1 ∷ Step.Grant ∷ Step.Tally
    Tally.Held 2 ∷ Step.Give ∷ []) ++ by_caller (Step.Take
    (Some (Op.New 1 0 false)) ∷ Step.Used 0 3 ∷ Step.Grant ∷ Step.Tally Tally.Held 4 ∷ Step.Give ∷ []) ++ by_caller
    (Step.Take (Some (Op.New 2 0 false)) ∷ Step.Used 0 7 ∷ Step.Grant ∷ Step.Tally Tally.Held 6 ∷ Step.Give ∷ []) ++
    by_caller (Step.Take (Some (Op.Free 2)) ∷ Step.Reg ∷ Step.Quar 0 4 ∷ Step.Tally Tally.Fresh 2 ∷ Step.Give ∷ []) ++
    by_caller (Step.Enter (Op.Clear 2) ∷ Step.Reg ∷ Step.Leave ∷ [])

-- A pointer to the second is written to the first, up to the `write`, and then from there on.
abbrev pub pointer_written : List Event
pointer_written = by_caller (Step.Enter (Op.SetPtr 0 0 1) ∷ Step.Reg ∷ Step.Reg ∷ Step.Probe ∷ Step.Write ∷ [])

abbrev pub page_dirtied : List Event
page_dirtied = by_caller (Step.Dirty ∷ Step.Leave ∷ [])

abbrev pub second_cleared : List Event
second_cleared = by_caller (Step.Enter (Op.Clear 1) ∷ Step.Reg ∷ Step.Leave ∷ [])

-- what releases the third, from the `close` on
abbrev pub third_released : List Event
third_released = by_host (Step.Close ∷ Step.Release ∷ Step.Used 0 3 ∷ Step.Quar 0 0 ∷ Step.Tally Tally.Held 4 ∷ Step.End
    ∷ Step.Open 0 ∷ Step.Give ∷ [])

-- The caller is stopped, and the snapshot is taken: a `begin` may come next.
unfoldable pub begun_in_stop : List Event
begun_in_stop = three_objects ++ pointer_written ++ page_dirtied ++ second_cleared
    ++ by_host (Step.Take None ∷ Step.Hold 0 ∷ Step.Quar 0 17179869188 ∷ Step.Tally Tally.Fresh 0 ∷ Step.Undirty 0 ∷ [])

unfoldable pub marked_in_stop : List Event
marked_in_stop = by_host (Step.Want ∷ Step.Look (Word.Reg 0 0) ∷ Step.Mark 0 1 ∷ Step.Look (Word.Heap 0) ∷ Step.Mark 0 2
    ∷ Step.Black 0 1 ∷ Step.Black 0 2 ∷ [])

abbrev pub stopped_cycle : List Event
stopped_cycle = begun_in_stop ++ record { seat = Seat.Host; step = Step.Begin } ∷ (marked_in_stop ++ third_released)

-- A cycle begins, and the first object is marked.
abbrev pub first_marked : List Event
first_marked = three_objects ++ by_host (Step.Take None ∷ Step.Hold 0 ∷ Step.Quar 0 17179869188 ∷ Step.Tally Tally.Fresh
    0 ∷ Step.Begin ∷ Step.Look (Word.Reg 0 0) ∷ Step.Mark 0 1 ∷ Step.Open 0 ∷ [])

-- A marker blackens it.
abbrev pub marker_in : List Event
marker_in = by_marker (Step.Attend ∷ Step.Mlook (Word.Head 0) ∷ Step.Claim 0 0 ∷ Step.Mload ∷ Step.Mload ∷ Step.Mblack
    ∷ [])

-- The stop then scans the dirty page again.
abbrev pub scanned_again : List Event
scanned_again =
    by_host (Step.Hold 0 ∷ Step.Want ∷ Step.Unblack 0 ∷ Step.Undirty 0 ∷ Step.Look (Word.Reg 0 0) ∷ Step.Mark 0 1 ∷
    Step.Look (Word.Heap 0) ∷ Step.Mark 0 2 ∷ Step.Black 0 1 ∷ Step.Black 0 2 ∷ [])

unfoldable pub written_beside : List Event
written_beside = first_marked ++ marker_in ++ by_marker (Step.Quit ∷ []) ++ pointer_written

unfoldable pub marked_beside : List Event
marked_beside = written_beside ++ page_dirtied ++ second_cleared ++ scanned_again

-- all events are enabled at their places
unfoldable pub all_enabled : Config → World → List Event → Bool
all_enabled c w [] = true
all_enabled c w (e ∷ es) = (failing c w.now e == 0) && all_enabled c (world_behind c w e) es

pub stopped_are_enabled : all_enabled small (first_world small) stopped_cycle ≡ true
unfolding all_enabled all_below pointed_cell may_turn_black begun_in_stop three_objects marked_in_stop
stopped_are_enabled = refl

pub beside_are_enabled : all_enabled small (first_world small) (marked_beside ++ third_released) ≡ true
unfolding all_enabled all_below pointed_cell may_turn_black marked_beside written_beside three_objects
beside_are_enabled = refl
