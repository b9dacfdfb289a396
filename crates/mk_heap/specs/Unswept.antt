-- Runs whose engine doesn't sweep: no mark of theirs is a sweeping one.
use Rattle.std.specs.Prelude.{List}
use Rattle.mk_core.specs.{declared.{config.Config.Config, events.Event.Event}, Cycles.NoneSweepsFrom}
use Rattle.mk_core.specs.{History.first_world, declared.events.Seat.Seat}
use Rattle.mk_alloc.specs.Below.Words.Sweeping.{SweepsNothingFrom}

-- No event of the history is a sweeping mark.
abbrev pub IsUnswept : Config → List Event → Type 0
IsUnswept c es = NoneSweepsFrom c (first_world c) es

-- The seat's steps of the history make no sweeping mark.
abbrev pub SeatSweepsNothing : Config → Seat → List Event → Type 0
SeatSweepsNothing c s es = SweepsNothingFrom c s (first_world c) es
