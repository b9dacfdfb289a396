-- What the events of others leave to a marker that attends, and to the turn's holder, while a cycle marks.
use Rattle.std.specs.Prelude.{◌≡◌, ℕ, true, List, [], ◌∷◌, ◌++◌}
use Rattle.mk_core.specs.declared.{config.Config.Config, events.{Event.Event, Seat.Seat}}
use Rattle.mk_core.specs.{Moments.IsWithinLimits, Cells.points_well, Readings.Holds, History.AreOfOthers}
use Rattle.mk_core.specs.{Frames.{Attends, HeadersAreLeft}, History.{left, AreEnabled}}
use Rattle.mk_laws.proofs.Kept.{GuardPremisesFrom}

-- A marker that attends finds no header taken back, each cell that a header showed, and what points well still does.
abbrev pub OthersLeaveHeaders : Type 0
OthersLeaveHeaders =
    (c : Config) (es more : List Event) (s : Seat) → IsWithinLimits c → AreEnabled c (es ++ more)
    → AreOfOthers (s ∷ []) more
    → GuardPremisesFrom c (left c es) more → Attends (left c es).now s
    → HeadersAreLeft c (left c es) (left c (es ++ more))

-- What points well still does for the turn's holder, whatever the layout says.
abbrev pub OthersLeaveWells : Type 0
OthersLeaveWells =
    (c : Config) (es more : List Event) (s : Seat) → IsWithinLimits c → AreEnabled c (es ++ more)
    → AreOfOthers (s ∷ []) more
    → Holds c (left c es).now s
    → (u : ℕ) → points_well c.pages (left c es).now.words u ≡ true
    → points_well c.pages (left c (es ++ more)).now.words u ≡ true
