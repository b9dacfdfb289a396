-- While a Free's run isn't unmapped and wiped, the gates of all others are held.
use Rattle.std.specs.Prelude.{false, slice_index, ℕ, ◌+◌, ◌<◌, ◌≡◌, ◌≢◌}
use Rattle.mk_core.specs.{declared.config.Config.Config, History.World, NewPlaces.is_run_gone}

-- While a freed run is being unmapped all other gates are held.
abbrev pub HoldsRunGates : Config → World → Type 0
HoldsRunGates c w =
    is_run_gone w.now.words w.now.seats.holding.freed ≡ false → (k : ℕ) → k < c.callers → w.now.words.turn ≢ 1 + k
    → slice_index w.now.words.gates k ≡ 2
