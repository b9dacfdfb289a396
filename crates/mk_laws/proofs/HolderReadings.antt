-- What a look at the turn, at a gate and at the phase says.
use Rattle.std.specs.Prelude.{List}
use Rattle.mk_core.specs.{declared.{config.Config.Config, events.Event.Event}, Moments.IsWithinLimits}
use Rattle.mk_core.{proofs.WhoHoldsWhat.WordsTellWhoHoldsWhat, specs.History.AreEnabled}

-- So it is after every enabled list within limits, whether its calls are admitted or not.
abbrev pub WordsTell : Type 0
WordsTell = (c : Config) (es : List Event) → IsWithinLimits c → AreEnabled c es → WordsTellWhoHoldsWhat c es
