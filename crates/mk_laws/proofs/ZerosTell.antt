-- What the zero words tell the images and the guard, and what the images tell the zero words, each in its own terms.
use Rattle.std.specs.Prelude.{◌≢◌, ℕ, slice_index, List}
use Rattle.mk_never.specs.{NeverHeap.NeverState, Admitted.AreAdmitted}
use Rattle.mk_core.specs.{declared.{config.Config.Config, events.Event.Event}, Moments.IsWithinLimits}
use Rattle.mk_core.specs.{Enabled.IsEnabled, Calls.asked, History.{World, left, AreEnabled, call_decided}}
use Rattle.mk_laws.proofs.{Terrain.LayoutStands, ImagePremises.MayHoldWords, ImagesSay.ImagesSay, Zeros.HasZeros}
use Rattle.mk_laws.proofs.ZeroLaws.{ZeroPremises}
use Rattle.mk_laws.proofs.Kept as guard

-- A word that isn't 0 is one that may hold a value, as the images say it.
abbrev pub ZerosTellTheImages : Type 0
ZerosTellTheImages = (c : Config) (w : World) → HasZeros c w → (n : ℕ) → slice_index w.now.words.heap n ≢ 0
    → MayHoldWords c w n

-- With the layout, the zero words say all that the guard asks of a world.
abbrev pub ZerosTellTheGuard : Type 0
ZerosTellTheGuard =
    (c : Config) (es : List Event) → IsWithinLimits c → AreEnabled c es → LayoutStands c (left c es)
    → HasZeros c (left c es)
    → guard.GuardPremises c (left c es)

-- With the layout, the images say all that the zero words ask before an event that is enabled and admitted.
abbrev pub ImagesTellTheZeros : Type 0
ImagesTellTheZeros =
    (c : Config) (w : World) (n : NeverState) (e : Event) → LayoutStands c w → ImagesSay c w n
    → IsEnabled c w.now e → AreAdmitted c.globals n (asked (call_decided c w.now e)) → ZeroPremises c w e
