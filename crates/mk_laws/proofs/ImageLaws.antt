-- What holds of all histories, if the rest of the invariant holds after each front of them.
use Rattle.std.specs.Prelude.{◌≡◌, ℕ, false, List, ◌++◌}
use Rattle.mk_never.specs.Laws.{IsReachable}
use Rattle.mk_core.specs.{declared.{config.Config.Config, events.Event.Event}, Allocations.placed_at}
use Rattle.mk_core.specs.{History.{left, never_behind, IsHistory, RefinesNever}, HistoryLaws.ExchangesCompareValues}
use Rattle.mk_laws.proofs.{ImagePremises.ImagePremises, Mirrors.Mirrors}

-- The layout, the quarantine, the zero words and the marks are as they should be after each front.
abbrev pub ImagePremisesAlong : Config → List Event → Type 0
ImagePremisesAlong c es = (front rest : List Event) → front ++ rest ≡ es → ImagePremises c (left c front)

-- All answers are the images of the replies.
abbrev pub HistoriesRefineNever : Type 0
HistoriesRefineNever = (c : Config) (es : List Event) → IsHistory c es → ImagePremisesAlong c es → RefinesNever c es

-- What words show is the image of the heap that never reuses storage.
abbrev pub HistoriesMirrorNever : Type 0
HistoriesMirrorNever = (c : Config) (es : List Event) → IsHistory c es → ImagePremisesAlong c es
    → Mirrors c (left c es) (never_behind c es)

-- What a program can get to isn't released.
abbrev pub ReachedIsUnreleased : Type 0
ReachedIsUnreleased =
    (c : Config) (es : List Event) → IsHistory c es → ImagePremisesAlong c es
    → (number : ℕ) → IsReachable (never_behind c es) number
    → (placed_at (left c es).allocations number).released ≡ false

-- A compare and exchange compares values, not addresses that were used before.
abbrev pub HistoriesCompareValues : Type 0
HistoriesCompareValues = (c : Config) (es : List Event) → IsHistory c es → ImagePremisesAlong c es
    → ExchangesCompareValues c es
