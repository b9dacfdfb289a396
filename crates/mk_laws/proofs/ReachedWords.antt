-- Which word an enabled event reaches, and how.
use Rattle.std.specs.Prelude.{◌≡◌, List, [], ◌∷◌, ◌++◌}
use Rattle.mk_core.specs.{declared.{config.Config.Config, events.Event.Event}, Moments.IsWithinLimits}
use Rattle.mk_core.specs.{Layout.IsOfTable, Accesses.{word_accessed, access}, History.{left, AreEnabled}}
use Rattle.mk_core.specs.History.{IsEnabledBehind, AreOfOthers}

-- The word is one of the table,
abbrev pub EventsReachTheTable : Type 0
EventsReachTheTable =
    (c : Config) (es : List Event) (e : Event) → IsWithinLimits c → AreEnabled c es → IsEnabledBehind c es e
    → IsOfTable c.pages (word_accessed c (left c es).now e)

-- What an event reaches after the one list, it reaches after the other, and in the same way.
pub record ReachesTheSame (c : Config) (es fs : List Event) (e : Event) : Type 0 where
  pub word : word_accessed c (left c fs).now e ≡ word_accessed c (left c es).now e
  pub access : access c (left c fs).now e ≡ access c (left c es).now e

-- whatever other seats do before it.
abbrev pub OthersLeaveAccesses : Type 0
OthersLeaveAccesses =
    (c : Config) (es more : List Event) (e : Event) → IsWithinLimits c → AreEnabled c (es ++ more)
    → AreOfOthers (e.seat ∷ []) more
    → IsEnabledBehind c es e → ReachesTheSame c es (es ++ more) e
