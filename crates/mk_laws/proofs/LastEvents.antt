-- What is known of the last event of a history, and of what it leaves.
use Rattle.mk_laws.proofs.Vocabulary.{AreAdmitted, AreEnabledFrom, Config, Event, Invariant, IsEnabled}
use Rattle.mk_laws.proofs.Vocabulary.{IsHistory, List, admitted_in_parts, append-nil, asked, call_decided}
use Rattle.mk_laws.proofs.Vocabulary.{calls_from, enabled_in_parts, left}
use Rattle.mk_laws.proofs.Vocabulary.{left_from, never_behind, [], ◌++◌}
use Rattle.mk_laws.proofs.{Vocabulary.{◌∷◌, ◌≡◌}, Basics.{KnownWorld, known_world}}
use Rattle.mk_laws.proofs.InvariantHistories.{histories_keep_the_invariant}
pub use Rattle.mk_laws.proofs.InvariantHistories.{ComesLast, comes_last}

-- A history with what is known of its world.
pub record Stands (c : Config) (es : List Event) : Type 0 where
  pub known : KnownWorld c (left c es)
  pub all : Invariant c (left c es) (never_behind c es)

pub stands : (c : Config) (es : List Event) → IsHistory c es → Stands c es
stands c es h = record { known = known_world c es h.within_limits h.enabled; all = histories_keep_the_invariant c es h }

-- And the other way: a history goes on by an event that is enabled and admitted.
pub goes_on_by : (c : Config) (es : List Event) (e : Event) → IsHistory c es → IsEnabled c (left c es).now e
    → AreAdmitted c.globals (never_behind c es) (asked (call_decided c (left c es).now e)) → IsHistory c (es ++ e ∷ [])
unfolding left_from AreEnabledFrom calls_from
goes_on_by c es e h on admitted =
    let one : asked (call_decided c (left c es).now e ++ []) ≡ asked (call_decided c (left c es).now e) =
    rw (append-nil _) in
    record {
      within_limits = h.within_limits;
      enabled = (enabled_in_parts c es (e ∷ [])).1 (h.enabled, (on, tt));
      admitted = (admitted_in_parts c es (e ∷ [])).1 (h.admitted, rw one admitted);
    }
