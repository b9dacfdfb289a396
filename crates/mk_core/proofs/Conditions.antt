-- What each condition says of an enabled event.
use Rattle.mk_core.proofs.Vocabulary.{Bool, Config, Event, IsEnabled, Moment, Seat, ℕ, and_parts, arith, if◌then◌else◌}
use Rattle.mk_core.proofs.Vocabulary.{refl, true, ◌≡◌}
use Rattle.mk_core.specs.{Enabled.EnabledEventsMeetAll, Enabled.MeetsAll, Enabled.marker_may, Moments.marker_of}

all_hold : (a b c d e f g : Bool) → ◌≡◌ {A = ℕ} (if a then (if b
    then (if c then (if d then (if e then (if f then (if g then 0 else 7) else 6) else 5) else 4) else 3) else 2)
    else 1) 0 → (a ≡ true) × (b ≡ true) × (c ≡ true) × (d ≡ true) × (e ≡ true) × (f ≡ true) × (g ≡ true)
all_hold x0 b c d e f g h = grind arith

pub enabled_meets : (c : Config) (m : Moment) (e : Event) → IsEnabled c m e → MeetsAll c m e
enabled_meets c m e h = grind (arith, all_hold, and_parts)

pub meets_enabled : (c : Config) (m : Moment) (e : Event) → MeetsAll c m e → IsEnabled c m e
meets_enabled c m e h = rw (h.seat, h.kind, h.order, h.range, h.gates, h.phase, h.marker, h.holder) refl

-- a marker's own condition
pub marker_meets : (c : Config) (m : Moment) (e : Event) (k : ℕ) → IsEnabled c m e → e.seat ≡ Seat.Marker k
    → marker_may c (marker_of m k) e.step ≡ true
marker_meets c m e k h is = cc (is, (enabled_meets c m e h).marker)

pub enabled_events_meet_all : EnabledEventsMeetAll
enabled_events_meet_all c m e = (enabled_meets c m e, meets_enabled c m e)
