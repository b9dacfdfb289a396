-- The invariant holds at first, events keep it, and what it says that is no promise of its own.
use Rattle.std.specs.{Prelude.{◌≡◌, ℕ, false, List, [], ◌∷◌, ◌++◌, true}, List.list_any}
use Rattle.mk_core.specs.{declared.{config.Config.Config, events.Event.Event}, Allocations.placed_at}
use Rattle.mk_core.specs.{Cycles.MarksAreClosed, History.{IsHistory, first_world, left, never_behind}}
use Rattle.mk_core.specs.{History.never_first, Words.phase_of, Cycles.{At, is_begin, is_quarantined}}
use Rattle.mk_laws.proofs.{Quarantine.{has_bit_of, is_cycling}, Room.HasHeaderWords, Invariant.Invariant}

-- The invariant holds before any event,
abbrev pub InvariantAtFirst : Type 0
InvariantAtFirst = (c : Config) → Invariant c (first_world c) (never_first c)

-- and one event of a history keeps it.
abbrev pub EventsKeepTheInvariant : Type 0
EventsKeepTheInvariant =
    (c : Config) (es : List Event) (e : Event) → IsHistory c (es ++ e ∷ [])
    → Invariant c (left c es) (never_behind c es) → Invariant c (left c (es ++ e ∷ [])) (never_behind c (es ++ e ∷ []))

-- The invariant holds after these events.
abbrev pub KeepsTheInvariant : Config → List Event → Type 0
KeepsTheInvariant c es = Invariant c (left c es) (never_behind c es)

-- The marks stay closed up to the `release`.
abbrev pub MarksStayClosed : Config → List Event → Type 0
MarksStayClosed c es = phase_of (left c es).now.words ≡ 3 → MarksAreClosed c (left c es)

-- Each page has a header word.
abbrev pub PagesHaveHeaderWords : Config → List Event → Type 0
PagesHaveHeaderWords c es = HasHeaderWords (left c es)

-- From the last `begin` up to its `end`, an unreleased allocation's snapshot bit says whether it was freed before it.
abbrev pub SnapshotIsTheCycles : Config → List Event → Type 0
SnapshotIsTheCycles c es =
    (begin : At is_begin es) → list_any (λ (e : Event). is_begin e.step) begin.behind ≡ false
    → is_cycling (phase_of (left c es).now.words) ≡ true → (i : ℕ)
    → (placed_at (left c es).allocations i).released ≡ false
    → has_bit_of c (left c es).now.words.snapshot (placed_at (left c es).allocations i)
    ≡ is_quarantined (placed_at (left c begin.before).allocations i)
