-- What is in quarantine where no cycle is on: what was freed since the last `begin`, or what the last cycle kept.
use Rattle.mk_caller.proofs.Below.Laws.Vocabulary.{AreEnabledFrom, Releasing, Words, enabled_parts, freed_released}
use Rattle.mk_caller.proofs.Below.Laws.Vocabulary.{left_append, not-true, through_release}
use Rattle.mk_caller.proofs.Below.Laws.CyclePhases.{begin_is, close_is, moves_phase, phases_go_on, release_is}
use Rattle.mk_caller.proofs.Below.Laws.Ground.{allocation_step, goes_on}
use Rattle.mk_caller.proofs.Below.Laws.{PrecisionStopped.keeps_only_the_touched, ProtocolStepKinds.end_is}
use Rattle.mk_caller.proofs.Below.Laws.{Stretches.at_release, UnmappedRuns.unmapped_runs_take_no_memory}
use Rattle.mk_alloc.proofs.QuarantineVocabulary.{AsksPhase, At, Bool, Cell, Config, Event, IsHistory, IsKeptByLastCycle}
use Rattle.mk_alloc.proofs.QuarantineVocabulary.{Lacks, List, Next, OfHistories, Option, PlacedAllocation, Seat, Step}
use Rattle.mk_alloc.proofs.QuarantineVocabulary.{World, WorldBehind, ℕ, and_parts, ap, append-nil, append_assoc, arith}
use Rattle.mk_alloc.proofs.QuarantineVocabulary.{cases_Bool, cases_eq, cases_lt, changed_at, earlier_at, false}
use Rattle.mk_alloc.proofs.QuarantineVocabulary.{false_from_ne_true, first_world, flight_of, freed_leaves}
use Rattle.mk_alloc.proofs.QuarantineVocabulary.{freed_where_it_stands, get_or_past, has_step, inl, inr, is_begin}
use Rattle.mk_alloc.proofs.QuarantineVocabulary.{is_close, is_end, is_quarantined, is_release, known_left, left}
use Rattle.mk_alloc.proofs.QuarantineVocabulary.{left_in_parts, length, length-append, never_granted, not, or_parts}
use Rattle.mk_alloc.proofs.QuarantineVocabulary.{phase_behind, phase_of, placed_at, refl, subst, sym, true, true≢false}
use Rattle.mk_alloc.proofs.QuarantineVocabulary.{world_behind, [], ◌++◌, ◌<◌, ◌∙◌, ◌∷◌, ◌≡◌, ◌⊎◌}
use Rattle.mk_alloc.proofs.{HeldTurns.{Last, last_of, next_of}, ListParts.lacks_second}
use Rattle.mk_alloc.specs.Bounds.{KeptAreTouched, QuarantineIsFreshOrKept, FreedRunsTakeNoMemory}
use Rattle.mk_core.{proofs.ChangedAllocations.{granted_at}, specs.{Cycles.before_begin, History.left_from}}

-- Where the turn is free, a freed large allocation takes no memory: no Free is unmapping a run.

pub freed_runs_take_no_memory : {c : Config} {es : List Event} → IsHistory c es → (left c es).now.words.turn ≡ 0
    → FreedRunsTakeNoMemory c es
freed_runs_take_no_memory {c} {es} h free number page unreleased freed word =
    let nothing = (known_left c es h.within_limits h.enabled).orderly.free free in
    unmapped_runs_take_no_memory c es h es [] page (sym (append-nil es)) (record {
      number = number;
      unreleased = unreleased;
      freed = freed;
      page = word;
      unmapped = λ run is same. absurd (cc);
    }) refl

-- What the last cycle kept is touched: released allocations stay so, so it was kept at the cycle's `release`.

-- The allocation was granted.
abbrev IsThere : World → ℕ → Type 0
IsThere w i = i < length w.allocations

there_behind : (c : Config) (w : World) (seat : Seat) (x : Step) (i : ℕ) → IsThere w i
    → IsThere (WorldBehind c w seat x) i
there_behind c w seat x i there = (goes_on w.allocations _ x i
    (allocation_step c w.now (flight_of w.now seat) x w.allocations) there).there

there_from : (c : Config) (w : World) (es : List Event) (i : ℕ) → IsThere w i → IsThere (left_from c w es) i
unfolding left_from
there_from c w [] i there = there
there_from c w (e ∷ es) i there = there_from c (world_behind c w e) es i (there_behind c w e.seat e.step i there)

-- One that is released stays so.
abbrev IsReleased : World → ℕ → Type 0
IsReleased w i = (placed_at w.allocations i).released ≡ true

released_from : (c : Config) (w : World) (es : List Event) (i : ℕ) → IsThere w i → IsReleased w i
    → IsReleased (left_from c w es) i
unfolding left_from
released_from c w [] i there is = is
released_from c w (e ∷ es) i there is =
    released_from c (world_behind c w e) es i (there_behind c w e.seat e.step i there)
    (grind (arith, earlier_at, changed_at, freed_leaves, freed_released))

-- What is in quarantine was granted.
quarantined_is_there : (w : World) (i : ℕ) → is_quarantined (placed_at w.allocations i) ≡ true → IsThere w i
quarantined_is_there w i h = grind (arith, cases_lt, get_or_past)

module _ (c : Config) {es : List Event} (r : Releasing es) (i : ℕ)
    (snapshot : is_quarantined (placed_at (left c (before_begin r.marking)).allocations i) ≡ true) where
  there_at_release : IsThere (left c (through_release r)) i
  there_at_release = search (append_assoc, left_in_parts, there_from, quarantined_is_there)

  -- Released at the `release`, it is so in the end.
  released_in_the_end : IsReleased (left c (through_release r)) i → IsReleased (left c es) i
  released_in_the_end released =
      let whole : es ≡ through_release r ++ r.release.at.behind = grind (arith, at_release, append_assoc) in
      grind (arith, left_in_parts, released_from, there_at_release)

pub kept_are_touched : OfHistories KeptAreTouched
kept_are_touched c es h i k unswept =
    let r : Releasing es = k.cycle.releasing in
    keeps_only_the_touched c es h r unswept i k.snapshot (false_from_ne_true (placed_at (left c _).allocations
    i).released (λ released. true≢false (sym (released_in_the_end c r i k.snapshot released) ∙ k.unreleased)))

-- What is in quarantine and was freed before the last `begin` was so right after that.

record IsStale (a : PlacedAllocation) : Type 0 where
  quarantined : is_quarantined a ≡ true
  stale : a.fresh ≡ false

none_stale : IsStale never_granted → ⊥
none_stale h = let q : false ≡ true = h.quarantined in true≢false (sym q)

stale_granted : (xs : List PlacedAllocation) (a : PlacedAllocation) (i : ℕ) → a.freed ≡ false
    → IsStale (placed_at (xs ++ a ∷ []) i) → IsStale (placed_at xs i)
stale_granted xs a i live h = elim (cases_lt i (length xs)) [
  | inl lt ↦ subst IsStale (earlier_at xs a i lt) h
  | inr past ↦ elim (cases_eq i (length xs)) [
    | inl own ↦ grind (arith, granted_at, and_parts)
    | inr ne ↦
        absurd (none_stale (subst IsStale (get_or_past (xs ++ a ∷ []) i never_granted
        (let both = length-append xs (a ∷ []) in omega arith)) h))
  ]
]

stale_freed : (w : Words) (cell : Option Cell) (a : PlacedAllocation) → IsStale (freed_where_it_stands w cell a)
    → IsStale a
stale_freed w cell a h = grind arith

stale_was : (c : Config) (w : World) (seat : Seat) (x : Step) (i : ℕ) → is_begin x ≡ false
    → IsStale (placed_at (WorldBehind c w seat x).allocations i) → IsStale (placed_at w.allocations i)
stale_was c w seat x4 i none h = grind (arith, stale_granted, stale_freed, changed_at, freed_leaves)

stale_from : (c : Config) (w : World) (es : List Event) (i : ℕ) → Lacks is_begin es
    → IsStale (placed_at (left_from c w es).allocations i) → IsStale (placed_at w.allocations i)
unfolding left_from
stale_from c w [] i none h = h
stale_from c w (e ∷ es) i none h =
    let parts = or_parts (is_begin e.step) (has_step is_begin es) none in
    stale_was c w e.seat e.step i parts.0 (stale_from c (world_behind c w e) es i parts.1 h)

-- Where no cycle is on, the last `begin` has a `close`, `release` and `end`: its phases are left by these alone.

abbrev Either : ℕ → ℕ → ℕ → Type 0
Either n k p = (p ≡ n) ⊎ (p ≡ k)

abbrev world_at : Config → World → {kind : Step → Bool} {es : List Event} → At kind es → World
world_at c w e = world_behind c (left_from c w e.before) e.event

record Leads (c : Config) (w : World) (p : ℕ) (es : List Event) : Type 0 where
  on : AreEnabledFrom c w es
  phase : phase_of w.now.words ≡ p
  idle : Either 0 5 (phase_of (left_from c w es).now.words)

leads : (c : Config) (w : World) {kind : Step → Bool} {es : List Event} (one : At kind es) (now : ℕ)
    → ((p : ℕ) → phase_behind one.event.step p ≡ now) → AreEnabledFrom c w es
    → Either 0 5 (phase_of (left_from c w es).now.words) → Leads c (world_at c w one) now one.behind
unfolding left_from
leads c w one now to on idle =
    let moves = moves_phase c (left_from c w one.before) one.event one.behind (enabled_parts c w one.before
    (one.event ∷ one.behind) (subst (λ (xs : List Event). AreEnabledFrom c w xs) one.is on)).1 in
    record {
      on = moves.2;
      phase = moves.1 ∙ to _;
      idle =
          subst (λ (v : World). Either 0 5 (phase_of v.now.words)) (ap (λ (xs : List Event). left_from c w xs) one.is
          ∙ left_append c w one.before (one.event ∷ one.behind)) idle;
    }

record GoesOn (c : Config) (w : World) (es : List Event) (kind : Step → Bool) (now : ℕ) : Type 0 where
  next : Next kind es
  rest : Leads c (world_at c w next.at) now next.at.behind

goes_to : (kind : Step → Bool) (n k now : ℕ)
    → ((x : Step) (p : ℕ) → AsksPhase x p → Either n k p → kind x ≡ false → Either n k (phase_behind x p))
    → ((x : Step) (p : ℕ) → kind x ≡ true → phase_behind x p ≡ now) → ((p : ℕ) → Either n k p → Either 0 5 p → ⊥)
    → {c : Config} {w : World} {es : List Event} → Leads c w n es → GoesOn c w es kind now
goes_to kind n k now stay to apart {c} {w} {es} l =
    let next = next_of kind es (λ lacks. apart _ (phases_go_on (Either n k) kind (λ x. false) (λ x p asks was none.
    (stay x p asks was none, refl)) c w es l.on (inl l.phase) lacks).0 l.idle) in
    record { next = next; rest = leads c w next.at now (λ p. to next.at.event.step p next.at.of_kind) l.on l.idle }

rests : (x : Step) (p : ℕ) → AsksPhase x p → Either 0 5 p → is_begin x ≡ false
    → Either 0 5 (phase_behind x p) × (is_end x ≡ false)
rests x p asks was none = grind arith

lacks_behind : {kind : Step → Bool} {es : List Event} (e : At kind es) → Lacks is_begin es → Lacks is_begin e.behind
lacks_behind e none = grind (arith, lacks_second, or_parts)

kept_by_last : (c : Config) {es : List Event} (h : IsHistory c es) (b : Last is_begin es) (i : ℕ) → Either 0 5
    (phase_of (left c es).now.words) → IsStale (placed_at (left c es).allocations i) → IsKeptByLastCycle c es i
unfolding left_from
kept_by_last c {es} h b i idle stale =
    let begin = leads c (first_world c) b.at 1 (λ p. rw (begin_is b.at.event.step b.at.of_kind) refl) h.enabled idle in
    let close = goes_to is_close 1 2 3 (λ x p asks was none. grind arith) (λ x p is. rw (close_is x is) refl) (λ p was
    idle. grind arith) begin in
    let release = goes_to is_release 3 3 4 (λ x p asks was none. grind arith) (λ x p is. rw (release_is x is) refl)
    (λ p was idle. grind arith) close.rest in
    let end = goes_to is_end 4 4 0 (λ x p asks was none. grind arith) (λ x p is. rw (end_is x is) refl)
    (λ p was idle. grind arith) release.rest in
    let begun = stale_from c (world_at c (first_world c) b.at) b.at.behind i b.none
    (subst (λ (w : World). IsStale (placed_at w.allocations i)) (ap (λ (xs : List Event). left c xs) b.at.is
    ∙ left_append c (first_world c) b.at.before (b.at.event ∷ b.at.behind)) stale) in
    let a : PlacedAllocation = placed_at (left c es).allocations i in
    record {
      cycle = record {
        releasing = record { marking = record { begin = b.at; close = close.next }; release = release.next };
        end = end.next;
      };
      last =
          (phases_go_on (Either 0 5) is_begin is_end rests c _ end.next.at.behind end.rest.on (inl end.rest.phase)
          (lacks_behind end.next.at (lacks_behind release.next.at (lacks_behind close.next.at b.none)))).1;
      snapshot = snapshot b.at.event.step b.at.of_kind begun;
      unreleased = not-true a.released (and_parts a.freed (not a.released) stale.quarantined).1;
    }
  where
    w : World
    w = left c b.at.before

    snapshot : (x : Step) → is_begin x ≡ true → IsStale (placed_at (WorldBehind c w b.at.event.seat x).allocations i)
        → is_quarantined (placed_at w.allocations i) ≡ true
    snapshot x is begun = grind (arith, changed_at)

pub quarantine_is_fresh_or_kept : OfHistories QuarantineIsFreshOrKept
unfolding left_from
quarantine_is_fresh_or_kept c es h idle i quarantined = elim (cases_Bool (placed_at (left c es).allocations i).fresh) [
  | inl fresh ↦ inl fresh
  | inr old ↦
      let stale : IsStale (placed_at (left c es).allocations i) = record { quarantined = quarantined; stale = old } in
      let b = last_of is_begin es (λ none. none_stale (stale_from c (first_world c) es i none stale)) in
      inr (kept_by_last c h b i idle stale)
]
