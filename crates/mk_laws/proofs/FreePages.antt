-- A page without a header has nothing, and on a dirty page, or one whose dirty mark a call owes, an unreleased
-- allocation stands. Only a `release` could end that, and at a `release` no page is dirty and no mark is owed.
use Rattle.mk_laws.proofs.Vocabulary.{Caller, Config, Event, Flight, HasAllocation, Invariant, IsHistory}
use Rattle.mk_laws.proofs.Vocabulary.{IsWordOfMapped, Leaves, List, Moment, NeverState, OfHistories, Op}
use Rattle.mk_laws.proofs.Vocabulary.{PlacedAllocation, Seat, Stage, Step, World, ℕ, all_below-at, and_parts, ap, arith}
use Rattle.mk_laws.proofs.Vocabulary.{at_rest, cases_eq, cases_lt, cells_under, comes_next, eqb-true, false, flight_of}
use Rattle.mk_laws.proofs.Vocabulary.{found, get_or-set_other, get_or-set_same, get_or_past, has_bit, header_at}
use Rattle.mk_laws.proofs.Vocabulary.{header_of, inl, inr, is_heap_store, is_release, left, left_from, ltb-true}
use Rattle.mk_laws.proofs.Vocabulary.{never_behind, object_placed, page_met, phase_of, placed_at, progress, refl}
use Rattle.mk_laws.proofs.Vocabulary.{set_by, slice_index, stage_behind, steps_of, storage_words, subst, sym, true}
use Rattle.mk_laws.proofs.Vocabulary.{true≢false, word_met, words_made, [], ◌++◌, ◌+◌, ◌-◌, ◌/◌, ◌==◌, ◌∙◌, ◌∷◌, ◌≡◌}
use Rattle.mk_laws.proofs.Vocabulary.{◌≢◌, ◌⊎◌}
use Rattle.mk_laws.proofs.Basics.{Behind, KeptByEvents, Known, KnownWorld, Meets, Table, WorldBehind, at_first}
use Rattle.mk_laws.proofs.Basics.{at_its_stage, claimed_some, ends_on_pages, holds_of_histories, is_call_stage}
use Rattle.mk_laws.proofs.Basics.{known_world, mapped_stays, reg_table, tally_table, zero_unless, zero_where_none}
use Rattle.mk_laws.proofs.InvariantHistories.{comes_last, histories_keep_the_invariant, told_to_zeros}
use Rattle.mk_laws.proofs.Known.{Begins, CallStep, Comes, Ends, GoesOn, Refused, Stays, Stores, call_step}
use Rattle.mk_laws.proofs.{Changes.is_dirty, CyclePhases.{phase_asked, phase_behind, phase_moves}}
use Rattle.mk_laws.proofs.{ForImages.{shown_claim, standing}, GuardStopped.{no_call, owes_in_call}}
use Rattle.mk_laws.proofs.{LayoutReadings.free_unused, ReadingsKeptPlaces.put_step}
use Rattle.mk_laws.specs.WordLaws.{DirtyPagesHaveAllocations, FreePagesHaveNothing, HasNothing}

-- Which steps bring a call to where it owes a dirty mark: a store and an exchange.

store_next : (o : Op) (s : Stage) (x : Step) → stage_behind s (steps_of o) ≡ Stage.Dirty → comes_next s o x ≡ true
    → is_heap_store x ≡ true
store_next o Stage.Write Step.Write h next = refl
store_next o s x h next = grind arith

-- A call that owes a mark after a step owed it before, or this step has stored.
abbrev pub OwesSince : Flight → Step → Flight → Type 0
OwesSince f x g = (g ≡ f) ⊎ ((is_heap_store x ≡ true) × (page_met g ≡ page_met f))

pub owes_since : {f : Flight} {x : Step} {g : Flight} → comes_next f.stage f.op x ≡ true → CallStep f x g
    → g.stage ≡ Stage.Dirty → OwesSince f x g
owes_since next Stays h = inl refl
owes_since next (Begins o is) h = grind arith
owes_since next Ends h = cc
owes_since {x} next (GoesOn y at same off) h = absurd (true≢false
    (sym (store_next y.op y.stage x h (rw at (rw same next))) ∙ off))
owes_since next (Stores on) h = inr (on, refl)
owes_since next (Refused y a same) h = grind arith
owes_since next (Comes y s same ne) h = absurd (ne h)

pub record DirtyStands (c : Config) (w : World) : Type 0 where
  pub dirty : DirtyPagesHaveAllocations c w
  pub owed : (k : ℕ) → (flight_of w.now (Caller k)).stage ≡ Stage.Dirty
      → HasAllocation c w (page_met (flight_of w.now (Caller k)))
  -- From `close` to `release` no page is dirty.
  pub clean : phase_of w.now.words ≡ 3 → (p : ℕ) → slice_index w.now.words.dirty p ≡ 0

-- An allocation stays but at a `release`.
allocation_stays : (c : Config) (w : World) (seat : Seat) (x : Step) (p : ℕ) → is_release x ≡ false
    → HasAllocation c w p → HasAllocation c (WorldBehind c w seat x) p
allocation_stays c w seat x p out a = grind (arith, put_step)

-- While the marks are closed, up to the `release`, no call owes a mark.
none_owes : {c : Config} {m : Moment} → Known c m → phase_of m.words ≡ 3 → (k : ℕ)
    → (flight_of m (Caller k)).stage ≡ Stage.Dirty → ⊥
none_owes known three k at = no_call known three k (owes_in_call k known at).0 (ap is_call_stage at)

-- A page that is dirty after a step was so before, or the step is its dirty mark.
dirty_since : (c : Config) (m : Moment) (seat : Seat) (x : Step) (p : ℕ)
    → slice_index (Behind c m seat x).words.dirty p ≢ 0
    → (slice_index m.words.dirty p ≢ 0) ⊎ ((is_dirty x ≡ true) × (page_met (flight_of m seat) ≡ p))
dirty_since c m seat Step.Reg p some =
    inl (λ z. some (ap (λ (t : Table). slice_index t.dirty p) (reg_table c m seat) ∙ z))
dirty_since c m seat (Step.Tally n v) p some =
    inl (λ z. some (ap (λ (t : Table). slice_index t.dirty p) (tally_table m.words n v) ∙ z))
dirty_since c m seat (Step.Undirty q) p some = inl (set_by (λ v. v ≢ 0 → slice_index m.words.dirty p ≢ 0)
    m.words.dirty q p 0 0 (λ e ne. absurd (ne refl)) (λ ne. ne) some)
dirty_since c m seat Step.Dirty p some = set_by (λ v. v ≢ 0 → (slice_index m.words.dirty p ≢ 0)
    ⊎ ((true ≡ true) × (page_met (flight_of m seat) ≡ p))) m.words.dirty (page_met (flight_of m seat)) p 1 0
    (λ e ne. inr (refl, sym e)) (λ ne. inl ne) some
dirty_since c m seat _ p some = inl some

-- The step is of a caller that owes the mark.
owes_now : (c : Config) (m : Moment) (seat : Seat) (x : Step) → Meets c m seat x → is_dirty x ≡ true
    → (k : ℕ) × (seat ≡ Caller k) × ((flight_of m (Caller k)).stage ≡ Stage.Dirty)
owes_now c m seat x3 h is = grind (arith, at_its_stage)

-- A call that owes a mark after a step owed it before, or the step is its store.
mark_since : {c : Config} {m : Moment} (seat : Seat) (x : Step) → Known c m → Meets c m seat x → (k : ℕ)
    → (flight_of (Behind c m seat x) (Caller k)).stage ≡ Stage.Dirty
    → (flight_of (Behind c m seat x) (Caller k) ≡ flight_of m (Caller k))
    ⊎ ((is_heap_store x ≡ true) × (page_met (flight_of m seat) ≡ page_met (flight_of (Behind c m seat x) (Caller k))))
mark_since {c} {m} (Caller j) x known h k at = elim (cases_eq k j) [
  | inr ne ↦ inl (get_or-set_other m.seats.flights j k flight at_rest ne)
  | inl e ↦
      let lt = ltb-true j c.callers h.seat in
      let here : flight_of (Behind c m (Caller j) x) (Caller k) ≡ flight =
      cc (e, get_or-set_same m.seats.flights j flight at_rest (omega (arith, known.orderly.flights))) in
      elim (owes_since h.order (call_step c m _ _ x) (ap (λ (f : Flight). f.stage) (sym here) ∙ at)) [
        | inl same ↦ inl (here ∙ same ∙ ap (λ i. flight_of m (Caller i)) (sym e))
        | inr new ↦ inr (new.0, sym (ap page_met here ∙ new.1))
      ]
]
  where
    flight : Flight
    flight = (progress c m (flight_of m (Caller j)) (found c m (record { seat = Caller j; step = x })) x).flight
mark_since _ x known h k at = inl refl

-- If the marks are closed after a step, no page was dirty before it.
was_clean : {c : Config} {w : World} (seat : Seat) (x : Step) → KnownWorld c w → Meets c w.now seat x
    → DirtyStands c w → phase_behind x (phase_of w.now.words) ≡ 3 → (p : ℕ) → slice_index w.now.words.dirty p ≡ 0
was_clean {c} {w} seat Step.Close known h d three p = elim (cases_lt p c.pages) [
  | inr past ↦ get_or_past w.now.words.dirty p 0 (omega (arith, known.lengths.dirty))
  | inl lt ↦
      let pages = and_parts _ _ (and_parts _ _ h.holder).0 in
      eqb-true _ 0 (and_parts _ (slice_index w.now.words.dirty p == 0) (all_below-at c.pages p _ pages.1 lt)).1
]
was_clean seat x3 known h d three p = grind arith

not_closing : (x : Step) (n : ℕ) → is_dirty x ≡ true → phase_behind x n ≡ n
not_closing Step.Dirty n is = refl
not_closing _ n is = cc

module _ {c : Config} {w : World} (seat : Seat) (x : Step) (known : KnownWorld c w) (h : Meets c w.now seat x)
    (d : DirtyStands c w) where
  clean_behind : phase_of (WorldBehind c w seat x).now.words ≡ 3 → (p : ℕ)
      → slice_index (WorldBehind c w seat x).now.words.dirty p ≡ 0
  clean_behind three p = zero_unless _ (λ some.
      let closed = sym (phase_moves c w.now seat x h) ∙ three in
      elim (dirty_since c w.now seat x p some) [
        | inl was ↦ was (was_clean seat x known h d closed p)
        | inr marks ↦
            let owes = owes_now c w.now seat x h marks.0 in
            none_owes known.now (sym (not_closing x _ marks.0) ∙ closed) owes.0 owes.2
      ])

  stands_at_release : phase_of w.now.words ≡ 3 → is_dirty x ≡ false → is_heap_store x ≡ false
      → DirtyStands c (WorldBehind c w seat x)
  stands_at_release three undirty unstored = record {
    dirty = λ p some. elim (dirty_since c w.now seat x p some) [
      | inl was ↦ absurd (was (d.clean three p))
      | inr marks ↦ absurd (true≢false (sym marks.0 ∙ undirty))
    ];
    owed = λ k at. elim (mark_since seat x known.now h k at) [
      | inl same ↦ absurd (none_owes known.now three k (ap (λ (f : Flight). f.stage) (sym same) ∙ at))
      | inr new ↦ absurd (true≢false (sym new.0 ∙ unstored))
    ];
    clean = clean_behind;
  }

  mark_has : is_dirty x ≡ true → HasAllocation c w (page_met (flight_of w.now seat))
  mark_has is = grind (arith, owes_now)

  stands_behind : is_release x ≡ false → (is_heap_store x ≡ true
      → IsWordOfMapped c w.allocations (word_met (flight_of w.now seat))) → DirtyStands c (WorldBehind c w seat x)
  stands_behind out stored = record {
    dirty = λ p some. allocation_stays c w seat x p out (elim (dirty_since c w.now seat x p some) [
      | inl was ↦ d.dirty p was
      | inr marks ↦ subst (HasAllocation c w) marks.1 (mark_has marks.0)
    ]);
    owed = λ k at. allocation_stays c w seat x _ out (elim (mark_since seat x known.now h k at) [
      | inl same ↦ subst (λ (f : Flight). HasAllocation c w (page_met f)) (sym same)
          (d.owed k (ap (λ (f : Flight). f.stage) (sym same) ∙ at))
      | inr new ↦
          let m = stored new.0 in
          subst (HasAllocation c w) new.1 (record {
            number = m.number;
            unreleased = mapped_stays c (placed_at w.allocations m.number) m.mapped;
            word = word_met (flight_of w.now seat);
            of_it = m.word;
            page = refl;
          })
    ]);
    clean = clean_behind;
  }

-- One event, whatever it is.
by_event : {c : Config} {w : World} (seat : Seat) (x : Step) → KnownWorld c w → Meets c w.now seat x → DirtyStands c w
    → (is_heap_store x ≡ true → IsWordOfMapped c w.allocations (word_met (flight_of w.now seat)))
    → DirtyStands c (WorldBehind c w seat x)
by_event {c} {w} seat Step.Release known h d stored =
    stands_at_release seat Step.Release known h d (phase_asked c w.now seat Step.Release h) refl refl
by_event {c} {w} seat x known h d stored = stands_behind seat x known h d refl stored

abbrev Stands : Config → List Event → Type 0
Stands c es = DirtyStands c (left c es)

first_stands : (c : Config) → Stands c []
unfolding left_from
first_stands c = grind (arith, at_first)

-- A store is to a word of a mapped allocation.
stores_told : {c : Config} (es : List Event) (e : Event) → IsHistory c (es ++ e ∷ []) → is_heap_store e.step ≡ true
    → IsWordOfMapped c (left c es).allocations (word_met (flight_of (left c es).now e.seat))
stores_told {c} es e h =
    let last = comes_last c es e h in
    (told_to_zeros c (left c es) _ (known_world c es last.before.within_limits last.before.enabled)
    (histories_keep_the_invariant c es last.before) e last.on last.admitted).stored

kept : KeptByEvents Stands
kept c es e h d =
    let last = comes_last c es e h in
    rw last.leaves (by_event e.seat e.step (known_world c es last.before.within_limits
    last.before.enabled) last.meets d (stores_told es e h))

pub dirty_stands : OfHistories Stands
dirty_stands = holds_of_histories Stands first_stands kept

-- A page without a header.

module _ (c : Config) (w : World) (n : NeverState) (known : KnownWorld c w) (all : Invariant c w n) where
  -- Where there is an allocation there is a header.
  allocation_shows : {p : ℕ} → HasAllocation c w p → header_at w.now.words p ≢ 0
  allocation_shows {p} x z =
      let a : PlacedAllocation = placed_at w.allocations x.number in
      let shown = shown_claim c w known all.order.laid x.number x.unreleased in
      let s = standing c w known all.order.laid x.number x.unreleased in
      let ends = ends_on_pages _ a.base shown.sized s.stands.begins in
      let words : storage_words c a ≡ words_made (object_placed c a) = refl in
      let of_it = x.of_it in
      let page = x.page in
      let there : a.base / 64 + (p - a.base / 64) ≡ p = omega arith in
      claimed_some w.now.words.pages _ _ shown (omega arith) (ap (header_at w.now.words) there ∙ z)

  none_freed : (p : ℕ) → header_at w.now.words p ≡ 0 → (k : ℕ) → has_bit (slice_index w.now.words.freed p) k ≡ true → ⊥
  none_freed p z k bit = absurd (omega (arith, ap (λ h. cells_under (header_of h)) z, all.order.known p k bit))

  free_page : DirtyPagesHaveAllocations c w → (p : ℕ) → header_at w.now.words p ≡ 0 → HasNothing w.now.words p
  free_page dirty p z = record {
    used = free_unused _ p all.order.laid.scene z;
    freed = zero_where_none _ (none_freed p z);
    snapshot = zero_where_none _ (λ k bit. none_freed p z k (all.order.quarantined.within p k bit));
    dirty = zero_unless _ (λ some. allocation_shows (dirty p some) z);
  }

pub dirty_pages_have_allocations : OfHistories (Leaves DirtyPagesHaveAllocations)
dirty_pages_have_allocations c es h = (dirty_stands c es h).dirty

pub free_pages_have_nothing : OfHistories (Leaves FreePagesHaveNothing)
free_pages_have_nothing c es h =
    free_page c (left c es) (never_behind c es) (known_world c es h.within_limits h.enabled)
    (histories_keep_the_invariant c es h) (dirty_pages_have_allocations c es h)

pub ruleset free_pages_have_nothing_facts = (free_pages_have_nothing, dirty_pages_have_allocations)
