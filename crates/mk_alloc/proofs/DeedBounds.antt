-- What quarantine costs, over deeds.
use Rattle.mk_core.specs.{Cycles.{is_begin, is_give, is_release}, History.left_from}
use Rattle.mk_alloc.proofs.QuarantineVocabulary.{At, Config, Event, List, PlacedAllocation, Step, World, ap, append-nil}
use Rattle.mk_alloc.proofs.QuarantineVocabulary.{append_assoc, arith, false, given_back, has_step, first_world, left}
use Rattle.mk_alloc.proofs.QuarantineVocabulary.{left_more, list_any, refl, subst, sym, true, true≢false, world_behind}
use Rattle.mk_alloc.proofs.QuarantineVocabulary.{ℕ, [], ⊎_elim, ◌*◌, ◌++◌, ◌+◌, Seat, given_back_behind, fresh_words_of}
use Rattle.mk_alloc.proofs.{QuarantineVocabulary.{◌∙◌, ◌∷◌, ◌≡◌, ◌≤◌}, CountedWords.given_more}
use Rattle.mk_alloc.proofs.{Deeds.{deeds_give_back, deeds_leave_the_storage}, ListParts.lacks_first}
use Rattle.mk_alloc.proofs.{Vocabulary.held_by_allocations, DeedParts.{begins_at_begins, deeds_at, done_alone, done_at}}
use Rattle.mk_alloc.{proofs.DeedParts.{ends_at_gives, of_steps, stands_in}, specs.Deeds.{deeds_of}}
use Rattle.mk_alloc.specs.{Bounds.{FreshIsQuarterOfHeld, FreshIsQuarterWithGivenBack}, Deeds.{Deed, QuarterOfHeld}}
use Rattle.mk_alloc.specs.Deeds.{QuarterWithGivenBack, ReleasesInTurnOfBegin, back_from, begins_cycle, ends_turn}
use Rattle.mk_alloc.specs.Deeds.{storage_after, BoundsAreOverDeeds, bases_released, deeds_by, deeds_from}
use Rattle.mk_cycle.proofs.InParts as events
use Rattle.mk_alloc.specs.Bounds.{ReleasesInTurnOfBegin as InTurnOfBegin}

-- The events up to a `give`, of which these are the deeds.
record TurnEndsAt (c : Config) (es : List Event) (front : List Deed) : Type 0 where
  pub before : List Event
  pub event : Event
  pub behind : List Event
  pub gives : event.step ≡ Step.Give
  pub is : es ≡ (before ++ event ∷ []) ++ behind
  pub deeds : front ≡ deeds_of c before

give_is : (x : Step) → is_give x ≡ true → x ≡ Step.Give
give_is x h = grind arith

none_before : (first rest : List Deed) → Deed.TurnEnds ∷ [] ≡ first ++ Deed.TurnEnds ∷ rest → first ≡ []
none_before [] rest h = refl
none_before (d ∷ []) rest h = cc
none_before (d ∷ (x ∷ first)) rest h = cc

gives_alone : (c : Config) (w : World) (e : Event) → e.step ≡ Step.Give → deeds_by c w e ≡ Deed.TurnEnds ∷ []
gives_alone c w e is = by e.seat e.step is
  where
    by : (seat : Seat) (x : Step) → x ≡ Step.Give
        → deeds_by c w (record { seat = seat; step = x }) ≡ Deed.TurnEnds ∷ []
    by seat x is = rw is (done_alone c w seat Step.Give refl)

turn_ends_at : (c : Config) (es : List Event) (front more : List Deed) → deeds_of c es ≡ front ++ Deed.TurnEnds ∷ more
    → TurnEndsAt c es front
turn_ends_at c es front more h =
    let d = done_at c (first_world c) es front Deed.TurnEnds more h in
    let w : World = left_from c (first_world c) d.before in
    let gives : d.event.step ≡ Step.Give =
    give_is _ (sym (ends_at_gives c w d.event) ∙ ap (λ (l : List Deed). list_any ends_turn l) d.by
    ∙ stands_in ends_turn d.first Deed.TurnEnds d.rest refl) in
    let alone : deeds_by c w d.event ≡ Deed.TurnEnds ∷ [] = gives_alone c w d.event gives in
    record {
      before = d.before;
      event = d.event;
      behind = d.behind;
      gives = gives;
      is = d.is ∙ sym (append_assoc d.before (d.event ∷ []) d.behind);
      deeds = d.front_is ∙ ap (λ (l : List Deed). deeds_from c (first_world c) d.before ++ l)
          (none_before d.first d.rest (sym alone ∙ d.by)) ∙ append-nil _;
    }

-- A `give` leaves the turn to nobody, and the storage as it is.
record LeavesAll (c : Config) (w : World) (e : Event) : Type 0 where
  pub free : (world_behind c w e).now.words.turn ≡ 0
  pub storage : (world_behind c w e).allocations ≡ w.allocations
  pub back : (n : ℕ) → given_back_behind c w e.step n ≡ n

give_leaves : (c : Config) (w : World) (e : Event) → e.step ≡ Step.Give → LeavesAll c w e
give_leaves c w e is = by e.seat e.step is
  where
    by : (seat : Seat) (x : Step) → x ≡ Step.Give → LeavesAll c w (record { seat = seat; step = x })
    by seat x is = rw is (record { free = refl; storage = refl; back = λ n. refl })

pub begins_alone : (c : Config) (w : World) (e : Event) → is_begin e.step ≡ true → deeds_by c w e ≡ Deed.Begins ∷ []
begins_alone c w e is = by e.seat e.step is
  where
    by : (seat : Seat) (x : Step) → is_begin x ≡ true
        → deeds_by c w (record { seat = seat; step = x }) ≡ Deed.Begins ∷ []
    by seat Step.Begin is = done_alone c w seat Step.Begin refl
    by seat _ is = cc

pub releases_alone : (c : Config) (w : World) (e : Event) → is_release e.step ≡ true
    → deeds_by c w e ≡ Deed.Releases (bases_released c w) ∷ []
releases_alone c w e is = by e.seat e.step is
  where
    by : (seat : Seat) (x : Step) → is_release x ≡ true
        → deeds_by c w (record { seat = seat; step = x }) ≡ Deed.Releases (bases_released c w) ∷ []
    by seat Step.Release is = done_alone c w seat Step.Release refl
    by seat _ is = cc

no_release : (first : List Event) {g : Event} (r : Event) (rest : List Event) → g.step ≡ Step.Give
    → g ∷ [] ≡ first ++ r ∷ rest → is_release r.step ≡ true → ⊥
no_release [] {g} r rest gives is of_kind = let same : g ≡ r = cc in
    true≢false (sym of_kind ∙ ap (λ (e : Event). is_release e.step) (sym same) ∙ ap is_release gives)
no_release (x ∷ []) r rest gives is of_kind = cc
no_release (x ∷ (y ∷ first)) r rest gives is of_kind = cc

module _ {c : Config} {es : List Event} {front : List Deed} (d : TurnEndsAt c es front) where
  abbrev through : List Event
  through = d.before ++ d.event ∷ []

  leaves : LeavesAll c (left c d.before) d.event
  leaves = give_leaves c (left c d.before) d.event d.gives

  free : (left c through).now.words.turn ≡ 0
  free = rw (left_more c (first_world c) d.before d.event) leaves.free

  storage : (left c through).allocations ≡ storage_after front
  storage = ap (λ (w : World). w.allocations) (left_more c (first_world c) d.before d.event) ∙ leaves.storage
      ∙ sym (deeds_leave_the_storage c d.before) ∙ ap (λ (l : List Deed). storage_after l) (sym d.deeds)

  back : given_back c through ≡ back_from c [] 0 front
  back = given_more c d.before d.event ∙ leaves.back (given_back c d.before) ∙ sym (deeds_give_back c d.before)
      ∙ ap (λ (l : List Deed). back_from c [] 0 l) (sym d.deeds)

  with_back : FreshIsQuarterWithGivenBack c through → QuarterWithGivenBack c front
  with_back q = subst (λ n. 4 * fresh_words_of c (storage_after front)
      ≤ held_by_allocations c (storage_after front) + n) back
      (subst (λ (xs : List PlacedAllocation). 4 * fresh_words_of c xs ≤ held_by_allocations c xs + given_back c through)
      storage q)

  of_held : FreshIsQuarterOfHeld c through → QuarterOfHeld c front
  of_held q = subst (λ (xs : List PlacedAllocation). 4 * fresh_words_of c xs ≤ held_by_allocations c xs) storage q

  -- up to a `release` after the last `begin`
  none_given : ReleasesInTurnOfBegin front → (b : At is_begin through) → has_step is_begin b.behind ≡ false
      → (r : At is_release b.behind) → (rest : List Event)
      → d.before ≡ b.before ++ b.event ∷ (r.before ++ r.event ∷ rest)
      → r.behind ≡ rest ++ d.event ∷ [] → has_step is_give r.before ≡ false
  none_given over b none r rest is then =
      let w : World = left_from c (first_world c) (b.before ++ b.event ∷ []) in
      let since : List Deed = deeds_from c w (r.before ++ r.event ∷ rest) in
      let v : World = left_from c w r.before in
      let begins : front ≡ deeds_of c b.before ++ Deed.Begins ∷ since =
      d.deeds ∙ deeds_at c (first_world c) d.before b.before b.event (r.before ++ r.event ∷ rest) Deed.Begins is
      (begins_alone c (left_from c (first_world c) b.before) b.event b.of_kind) in
      let releases : since ≡ deeds_from c w r.before ++ Deed.Releases (bases_released c v)
      ∷ deeds_from c (left_from c w (r.before ++ r.event ∷ [])) rest =
      deeds_at c w (r.before ++ r.event ∷ rest) r.before r.event rest _ refl (releases_alone c v r.event r.of_kind) in
      let none_since : has_step is_begin (r.before ++ r.event ∷ rest) ≡ false =
      lacks_first is_begin (r.before ++ r.event ∷ rest) (d.event ∷ [])
      (subst (λ (l : List Event). has_step is_begin l ≡ false)
      (r.is ∙ ap (λ (l : List Event). r.before ++ r.event ∷ l) then ∙ sym (append_assoc r.before (r.event ∷ rest)
      (d.event ∷ []))) none) in
      sym (of_steps ends_turn is_give ends_at_gives c w r.before)
      ∙ over (deeds_of c b.before) since (deeds_from c w r.before) _ (bases_released c v) begins
      (of_steps begins_cycle is_begin begins_at_begins c w (r.before ++ r.event ∷ rest) ∙ none_since) releases

  -- Where the deeds release in the turn of the begin, the events do.
  in_turn : ReleasesInTurnOfBegin front → InTurnOfBegin through
  in_turn over b none r =
      ⊎_elim (λ (t : events.InFirst d.before (d.event ∷ []) (b.before ++ b.event ∷ r.before) r.event r.behind).
      none_given over b none r t.rest (t.is ∙ append_assoc b.before (b.event ∷ r.before) (r.event ∷ t.rest)) t.then)
      (λ (t : events.InSecond d.before (d.event ∷ []) (b.before ++ b.event ∷ r.before) r.event r.behind).
      absurd (no_release t.rest r.event r.behind d.gives t.is r.of_kind))
      (events.in_parts d.before (d.event ∷ []) (b.before ++ b.event ∷ r.before) r.event r.behind
      (b.is ∙ ap (λ (l : List Event). b.before ++ b.event ∷ l) r.is
      ∙ sym (append_assoc b.before (b.event ∷ r.before) (r.event ∷ r.behind))))

pub bounds_are_over_deeds : BoundsAreOverDeeds
bounds_are_over_deeds on c es h bounded = record {
  quarter = λ front more is.
      let d = turn_ends_at c es front more is in
      with_back d (bounded.with_given_back (through d) d.behind d.is (free d));
  in_turn = λ front more is over.
      let d = turn_ends_at c es front more is in
      of_held d (bounded.released_in_turn (through d) d.behind d.is (free d) (in_turn d over));
  of_held = λ off front more is.
      let d = turn_ends_at c es front more is in
      of_held d (bounded.of_held off (through d) d.behind d.is (free d));
}
