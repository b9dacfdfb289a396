-- Stretches of a turn that isn't for an undecided Free, in which nothing is granted and no New is full: no call of the
-- holder's is decided, and up to a `release` the unreleased storage stays as it is.
use Rattle.mk_caller.proofs.{Below.Laws.Vocabulary.{group_of, is_of_turn}, Below.Laws.Protocols.protocol_of}
use Rattle.mk_alloc.proofs.Vocabulary.{AreOfOthers, Caller, Config, Event, Flight, Has, List, Moment, PassState}
use Rattle.mk_alloc.proofs.Vocabulary.{PlacedAllocation, Steady, Step, Storage, World, ℕ, allocations_by, ap, arith}
use Rattle.mk_alloc.proofs.Vocabulary.{caller_of_pass, calls_by, event_of, false, flight_of, frees_none}
use Rattle.mk_alloc.proofs.Vocabulary.{is_pending_free, left, left_after, no_more_calls, none_freed, only_one}
use Rattle.mk_alloc.proofs.Vocabulary.{others_add_none, others_one, own_calls, progress, refl, still, sym, true}
use Rattle.mk_alloc.proofs.{Vocabulary.{unreleased_storage, [], ◌++◌, ◌∙◌, ◌∷◌, ◌≡◌, ◌≢◌}, Stretches.{AreOfTurn, Here}}
use Rattle.mk_alloc.proofs.Stretches.{SomeKinds, Stretch, along, call_in}
use Rattle.mk_core.proofs.ChangedAllocations.{fresh_storage}
use Rattle.mk_cycle.proofs.{Calm.calm_still, OwnSteps.{flight_behind, undecided}}

-- the steps of cycles, and those that leave the unreleased storage

abbrev pub is_of_cycles : SomeKinds
is_of_cycles (Step.Take o) = false
is_of_cycles Step.Give = false
is_of_cycles Step.Grant = false
is_of_cycles Step.Full = false
is_of_cycles x = is_of_turn (group_of x)

abbrev pub releases_none : SomeKinds
releases_none Step.Release = false
releases_none x = is_of_cycles x

pub cycles_in_turn : AreOfTurn is_of_cycles
cycles_in_turn x h = grind arith

pub cycle_still : (c : Config) (m : Moment) (f : Flight) (n : ℕ) (x : Step) → is_of_cycles x ≡ true
    → is_pending_free f ≡ false → progress c m f n x ≡ still f
cycle_still c m f n x4 h free = grind (arith, calm_still)

-- The holder's call stays as it is, and none of its calls is decided.
pub record GoesUndecided (p : PassState) (es fs : List Event) : Type 0 where
  pub call : call_in p fs ≡ call_in p es
  pub calls : own_calls p fs ≡ own_calls p es

module _ (p : PassState) (seat : p.seat ≡ Caller (caller_of_pass p)) (own : Has p.seats p.seat) where
  pub not_own : (e : Event) → e.seat ≢ p.seat → AreOfOthers (Caller (caller_of_pass p) ∷ []) (e ∷ [])
  not_own e ne = others_one (Caller (caller_of_pass p) ∷ []) e
      (λ has. ne (only_one (Caller (caller_of_pass p)) e.seat has ∙ sym seat))

  -- One event of another's decides none of the holder's calls,
  pub other_undecided : {es : List Event} {e : Event} → Here p es e → e.seat ≢ p.seat
      → GoesUndecided p es (es ++ e ∷ [])
  other_undecided {es} {e} h ne = record {
    call = ap (λ (w : World). flight_of w.now p.seat) h.behind
        ∙ (left_after p.table.config (left p.table.config es) e.seat p.seat e.step h.known h.meets ne).own.flight;
    calls = others_add_none p.table.config (caller_of_pass p) es (e ∷ []) (not_own e ne);
  }

  -- nor does one of its own.
  pub own_undecided : {es : List Event} (x : Step) → Here p es (event_of p x) → is_of_cycles x ≡ true
      → is_pending_free (call_in p es) ≡ false → GoesUndecided p es (es ++ event_of p x ∷ [])
  own_undecided x h kind free =
      grind (arith, cycle_still, flight_behind, protocol_of, calls_by, no_more_calls, undecided)

  undecided_then : {es fs gs : List Event} → GoesUndecided p es fs → GoesUndecided p fs gs → GoesUndecided p es gs
  undecided_then a b = record { call = b.call ∙ a.call; calls = b.calls ∙ a.calls }

  pub goes_undecided : {es more : List Event} → is_pending_free (call_in p es) ≡ false
      → Stretch p is_of_cycles es more → GoesUndecided p es (es ++ more)
  goes_undecided {es} {more} free s =
      along p is_of_cycles cycles_in_turn own (λ (l : List Event). GoesUndecided p es l) (λ fs x h kind so_far.
      undecided_then so_far (own_undecided x h kind (ap (λ (f : Flight). is_pending_free f) so_far.call ∙ free))) (λ fs
      e h ne so_far. undecided_then so_far (other_undecided h ne)) es more s (record { call = refl; calls = refl })

-- The unreleased storage

abbrev pub storage_in : PassState → List Event → List Storage
storage_in p es = unreleased_storage p.table.config (left p.table.config es).allocations

storage_by : (c : Config) (m : Moment) (f : Flight) (x : Step) (xs : List PlacedAllocation) → releases_none x ≡ true
    → is_pending_free f ≡ false → unreleased_storage c (allocations_by c m f x xs) ≡ unreleased_storage c xs
storage_by c m f (Step.Quar p v) xs h free = cc (frees_none c.pages m.words f p v free, none_freed m.words xs)
storage_by c m f x xs h free = grind (arith, fresh_storage)

-- stays where nothing is released, at each event.
pub record StaysReserved (p : PassState) (es fs : List Event) : Type 0 where
  pub call : call_in p fs ≡ call_in p es
  pub storage : storage_in p fs ≡ storage_in p es

module _ (p : PassState) (seat : p.seat ≡ Caller (caller_of_pass p)) (own : Has p.seats p.seat) where
  other_storage : {es : List Event} {e : Event} → Here p es e → e.seat ≢ p.seat → storage_in p (es ++ e ∷ [])
      ≡ storage_in p es
  other_storage {es} {e} h ne =
      let c : Config = p.table.config in
      ap (λ (v : World). unreleased_storage c v.allocations) h.behind ∙ ap (λ (s : Steady). unreleased_storage c
      s.allocations) ((left_after c (left c es) e.seat p.seat e.step h.known h.meets ne).turn h.holds).steady

  pub stays_reserved : {es more : List Event} → is_pending_free (call_in p es) ≡ false
      → Stretch p releases_none es more → StaysReserved p es (es ++ more)
  stays_reserved {es} {more} free s =
      along p releases_none (λ x h. grind arith) own (λ (l : List Event). StaysReserved p es l) (λ fs x h kind so_far.
      let pending = ap (λ (f : Flight). is_pending_free f) so_far.call ∙ free in
      record {
        call = (own_undecided p seat own x h (grind arith) pending).call ∙ so_far.call;
        storage = (let c : Config = p.table.config in
            let w : World = left c fs in
            cc (h.behind, storage_by c w.now (flight_of w.now p.seat) x w.allocations kind pending)) ∙ so_far.storage;
      }) (λ fs e h ne so_far. record {
        call = (other_undecided p seat own h ne).call ∙ so_far.call;
        storage = other_storage h ne ∙ so_far.storage;
      }) es more s (record { call = refl; storage = refl })
