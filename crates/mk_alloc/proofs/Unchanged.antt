-- What stays as it was: after looks, and one part after the other.
use Rattle.mk_caller.proofs.Below.Laws.Vocabulary.{Caller, Config, Moment, Seat, Step, Word, World, ℕ, arith, at_rest}
use Rattle.mk_caller.proofs.Below.Laws.Vocabulary.{flight_of, found, get_or-set_same, length, ltb-true, progress, refl}
use Rattle.mk_caller.proofs.Below.Laws.Vocabulary.{true, world_behind, ◌<◌, ◌≡◌}
use Rattle.mk_caller.proofs.Below.Laws.Changes.{grows_joined, grows_same}
use Rattle.mk_alloc.proofs.{ObjectVocabulary.{IsAsLeft, is_steady_word, steady_of}, MayAct.IsActing}
use Rattle.mk_core.specs.Effects.{moment_behind}

pub left_same : (s : Seat) (w : World) → IsAsLeft s w w
left_same s w = record {
  call = refl;
  holding = refl;
  steady = refl;
  marks = grows_same w.now.words.marks;
  registers = λ k r is lt. refl;
  gates = λ j. refl;
}

pub left_joined : {s : Seat} {w u v : World} → IsAsLeft s w u → IsAsLeft s u v → IsAsLeft s w v
left_joined a b = grind (arith, grows_joined)

-- After a step of its own a caller's call is what the step makes of it.
pub call_behind : (c : Config) (m : Moment) (k : ℕ) (x : Step) → k < length m.seats.flights
    → flight_of (moment_behind c m (record { seat = Caller k; step = x })) (Caller k)
    ≡ (progress c m (flight_of m (Caller k)) (found c m (record { seat = Caller k; step = x })) x).flight
call_behind c m k x lt = get_or-set_same m.seats.flights k
    (progress c m (flight_of m (Caller k)) (found c m (record { seat = Caller k; step = x })) x).flight at_rest lt

-- A seat that is acting has a call.
pub data HasCall (c : Config) (m : Moment) : Seat → Type 0 where
  OfCaller : (k : ℕ) → k < length m.seats.flights → HasCall c m (Caller k)

pub acting_has_call : {c : Config} {m : Moment} {s : Seat} → length m.seats.flights ≡ c.callers → IsActing c m s
    → HasCall c m s
acting_has_call {c} {m} {s} all at = grind (arith, ltb-true, OfCaller)

-- Looks at steady words and at the phase leave all as it was.

pub data IsPlain : Word → Type 0 where
  OfHead : (p : ℕ) → IsPlain (Word.Head p)
  OfUsed : (p : ℕ) → IsPlain (Word.Used p)
  OfHeld : IsPlain Word.Held
  OfFresh : IsPlain Word.Fresh
  OfPhase : IsPlain Word.Phase

pub steady_is_plain : (x : Word) → is_steady_word x ≡ true → IsPlain x
steady_is_plain x0 h = grind (arith, OfHead, OfUsed, OfHeld, OfFresh)

-- all words are as they were
left_by : {s : Seat} {w v : World} → flight_of v.now s ≡ flight_of w.now s → v.now.seats.holding ≡ w.now.seats.holding
    → steady_of v ≡ steady_of w → v.now.words ≡ w.now.words → IsAsLeft s w v
left_by call holding steady words = grind (arith, grows_same)

pub look_leaves : {c : Config} (w : World) {s : Seat} {x : Word} → HasCall c w.now s → IsPlain x
    → IsAsLeft s w (world_behind c w (record { seat = s; step = Step.Look x }))
look_leaves {c} w {x} (OfCaller k lt) (OfHead p) = left_by (call_behind c w.now k (Step.Look x) lt) refl refl refl
look_leaves {c} w {x} (OfCaller k lt) (OfUsed p) = left_by (call_behind c w.now k (Step.Look x) lt) refl refl refl
look_leaves {c} w {x} (OfCaller k lt) OfHeld = left_by (call_behind c w.now k (Step.Look x) lt) refl refl refl
look_leaves {c} w {x} (OfCaller k lt) OfFresh = left_by (call_behind c w.now k (Step.Look x) lt) refl refl refl
look_leaves {c} w {x} (OfCaller k lt) OfPhase = left_by (call_behind c w.now k (Step.Look x) lt) refl refl refl
