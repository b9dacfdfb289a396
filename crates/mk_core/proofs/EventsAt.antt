-- What is to be shown at each event of a kind in a list, as a product of one part for each of them.
use Rattle.std.{proofs.Common.{append_assoc}, specs.Prelude.{⊤}}
use Rattle.mk_core.proofs.Vocabulary.{Bool, Config, Event, List, NoneServesFrom, Op, Option, Place, Seat, Some}
use Rattle.mk_core.proofs.Vocabulary.{StandsAtItsPlace, Step, ℕ, append-nil, base_made, drop, false, flight_of}
use Rattle.mk_core.proofs.Vocabulary.{is_begin, is_close, is_end, is_give, is_release, left, list_any, slice_index_or}
use Rattle.mk_core.proofs.Vocabulary.{subst, sym, take, true, [], ◌&&◌, ◌++◌, ◌+◌, ◌∷◌, ◌≡◌}
use Rattle.mk_core.specs.{Cycles.{At, Cycle, Next, TurnOf}, Placement.{FirstServed, before_served, event_serves}}
use Rattle.mk_core.specs.{Placement.{object_at, place_after}, Accesses.granted_base, History.is_same_seat}

-- a proof of the first, and one of the others
infixr 10 ◌and◌
pub ◌and◌ : {A B : Type 0} → A → B → A × B
a and b = (a, b)

-- this many events from one on, counted from 0; and that one
unfoldable pub events_from : ℕ → ℕ → List Event → List Event
events_from first count es = take count (drop first es)

unfoldable pub event_number : ℕ → List Event → Event
event_number n es = slice_index_or es n (record { seat = Seat.Host; step = Step.Give })

-- an event of a kind by its number, and a turn by that of its `take`

unfoldable pub at_number : (kind : Step → Bool) (n : ℕ) (es : List Event)
    → es ≡ take n es ++ event_number n es ∷ drop (n + 1) es → kind (event_number n es).step ≡ true → At kind es
at_number kind n es is of_kind =
    record { before = take n es; event = event_number n es; behind = drop (n + 1) es; is = is; of_kind = of_kind }

-- which is the next of its kind
abbrev pub next_of : {kind : Step → Bool} {es : List Event} (at : At kind es)
    → list_any (λ (e : Event). kind e.step) at.before ≡ false → Next kind es
next_of at none = record { at = at; none_before = none }

-- a cycle, by its `begin`, and how many events come before its `close`, its `release` and its `end`
abbrev pub cycle_of : {es : List Event} (begin : At is_begin es) (close : Next is_close begin.behind)
    (release : Next is_release close.at.behind) (end : Next is_end release.at.behind) → Cycle es
cycle_of begin close release end =
    record { releasing = record { marking = record { begin = begin; close = close }; release = release }; end = end }

unfoldable pub turn_number : (c : Config) (s : Seat) (n : ℕ) (o : Option Op) (es : List Event) → es ≡ take n es ++
    record { seat = s; step = Step.Take o } ∷ drop (n + 1) es → (left c (take n es)).now.words.turn ≡ 0 → list_any
    (λ (e : Event). is_same_seat s e.seat && is_give e.step) (drop (n + 1) es) ≡ false → TurnOf c s es
turn_number c s n o es is took goes_on =
    record { before = take n es; op = o; behind = drop (n + 1) es; is = is; took = took; goes_on = goes_on }

-- the first event that serves a New, by its number in its turn; and where its object stands
abbrev pub served : {c : Config} {s : Seat} {es : List Event} (t : TurnOf c s es) (n : ℕ)
    → t.behind ≡ take n t.behind ++ event_number n t.behind ∷ drop (n + 1) t.behind
    → NoneServesFrom c (left c (t.before ++ record { seat = s; step = Step.Take t.op } ∷ [])) (take n t.behind)
    → event_serves c (left c (t.before ++ record { seat = s; step = Step.Take t.op } ∷ take n t.behind))
    (event_number n t.behind) ≡ true → FirstServed c t
served t n is none serves = record {
  before = take n t.behind;
  event = event_number n t.behind;
  behind = drop (n + 1) t.behind;
  is = is;
  none_before = none;
  serves = serves;
}

abbrev pub stands_at : {c : Config} {s : Seat} {es : List Event} (t : TurnOf c s es) (first : FirstServed c t)
    (place : Place) → place_after c (before_served t first) (object_at c es s) ≡ Some place
    → granted_base c (flight_of (left c es).now s) (left c es).now.seats.holding.placing
    ≡ base_made (object_at c es s) place → StandsAtItsPlace c es s
stands_at t first place fits base = record { turn = t; first = first; place = place; fits = fits; base = base }

-- if the test holds, the first is asked too
unfoldable pub Also : Bool → Type 0 → Type 0 → Type 0
Also true A B = A × B
Also false A B = B

-- P holds at each event of the kind: of the events before it, from the first of all on, and of the event
unfoldable pub AtEach : (Step → Bool) → (List Event → Event → Type 0) → List Event → List Event → Type 0
AtEach kind P before [] = ⊤
AtEach kind P before (e ∷ es) = Also (kind e.step) (P before e) (AtEach kind P (before ++ e ∷ []) es)

also_first : (b : Bool) (A B : Type 0) → b ≡ true → Also b A B → A
unfolding Also
also_first true A B h k = k.0
also_first false A B h k = cc

also_second : (b : Bool) (A B : Type 0) → Also b A B → B
unfolding Also
also_second true A B k = k.1
also_second false A B k = k

pub at_each : (kind : Step → Bool) (P : List Event → Event → Type 0) (done es : List Event) → AtEach kind P done es
    → (before : List Event) (e : Event) (behind : List Event) → es ≡ before ++ e ∷ behind → kind e.step ≡ true
    → P (done ++ before) e
unfolding AtEach
at_each kind P done [] h [] e behind is k = cc
at_each kind P done [] h (x ∷ before) e behind is k = cc
at_each kind P done (y ∷ es) h [] e behind is k =
    let same : y ≡ e = cc in
    rw append-nil (subst (λ (z : Event). P done z) same (also_first (kind y.step) (P done y)
    (AtEach kind P (done ++ y ∷ []) es) (subst (λ (z : Event). kind z.step ≡ true) (sym same) k) h))
at_each kind P done (y ∷ es) h (x ∷ before) e behind is k =
    let same : y ≡ x = cc in
    let rest : es ≡ before ++ e ∷ behind = cc in
    let later = at_each kind P (done ++ y ∷ []) es
    (also_second (kind y.step) (P done y) (AtEach kind P (done ++ y ∷ []) es) h) before e behind rest k in
    subst (λ (z : Event). P (done ++ z ∷ before) e) same (rw append_assoc at later)
