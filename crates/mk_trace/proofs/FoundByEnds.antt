-- What ends find in a list of events that begins without a cycle, or in one.
use Rattle.mk_trace.proofs.Vocabulary.{AreEnabledFrom, Config, Event, FreesNone, PlacedAllocation, ReleasesNone, Step}
use Rattle.mk_trace.proofs.Vocabulary.{World, calls_append, decides_freed, ends, flight_of, has_step, is_begin, is_end}
use Rattle.mk_trace.proofs.Vocabulary.{is_release, moves_phase, phase_of, sum_by-append, sum_by-cons, world_behind}
use Rattle.mk_trace.proofs.{Vocabulary.⊎_elim, FlagSteps.{frees_by, frees_then, releases_by, releases_then}}
use Rattle.mk_trace.proofs.{FlagSteps.{same_releases, step_later}, FreeCalls.{frees_decide, is_free_call}}
use Rattle.mk_heap.proofs.Below.Laws.Vocabulary.{Bool, List, ℕ, ap, arith, cases_Bool, cond, false, false_from_ne_true}
use Rattle.mk_heap.proofs.Below.Laws.Vocabulary.{if◌then◌else◌, length, list_any, list_any-append, or_parts, refl}
use Rattle.mk_heap.proofs.Below.Laws.Vocabulary.{subst, sym}
use Rattle.mk_heap.proofs.Below.Laws.Vocabulary.{true, true≢false, [], ◌++◌, ◌+◌, ◌||◌, ◌∙◌, ◌∷◌, ◌≡◌, ◌≤◌}
use Rattle.mk_heap.proofs.Below.Laws.CyclePhases.{phase_behind}
use Rattle.mk_core.specs.History.{calls_from, left_from}
use Rattle.mk_trace.specs.Peaks.{found_by_ends_from}

abbrev pub is_over : Step → Bool
is_over Step.Over = true
is_over _ = false

-- what an event adds

counts_one : (b : Bool) (n m : ℕ) → n ≡ cond b 1 0 + m → b ≡ true → n ≡ 1 + m
counts_one b n m is one = grind arith

pub no_end-cons : (e : Event) (es : List Event) → is_end e.step ≡ false → ends (e ∷ es) ≡ ends es
no_end-cons e es none = grind arith

pub none_end : (es : List Event) → has_step is_end es ≡ false → ends es ≡ 0
none_end [] none = refl
none_end (e ∷ es) none =
    let parts = or_parts (is_end e.step) (has_step is_end es) none in
    no_end-cons e es parts.0 ∙ none_end es parts.1

pub ends-append : (xs ys : List Event) → ends (xs ++ ys) ≡ ends xs + ends ys
ends-append xs ys = sum_by-append (λ (x : Event). cond (is_end x.step) 1 0) xs ys

pub found-append : (c : Config) (w : World) (xs ys : List Event)
    → found_by_ends_from c w (xs ++ ys) ≡ found_by_ends_from c w xs ++ found_by_ends_from c (left_from c w xs) ys
unfolding found_by_ends_from left_from
found-append c w [] ys = refl
found-append c w (e ∷ xs) ys =
    let on : World = world_behind c w e in
    ap (λ (l : List (List PlacedAllocation)). if is_end e.step then w.allocations ∷ l else l) (found-append c on xs ys)
    ∙ (grind arith)

pub found-none : (c : Config) (w : World) (e : Event) (es : List Event) → is_end e.step ≡ false
    → found_by_ends_from c w (e ∷ es) ≡ found_by_ends_from c (world_behind c w e) es
unfolding found_by_ends_from
found-none c w e es none = rw none

found-one : (c : Config) (w : World) (e : Event) (es : List Event) → is_end e.step ≡ true
    → found_by_ends_from c w (e ∷ es) ≡ w.allocations ∷ found_by_ends_from c (world_behind c w e) es
unfolding found_by_ends_from
found-one c w e es is = rw is

-- No call of these events is a Free.
abbrev pub FreesNoneFrom : Config → World → List Event → Type 0
FreesNoneFrom c w es = list_any is_free_call (calls_from c w es) ≡ false

pub free_parts : (c : Config) (w : World) (e : Event) (es : List Event) → FreesNoneFrom c w (e ∷ es)
    → (decides_freed c w.now (flight_of w.now e.seat) e.step ≡ false) × FreesNoneFrom c (world_behind c w e) es
unfolding calls_from
free_parts c w e es none = grind (arith, or_parts, is_free_call, list_any-append, false_from_ne_true, frees_decide)

pub frees_behind : (c : Config) (w : World) (e : Event) (es : List Event) → FreesNoneFrom c w (e ∷ es)
    → FreesNoneFrom c (world_behind c w e) es
frees_behind c w e es none = (free_parts c w e es none).1

pub frees_second : (c : Config) (w : World) (xs ys : List Event) → FreesNoneFrom c w (xs ++ ys)
    → FreesNoneFrom c (left_from c w xs) ys
frees_second c w xs ys none = grind (arith, or_parts, is_free_call, list_any-append, calls_append)

pub none_freed_from : (c : Config) (w : World) (es : List Event) → FreesNoneFrom c w es
    → FreesNone w.allocations (left_from c w es).allocations
unfolding left_from
none_freed_from c w [] none = λ n. refl
none_freed_from c w (e ∷ es) none =
    let parts = free_parts c w e es none in
    let on : World = world_behind c w e in
    frees_then w.allocations on.allocations (left_from c on es).allocations
    (frees_by c w.now (flight_of w.now e.seat) e.step w.allocations parts.0) (none_freed_from c on es parts.1)

-- Where no cycle is on and none begins, none ends, and nothing is released.
pub record Rests (c : Config) (w : World) (es : List Event) : Type 0 where
  pub phase : phase_of (left_from c w es).now.words ≡ 0
  pub found : found_by_ends_from c w es ≡ []
  pub count : ends es ≡ 0
  pub released : ReleasesNone w.allocations (left_from c w es).allocations

pub rests : (c : Config) (w : World) (es : List Event) → AreEnabledFrom c w es → phase_of w.now.words ≡ 0
    → has_step is_begin es ≡ false → has_step is_over es ≡ false → Rests c w es
unfolding left_from found_by_ends_from
rests c w [] on idle begins overs = grind (arith, same_releases)
rests c w (e ∷ es) on idle begins overs =
    let behind : World = world_behind c w e in
    let begin = or_parts (is_begin e.step) (has_step is_begin es) begins in
    let over = or_parts (is_over e.step) (has_step is_over es) overs in
    let moves = moves_phase c w e es on in
    let one : (phase_behind e.step 0 ≡ 0) × (is_end e.step ≡ false) × (is_release e.step ≡ false) = grind arith in
    let next = moves.1 ∙ ap (phase_behind e.step) idle ∙ one.0 in
    let rest = rests c behind es moves.2 next begin.1 over.1 in
    record {
      phase = rest.phase;
      found = found-none c w e es one.1 ∙ rest.found;
      count = no_end-cons e es one.1 ∙ rest.count;
      released = releases_then (releases_by c w.now (flight_of w.now e.seat) e.step w.allocations one.2) rest.released;
    }

-- Where a cycle is on, which ends, and none begins, that is the only end.
pub record EndsOnce (c : Config) (w : World) (es : List Event) : Type 0 where
  pub finds : List PlacedAllocation
  pub phase : phase_of (left_from c w es).now.words ≡ 0
  pub found : found_by_ends_from c w es ≡ finds ∷ []
  pub count : ends es ≡ 1
  pub earlier : length w.allocations ≤ length finds
  pub freed : FreesNone finds (left_from c w es).allocations
  pub released : ReleasesNone finds (left_from c w es).allocations

-- The phase is one of a cycle.
pub record IsOn (phase : ℕ) : Type 0 where
  pub least : 1 ≤ phase
  pub most : phase ≤ 4

pub grows_by : (c : Config) (w : World) (e : Event) → length w.allocations ≤ length (world_behind c w e).allocations
grows_by c w e = (step_later c w.now (flight_of w.now e.seat) e.step w.allocations).count

module _ (c : Config) (w : World) (e : Event) (es : List Event) (on : AreEnabledFrom c w (e ∷ es)) (begins : has_step
    is_begin (e ∷ es) ≡ false) (overs : has_step is_over (e ∷ es) ≡ false) (frees : FreesNoneFrom c w (e ∷ es)) where
  abbrev behind : World
  behind = world_behind c w e

  ends_here : is_end e.step ≡ true → EndsOnce c w (e ∷ es)
  unfolding left_from
  ends_here is =
      let moves = moves_phase c w e es on in
      let rest = rests c behind es moves.2 (moves.1 ∙ (grind arith)) (or_parts (is_begin e.step)
      (has_step is_begin es) begins).1 (or_parts (is_over e.step) (has_step is_over es) overs).1 in
      record {
        finds = w.allocations;
        phase = rest.phase;
        found = found-one c w e es is ∙ ap (λ (l : List (List PlacedAllocation)). w.allocations ∷ l) rest.found;
        count = (counts_one (is_end e.step) (ends (e ∷ es)) (ends es) (
            sum_by-cons (λ (x : Event). cond (is_end x.step) 1 0) e es) is) ∙ ap (λ (n : ℕ). 1 + n) rest.count;
        earlier = omega arith;
        freed = none_freed_from c w (e ∷ es) frees;
        released =
            subst (λ (l : List PlacedAllocation). ReleasesNone l (left_from c behind es).allocations)
            (grind arith) rest.released;
      }

  ends_later : is_end e.step ≡ false → EndsOnce c behind es → EndsOnce c w (e ∷ es)
  unfolding left_from
  ends_later none rest = grind (arith, found-none, no_end-cons, grows_by)

pub ends_once : (c : Config) (w : World) (es : List Event) → AreEnabledFrom c w es → IsOn (phase_of w.now.words)
    → has_step is_begin es ≡ false → has_step is_over es ≡ false → FreesNoneFrom c w es → has_step is_end es ≡ true
    → EndsOnce c w es
ends_once c w [] on phase begins overs frees ends_in = absurd (true≢false (sym ends_in))
ends_once c w (e ∷ es) on phase begins overs frees ends_in =
    let moves = moves_phase c w e es on in
    ⊎_elim (ends_here c w e es on begins overs frees) (λ (none : is_end e.step ≡ false). ends_later c w e es on begins
    overs frees none (ends_once c (world_behind c w e) es moves.2 (subst IsOn (sym moves.1) (
    grind arith)) (or_parts (is_begin e.step) (has_step is_begin es) begins).1 (or_parts (is_over e.step) (has_step
    is_over es) overs).1 (free_parts c w e es frees).1 (sym (ap (λ (b : Bool). b || has_step is_end es) none) ∙
    ends_in))) (cases_Bool _)
