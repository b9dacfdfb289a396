-- One step of tracing: it may come, and leaves alone what tracing doesn't touch.
use Rattle.std.proofs.lemmas.List.Sums.{sum_by-append}
use Rattle.mk_words.proofs.Below.Laws.Vocabulary.{Bool, Caller, Config, Event, Flight, Holds, Host, List, Marker}
use Rattle.mk_words.proofs.Below.Laws.Vocabulary.{Moment, None, Object, Op, Option, Place, Seat, Some, Stage, Step}
use Rattle.mk_words.proofs.Below.Laws.Vocabulary.{Word, Words, World, ℕ, and_from, answer_decided, ap, append-nil}
use Rattle.mk_words.proofs.Below.Laws.Vocabulary.{arith, at_rest, calls, comes_next, ends, eq-eqb, false, flight_of}
use Rattle.mk_words.proofs.Below.Laws.Vocabulary.{group_of, has_gates, has_phase, holder_may, is_end, is_in_range}
use Rattle.mk_words.proofs.Below.Laws.Vocabulary.{is_of_turn, is_phase, left, lt-ltb, marker_at, marker_may}
use Rattle.mk_words.proofs.Below.Laws.Vocabulary.{marks_place, not, not-true, outside, phase_of, progress, refl}
use Rattle.mk_words.proofs.Below.Laws.Vocabulary.{seat_exists, set-get_or, still, subst, sym, true, [], ◌++◌, ◌∙◌, ◌∷◌}
use Rattle.mk_words.proofs.Below.Laws.Vocabulary.{◌≡◌}
use Rattle.mk_cycle.specs.{Stops.{HolderIsLoaded, is_loaded, is_loaded_at}, Tracing.{is_tracing, untouched_of}}
use Rattle.mk_core.{proofs.{Conditions.meets_enabled, Histories.calls_more}, specs.Frames.{CountsAreLeft}}
use Rattle.mk_core.specs.{Conditions.{comes_next_to_host, is_in_order, is_of_any_holder}, Effects.flights_behind}
use Rattle.mk_words.{proofs.Undecided.{decides_nothing}, specs.TurnSteps.{Acts, IsStopped, world_at}}
use Rattle.mk_words.specs.{States.{PassState, TurnState, call_of, now_of, world_of}, Steps.{IsEnabledTo, Makes}}

pub others_leave_untouched : {p q : PassState} {s : Step} (a : Acts p s q) → IsStopped p
    → untouched_of (world_at a.makes) ≡ untouched_of (world_of p)
others_leave_untouched a gates = grind (arith, a.stop (a.holds, gates))

-- Any step of a holder comes next, where the call has loaded what it loads.

next_at : (t : Stage) (o : Op) (s : Step) → is_loaded_at t ≡ true → is_of_any_holder s ≡ true → comes_next t o s ≡ true
next_at Stage.Turn o s l h = grind arith
next_at Stage.Give o s l h = h
next_at _ o s l h = cc

host_next : (b : Bool) (s : Step) → b ≡ true → is_of_any_holder s ≡ true → comes_next_to_host b s ≡ true
host_next b s e h = grind (arith, and_from)

in_order_of : (c : Config) (m : Moment) (seat : Seat) (s : Step) → Holds c m seat
    → is_loaded seat (flight_of m seat) ≡ true → is_of_any_holder s ≡ true → is_in_order c m seat s ≡ true
in_order_of c m x2 s holds loaded any = grind (arith, next_at, host_next, eq-eqb)

any_turn : (s : Step) → is_of_any_holder s ≡ true → is_of_turn (group_of s) ≡ true
any_turn s h = grind arith

pub exists_of : (c : Config) (m : Moment) (seat : Seat) → Holds c m seat → seat_exists c seat ≡ true
exists_of c m x2 holds = grind (arith, lt-ltb)

no_marker : (c : Config) (m : Moment) (seat : Seat) (s : Step) → Holds c m seat
    → ((x : Seat) → marker_may c outside s ≡ true) → marker_may c (marker_at m seat) s ≡ true
no_marker c m x2 s holds h = grind arith

module _ (t : TurnState) (s : Step) where
  abbrev pass : PassState
  pass = t.pass

  pub may_step : HolderIsLoaded pass → is_of_any_holder s ≡ true
      → is_in_range pass.table.config pass.seat (call_of pass) s ≡ true
      → has_gates pass.table.config (now_of pass).words pass.seat (call_of pass) s ≡ true
      → has_phase (phase_of (now_of pass).words) s ≡ true → marker_may pass.table.config outside s ≡ true
      → holder_may pass.table.config (now_of pass) (call_of pass) s ≡ true → IsEnabledTo pass s
  may_step ready any range gates phase marker own =
      grind (arith, meets_enabled, exists_of, any_turn, in_order_of, no_marker, t.in_order)

-- A step that doesn't go on with the call leaves the calls.

flights_stay : (c : Config) (m : Moment) (seat : Seat) (n : ℕ) (s : Step)
    → ((f : Flight) → (progress c m f n s).flight ≡ f) → flights_behind c m seat n s ≡ m.seats.flights
flights_stay c m (Caller k) n s still = cc (still (flight_of m (Caller k)), set-get_or m.seats.flights k at_rest)
flights_stay c m (Marker k) n s still = refl
flights_stay c m Host n s still = refl

-- looks that decide nothing
abbrev pub is_quiet : Step → Bool
is_quiet (Step.Look (Word.Quar p)) = false
is_quiet s = is_tracing s

look_still : (c : Config) (m : Moment) (x : Word) (n : ℕ) → is_quiet (Step.Look x) ≡ true → (f : Flight)
    → (progress c m f n (Step.Look x)).flight ≡ f
look_still c m x n h f = grind arith

-- no place gets marks in the stop
no_place_marked : (w : Words) (o : Object) (place : Option Place) (page value : ℕ) → is_phase w 1 ≡ false
    → marks_place w o place page value ≡ false
no_place_marked w o None page value h = refl
no_place_marked w o (Some x) page value h = grind arith

with_flights : (w : World) (fs : List Flight) → fs ≡ w.now.seats.flights
    → record (untouched_of w) { flights = fs } ≡ untouched_of w
with_flights w fs e = ap (λ (gs : List Flight). record (untouched_of w) { flights = gs }) e

-- a mark while no place is being marked
abbrev pub is_late : Words → Step → Bool
is_late w (Step.Mark p v) = not (is_phase w 1)
is_late w _ = true

-- No cycle ends, and no call is decided.

ends_more : (es : List Event) (e : Event) → is_end e.step ≡ false → ends (es ++ e ∷ []) ≡ ends es
ends_more es e none = grind (arith, sum_by-append)

no_call_more : (c : Config) (es : List Event) (e : Event) → answer_decided c (left c es).now e ≡ None
    → calls c (es ++ e ∷ []) ≡ calls c es
no_call_more c es e none = grind (arith, calls_more, append-nil)

quiet_ends_nothing : (s : Step) → is_quiet s ≡ true → is_end s ≡ false
quiet_ends_nothing Step.End h = cc
quiet_ends_nothing _ h = refl

counts_more : (c : Config) (es : List Event) (seat : Seat) (s : Step) → is_quiet s ≡ true
    → CountsAreLeft c es (es ++ record { seat = seat; step = s } ∷ [])
counts_more c es seat s h = grind (arith, ends_more, quiet_ends_nothing, no_call_more, decides_nothing)

module _ {p q : PassState} {s : Step} (a : Acts p s q) (quiet : is_quiet s ≡ true) where
  pub step_counts : CountsAreLeft p.table.config p.seen q.seen
  step_counts =
      let es : List Event = p.seen ++ a.makes.others in
      let more = counts_more p.table.config es p.seat s quiet in
      subst (λ (x : PassState). CountsAreLeft p.table.config p.seen x.seen) (sym a.makes.is)
      (record { ends = more.ends ∙ a.counts.ends; fulls = more.fulls ∙ a.counts.fulls })

  pub step_untouched : IsStopped p → is_late (world_at a.makes).now.words s ≡ true
      → untouched_of (world_of q) ≡ untouched_of (world_of p)
  step_untouched gates late = grind (
    arith,
    others_leave_untouched,
    with_flights,
    flights_stay,
    look_still,
    no_place_marked,
    not-true,
  )

-- the seat is as it was, and its call
pub still_ready : {p q : PassState} {s : Step} (m : Makes p s q) → untouched_of (world_of q) ≡ untouched_of (world_of p)
    → HolderIsLoaded p → HolderIsLoaded q
still_ready m same ready = grind arith
