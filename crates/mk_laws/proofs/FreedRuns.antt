-- The run that a Free unmaps is what its register points to.
use Rattle.mk_laws.proofs.Vocabulary.{Answer, AreAdmitted, Bool, Caller, CarriesOwn, Cell, Config, Event, Flight}
use Rattle.mk_laws.proofs.Vocabulary.{Header, Holding, Host, ImagePremises, IsSafe, IsSound, Marker, Mirrors, Moment}
use Rattle.mk_laws.proofs.Vocabulary.{NeverState, None, Null, Op, Option, PlacedAllocation, Ptr, RunPages, Seat, Some}
use Rattle.mk_laws.proofs.Vocabulary.{Stage, Step, Value, Words, World, ℕ, admitted_keep, after_calls, after_free, ap}
use Rattle.mk_laws.proofs.Vocabulary.{arith, asked, at_rest, bases_of, call_decided, cases_Bool, cases_eq, cases_lt}
use Rattle.mk_laws.proofs.Vocabulary.{cell_freed, cell_of_allocation, entry_of, false, false≢true, first_page_shows}
use Rattle.mk_laws.proofs.Vocabulary.{flight_of, found, freed_cell, get_or-set_other, get_or-set_same}
use Rattle.mk_laws.proofs.Vocabulary.{get_or_append_left, get_or_past, header_in, heads_run, if◌then◌else◌, image_of}
use Rattle.mk_laws.proofs.Vocabulary.{image_scene_of, inl, inr, is_decided_free, is_decided_free_at, is_small_object}
use Rattle.mk_laws.proofs.Vocabulary.{is_undecided_free, is_undecided_new, length, length-map, ltb-true, object_placed}
use Rattle.mk_laws.proofs.Vocabulary.{or_else, p_of, placed_at, pointed_cell, progress, progress_freed, refl}
use Rattle.mk_laws.proofs.Vocabulary.{register_at, run_begins, run_headed, run_of_cell, set_by, slice_index_or}
use Rattle.mk_laws.proofs.Vocabulary.{slice_set, small_heads_none, still, subst, sym, true, typed_size, world_behind}
use Rattle.mk_laws.proofs.Vocabulary.{◌%◌, ◌&&◌, ◌*◌, ◌+◌, ◌/◌, ◌<◌, ◌∙◌, ◌≡◌, ◌≢◌, ◌⊎◌}
use Rattle.mk_never.specs.Laws.{AreNotBy}
use Rattle.mk_core.specs.{Effects.holding_behind, Conditions.is_of_any_holder}
use Rattle.mk_laws.proofs.Basics.{HoldsTurn, InCall, KnownWorld, Meets, Orderly, Ready, Stands, View, actor_of, base_at}
use Rattle.mk_laws.proofs.Basics.{flight, flight_in, not_astray, ready_of, standing, standing_at, stands_of, view_of}
use Rattle.mk_laws.proofs.ProtocolMoves.{Enters, Gives, GoesOn, Holds, Leaves, Move as ProtocolMove, Takes, Works}
use Rattle.mk_laws.proofs.{CallSorts.literal, FramesHolders.acts_as_holder, GrantMoves.pointer_cell}
use Rattle.mk_laws.proofs.{ImagesBefore.page_in, ImagesMoves.IsLonger, Orderly.{holders_flight, same_holder}}
use Rattle.mk_laws.proofs.{Sorts.moves, Standings.{Resting, Standing, UnderTurn}}
use Rattle.mk_laws.proofs.Mirrors.{OwnsFreedRun, PointsAtRun}

-- Only a Free that is decided unmaps a run, and that call holds the turn.

pub decided_free_stands : (s : Stage) (o : Op) → is_decided_free_at s o ≡ true → standing_at s o ≡ UnderTurn
decided_free_stands Stage.Give (Op.Free p) h = refl
decided_free_stands _ _ h = cc

pub decided_free_gives : (s : Stage) (o : Op) → is_decided_free_at s o ≡ true → s ≡ Stage.Give
decided_free_gives Stage.Give o h = refl
decided_free_gives _ _ h = cc

pub frees_run : {c : Config} (m : Moment) (k : ℕ) (run : RunPages) → Orderly c (view_of m) → HoldsTurn c (view_of m)
    (Caller k) → m.seats.holding.freed ≡ Some run → is_decided_free (flight_of m (Caller k)) ≡ true
frees_run {c} m k run o hold e = rw (holders_flight (Caller k) o hold) at (o.served.freed (rw e))

-- While a New is undecided no run is freed.
pub new_frees_none : {c : Config} (m : Moment) (k : ℕ) (run : RunPages) → Orderly c (view_of m) → HoldsTurn c
    (view_of m) (Caller k) → is_undecided_new (flight_of m (Caller k)) ≡ true → m.seats.holding.freed ≢ Some run
new_frees_none m k run o hold new e = grind (arith, frees_run)

-- the heap that never reuses storage, after an event
abbrev pub never_after : Config → World → NeverState → Event → NeverState
never_after c w n e = after_calls n (asked (call_decided c w.now e))

abbrev event_of : Seat → Step → Event
event_of seat x = record { seat = seat; step = x }

-- the run that is freed after a step
abbrev freed_behind : Config → World → Seat → Flight → Step → Option RunPages
freed_behind c w seat f x =
    (holding_behind c w.now seat f (found c w.now (event_of seat x)) x w.now.seats.holding).freed

abbrev gives : Step → Bool
gives Step.Give = true
gives _ = false

-- It was freed before, or is freed by this step.
data WasFreed (c : Config) (w : World) (f : Flight) (run : RunPages) : Step → Type 0 where
  Before : {x : Step} → w.now.seats.holding.freed ≡ Some run → gives x ≡ false → WasFreed c w f run x
  Now : (p v : ℕ) → run_of_cell w.now.words (cell_freed c.pages w.now.words f p v) ≡ Some run
      → WasFreed c w f run (Step.Quar p v)

else_freed : (x y : Option RunPages) (run : RunPages) → or_else x y ≡ Some run → (x ≡ Some run) ⊎ (y ≡ Some run)
else_freed None y run e = inr e
else_freed (Some r) y run e = inl e

was_freed : (c : Config) (w : World) (seat : Seat) (f : Flight) (x : Step) (run : RunPages)
    → freed_behind c w seat f x ≡ Some run → WasFreed c w f run x
was_freed c w seat f (Step.Quar p v) run e = elim (else_freed _ w.now.seats.holding.freed run e) [
  | inl new ↦ Now p v new
  | inr old ↦ Before old refl
]
was_freed c w seat f x run e = grind (arith, Before)

-- Who is under the turn after a step of its own was so before, if somebody had the turn.

holds_now : (c : Config) (v : View) (seat : Seat) (k : ℕ) → seat ≡ Caller k → HoldsTurn c v seat
    → standing (flight_in v k) ≡ UnderTurn
holds_now c v seat k e hold = grind (arith, standing, flight_in)

set_under : (v : View) (j k : ℕ) (f : Flight) (s : Standing) → standing f ≡ s → s ≢ UnderTurn
    → standing (slice_index_or (slice_set v.flights j f) k at_rest) ≡ UnderTurn → standing (flight_in v k) ≡ UnderTurn
set_under v j k f s is ne = set_by (λ (x : Flight). standing x ≡ UnderTurn
    → standing (flight_in v k) ≡ UnderTurn) v.flights j k f at_rest (λ e h. absurd (ne (sym is ∙ h))) (λ h. h)

was_under : (c : Config) (v : View) (seat : Seat) (u : View) (k : ℕ) → ProtocolMove c v seat u → seat ≡ Caller k
    → v.turn ≢ 0 → standing (flight_in u k) ≡ UnderTurn → standing (flight_in v k) ≡ UnderTurn
was_under c v seat u k (Enters {k = j} f a b d g) e t h = set_under v j k f InCall g (λ x. cc) h
was_under c v seat u k (GoesOn {k = j} f a b d) e t h = set_under v j k f InCall d (λ x. cc) h
was_under c v seat u k (Leaves {k = j} a b) e t h = set_under v j k at_rest Resting refl (λ x. cc) h
was_under c v seat u k (Takes f z m) e t h = absurd (t z)
was_under c v seat u k (Gives hold a b) e t h = holds_now c v seat k e hold
was_under c v seat u k (Works f g hold s) e t h = holds_now c v seat k e hold
was_under c v seat u k (Holds j hold a b d) e t h = holds_now c v seat k e hold
was_under c v seat u k x6 e t h = grind (arith, holds_now)

-- At Give a holder's step but `give` leaves the call as it is.

give_still : (c : Config) (m : Moment) (o : Op) (q p r l n : ℕ) (x : Step) → is_of_any_holder x ≡ true → gives x ≡ false
    → progress c m (flight Stage.Give o q p r l) n x ≡ still (flight Stage.Give o q p r l)
give_still c m o q p r l n x h g = grind (arith, flight)

no_run : (w : Words) (b : Bool) (run : RunPages) → run_of_cell w (if b && false then None else None) ≡ Some run → ⊥
no_run w true run e = cc
no_run w false run e = cc

-- what heads a run
headed : (h : Option Header) (page : ℕ) (run : RunPages) → run_headed h page ≡ Some run
    → (run.page ≡ page) × (heads_run h ≡ true)
headed h page run e = grind (arith, page_in)

free_keeps : (n : NeverState) (v : Value) (k r : ℕ) → register_at (after_free n v) k r ≡ register_at n k r
free_keeps n Null k r = refl
free_keeps n _ k r = cc

pub not_by : (j k : ℕ) (o : Op) (a : Option Answer) → j ≢ k → AreNotBy k (asked (entry_of j o a))
not_by j k o None ne = tt
not_by j k o (Some a) ne = (ne, tt)

module _ (c : Config) (w : World) (n : NeverState) (known : KnownWorld c w) (others : ImagePremises c w)
    (mirrors : Mirrors c w n) where
  st : Stands c w.now.words w.allocations
  st = stands_of c w known.limits others

  ready : Ready c.globals mirrors.safe.0 (image_scene_of w) n
  ready = ready_of c w n known mirrors st mirrors.safe.0 mirrors.safe.1

  -- what a register points at is there after the event
  points_on : (e : Event) {k r : ℕ} {run : RunPages} → IsLonger (bases_of w.allocations)
      (bases_of (world_behind c w e).allocations) → register_at (never_after c w n e) k r ≡ register_at n k r
      → PointsAtRun w n k r run → PointsAtRun (world_behind c w e) (never_after c w n e) k r run
  points_on e {k = k} {r = r} grows same h =
      let sound : IsSound n (Ptr h.number h.ty h.offset) = rw h.is at (mirrors.typed.registers (8 * k + r)) in
      let longs = length-map w.allocations (λ (x : PlacedAllocation). x.base) in
      record {
        number = h.number;
        ty = h.ty;
        offset = h.offset;
        is = same ∙ h.is;
        base = sym (base_at _ h.number) ∙ rw grows.is (get_or_append_left _ grows.more 0 h.number
            (omega (arith, mirrors.twins.count)) ∙ base_at w.allocations h.number ∙ h.base);
      }

  -- the target of a Free that is a run
  run_target : (k r : ℕ) (v : Value) (p : ℕ) (cell : Cell) (run : RunPages) → register_at n k r ≡ v → IsSound n v
      → IsSafe mirrors.safe.0 v → p ≡ image_of (bases_of w.allocations) v → p ≢ 0
      → pointed_cell c.pages w.now.words.pages p ≡ Some cell → run_of_cell w.now.words (Some cell) ≡ Some run
      → PointsAtRun w n k r run
  run_target k r (Ptr a t o) p cell run is sound s e ne points heads =
      let u = mirrors.safe.1.unreleased a s in
      let x = placed_at w.allocations a in
      let h = others.laid_out a u in
      let sized = typed_size c x known.limits h.stands.typed in
      let cells : Some cell ≡ Some (cell_of_allocation c x) = sym points
      ∙ pointer_cell c w n known mirrors mirrors.safe.0 ready st a t o p sound s e in
      let its = headed (header_in w.now.words (x.base / 64)) (x.base / 64) run (ap (run_of_cell w.now.words) (sym cells)
      ∙ heads) in
      let start : x.base % 64 ≡ 0 = elim (cases_Bool (is_small_object (object_placed c x))) [
        | inl small ↦ absurd (false≢true (sym (small_heads_none (object_placed c x) 0 _
            (first_page_shows c w.now.words x sized h.headers) small).0 ∙ its.1))
        | inr large ↦ (run_begins (object_placed c x) x.base large h.stands.begins).1
      ] in
      record { number = a; ty = t; offset = o; is = is; base = omega (arith, its.0) }
  run_target k r x3 p cell run is sound s e ne points heads = grind arith

  new_by : (k : ℕ) (s : Stage) (o : Op) (q p r l : ℕ) (cell : Cell) (run : RunPages)
      → is_undecided_free (flight s o q p r l) ≡ true → pointed_cell c.pages w.now.words.pages p ≡ Some cell
      → run_of_cell w.now.words (Some cell) ≡ Some run → CarriesOwn (bases_of w.allocations) n k (flight s o q p r l)
      → PointsAtRun w n k (p_of o) run
      × (register_at (after_calls n (asked (entry_of k o (Some Answer.Done)))) k (p_of o) ≡ register_at n k (p_of o))
  new_by k Stage.Turn (Op.Free p') q p r l cell run undecided points heads car = (
    run_target k p' _ p cell run refl (mirrors.typed.registers (8 * k + p'))
        (mirrors.safe.1.registers (8 * k + p')) (car.p refl) (car.some_p refl) points heads,
    free_keeps n _ k p',
  )
  new_by k _ _ q p r l cell run undecided points heads car = absurd (false≢true undecided)

  turn_taken : (run : RunPages) → w.now.seats.holding.freed ≡ Some run → w.now.words.turn ≢ 0
  turn_taken run old z = let e : None ≡ Some run = ap (λ (h : Holding). h.freed) (sym (known.now.orderly.free z))
      ∙ old in cc

  -- what the group says after the step of a seat
  abbrev OwnsBehind : Seat → Step → RunPages → ℕ → Type 0
  OwnsBehind seat x run k = is_decided_free (flight_of (world_behind c w (event_of seat x)).now (Caller k)) ≡ true
      → PointsAtRun (world_behind c w (event_of seat x)) (never_after c w n (event_of seat x)) k
      (p_of (flight_of (world_behind c w (event_of seat x)).now (Caller k)).op) run

  abbrev GrowsBehind : Seat → Step → Type 0
  GrowsBehind seat x = IsLonger (bases_of w.allocations) (bases_of (world_behind c w (event_of seat x)).allocations)

  -- the holder's own step, if the run was freed before
  own_old : (k : ℕ) (x : Step) (run : RunPages) → Meets c w.now (Caller k) x → GrowsBehind (Caller k) x
      → w.now.seats.holding.freed ≡ Some run → gives x ≡ false → OwnsBehind (Caller k) x run k
  own_old k x run h grows old g free =
      let e = event_of (Caller k) x in
      let lt = ltb-true k c.callers h.seat in
      let f = flight_of w.now (Caller k) in
      let behind = flight_of (world_behind c w e).now (Caller k) in
      let under = decided_free_stands behind.stage behind.op free in
      let was = was_under c (view_of w.now) (Caller k) _ k (moves (not_astray c w.now known.now.orderly)
      (actor_of c w.now (Caller k) x known.now.orderly h) h) refl (turn_taken run old) under in
      let was_free = frees_run w.now k run known.now.orderly (lt, was) old in
      let at_give = decided_free_gives f.stage f.op was_free in
      let lit = literal f Stage.Give at_give in
      let any : is_of_any_holder x ≡ true = rw at_give at h.order in
      let stays : progress c w.now f (found c w.now e) x ≡ still f =
      cc (lit, give_still c w.now f.op f.q f.p f.r f.loaded (found c w.now e) x any g) in
      let there : k < length w.now.seats.flights = (let l = known.now.orderly.flights in omega (arith, l)) in
      let same : behind ≡ f = get_or-set_same w.now.seats.flights k _ at_rest there ∙ rw stays in
      let never : never_after c w n e ≡ n = rw stays in
      rw same (points_on e grows (rw never) (mirrors.freed_run run old k was_free))

  -- the step of another caller
  other_old : (j k : ℕ) (x : Step) (run : RunPages) → j ≢ k → GrowsBehind (Caller j) x
      → AreAdmitted c.globals n (asked (call_decided c w.now (event_of (Caller j) x)))
      → w.now.seats.holding.freed ≡ Some run → OwnsBehind (Caller j) x run k
  other_old j k x run ne grows ad old free =
      let same : flight_of (world_behind c w (event_of (Caller j) x)).now (Caller k) ≡ flight_of w.now (Caller k) =
      get_or-set_other w.now.seats.flights j k _ at_rest (λ y. ne (sym y)) in
      rw same (points_on (event_of (Caller j) x) grows (admitted_keep c.globals n k _ ad (not_by j k _ _ ne) _
      (ready.small k).1) (mirrors.freed_run run old k (rw same at free)))

  -- a run that is freed by this step
  own_new : (k p v : ℕ) (run : RunPages) (y : Option Cell) → k < c.callers → GrowsBehind (Caller k) (Step.Quar p v)
      → cell_freed c.pages w.now.words (flight_of w.now (Caller k)) p v ≡ y
      → run_of_cell w.now.words y ≡ Some run → OwnsBehind (Caller k) (Step.Quar p v) run k
  own_new k p v run None lt grows e heads free = cc
  own_new k p v run (Some cell) lt grows e heads free =
      let ev = event_of (Caller k) (Step.Quar p v) in
      let f = flight_of w.now (Caller k) in
      let freed = freed_cell c.pages w.now.words f p v cell e in
      let new = new_by k f.stage f.op f.q f.p f.r f.loaded cell run freed.free freed.pointed heads
      (mirrors.images.carried k) in
      let there : k < length w.now.seats.flights = (let l = known.now.orderly.flights in omega (arith, l)) in
      let same : (flight_of (world_behind c w ev).now (Caller k)).op ≡ f.op = ap (λ (y : Flight). y.op) (get_or-set_same
      w.now.seats.flights k _ at_rest there) ∙ ap (λ (y : Option Cell). (progress_freed f y).flight.op) e in
      let never : never_after c w n ev ≡ after_calls n (asked (entry_of k f.op (Some Answer.Done))) =
      ap (λ (y : Option Cell). after_calls n (asked (entry_of k f.op (progress_freed f y).answer))) e in
      subst (λ (o : Op). PointsAtRun (world_behind c w ev) (never_after c w n ev) k (p_of o) run) (sym same)
      (points_on ev grows (ap (λ m. register_at m k (p_of f.op)) never ∙ new.1) new.0)

  -- Two callers are never under the turn.
  other_new : (j k p v : ℕ) (run : RunPages) → j ≢ k → Meets c w.now (Caller j) (Step.Quar p v)
      → OwnsBehind (Caller j) (Step.Quar p v) run k
  other_new j k p v run ne h free =
      let same : flight_of (world_behind c w (event_of (Caller j) (Step.Quar p v))).now (Caller k)
      ≡ flight_of w.now (Caller k) = get_or-set_other w.now.seats.flights j k _ at_rest (λ y. ne (sym y)) in
      let was : is_decided_free (flight_of w.now (Caller k)) ≡ true = rw same at free in
      let holds = acts_as_holder c w.now (Caller j) (Step.Quar p v)
      (actor_of c w.now (Caller j) (Step.Quar p v) known.now.orderly h) refl in
      let one : Caller j ≡ Caller k = same_holder c (view_of w.now) _ _ known.now.orderly holds
      (there k was, decided_free_stands _ _ was) in
      absurd (ne (let e : j ≡ k = cc in e))
    where
      there : (k : ℕ) → is_decided_free (flight_of w.now (Caller k)) ≡ true → k < c.callers
      there k free = grind (arith, cases_lt, get_or_past)

  caller_owns : (j : ℕ) {x : Step} → Meets c w.now (Caller j) x → GrowsBehind (Caller j) x
      → AreAdmitted c.globals n (asked (call_decided c w.now (event_of (Caller j) x)))
      → {run : RunPages} → WasFreed c w (flight_of w.now (Caller j)) run x → (k : ℕ) → OwnsBehind (Caller j) x run k
  caller_owns j {x = x} h grows ad {run = run} (Before old g) k = elim (cases_eq j k) [
    | inl e ↦ subst (λ (i : ℕ). OwnsBehind (Caller j) x run i) e (own_old j x run h grows old g)
    | inr ne ↦ other_old j k x run ne grows ad old
  ]
  caller_owns j h grows ad {run = run} (Now p v heads) k = elim (cases_eq j k) [
    | inl e ↦ subst (λ (i : ℕ). OwnsBehind (Caller j) (Step.Quar p v) run i) e (own_new j p v run (cell_freed c.pages
        w.now.words (flight_of w.now (Caller j)) p v) (ltb-true j c.callers h.seat) grows refl heads)
    | inr ne ↦ other_new j k p v run ne h
  ]

  -- If no call is in flight, it was freed before.
  was_before : {x : Step} {run : RunPages} → WasFreed c w at_rest run x → w.now.seats.holding.freed ≡ Some run
  was_before (Before old g) = old
  was_before {run = run} (Now p v heads) = absurd (no_run w.now.words _ run heads)

  pub owns : (seat : Seat) (x : Step) → Meets c w.now seat x → GrowsBehind seat x
      → AreAdmitted c.globals n (asked (call_decided c w.now (event_of seat x)))
      → OwnsFreedRun (world_behind c w (event_of seat x)) (never_after c w n (event_of seat x))
  owns (Caller j) x h grows ad run e k free = caller_owns j h grows ad (was_freed c w (Caller j) _ x run e) k free
  owns Host x h grows ad run e k free =
      let old = was_before (was_freed c w Host at_rest x run e) in
      points_on (event_of Host x) grows refl (mirrors.freed_run run old k free)
  owns (Marker j) x h grows ad run e k free =
      let old = was_before (was_freed c w (Marker j) at_rest x run e) in
      points_on (event_of (Marker j) x) grows refl (mirrors.freed_run run old k free)
