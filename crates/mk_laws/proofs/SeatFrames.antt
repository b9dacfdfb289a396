-- The frame law of histories: what the events of others leave if all calls are admitted.
use Rattle.mk_laws.proofs.Vocabulary.{AreOfOthers, Caller, Config, Event, Flight, GuardPremisesFrom, Holds, IsHistory}
use Rattle.mk_laws.proofs.Vocabulary.{IsInCall, IsSound, KeepsRegisters, List, Moment, NeverState, None, Null, Num, Op}
use Rattle.mk_laws.proofs.Vocabulary.{PlacedAllocation, Ptr, Seat, Stage, Step, Value, World, Written, ℕ, admitted_keep}
use Rattle.mk_laws.proofs.Vocabulary.{and_from, and_parts, ap, append-nil, append_assoc, arith, asked, bases_of}
use Rattle.mk_laws.proofs.Vocabulary.{call_decided, cases_eq, comes_next, earlier_part_is_history, false, flight_of}
use Rattle.mk_laws.proofs.Vocabulary.{found, get_or_append_left, header_in, holder_number, image_scene_of, inl, inr}
use Rattle.mk_laws.proofs.Vocabulary.{is_mapped, is_one_of, is_unmapped_header, left, length, length-map, ltb-true}
use Rattle.mk_laws.proofs.Vocabulary.{never_behind, not, not-true, placed_at, progress, refl, register_at, slice_index}
use Rattle.mk_laws.proofs.Vocabulary.{sym, true, [], ◌*◌, ◌++◌, ◌+◌, ◌/◌, ◌<◌, ◌∙◌, ◌∷◌, ◌≡◌, ◌≢◌}
use Rattle.mk_laws.proofs.InvariantHistories.{reach_is_kept, told_to_guard, told_to_images}
use Rattle.mk_laws.proofs.{LastEvents.{Stands, comes_last, stands}, OtherCalls.{call_not_by, registers_are_left}}
use Rattle.mk_laws.proofs.{OthersLeave.{others_leave_headers, others_leave_wells}, RunsStill.holder_finds}
use Rattle.mk_laws.proofs.{ProtocolFrames.{in_call_stands, left_after, other_seat, others_leave}, Basics.{Known, Meets}}
use Rattle.mk_laws.proofs.Basics.{along_others, base_at, exists_placed, others_held, pointed_word, unmapped_is}
use Rattle.mk_laws.proofs.{EventSorts.held_idle, FramesLongerLists.begins_nothing, FreedRuns.never_after}
use Rattle.mk_laws.proofs.{ImagesHistories.one_event, ImagesMoves.IsLonger, ProbesStill.{pages_tell, ready}}
use Rattle.mk_never.specs.Laws.{LeadsTo, by_register}
use Rattle.mk_core.specs.{Frames.{AdmittedOthersLeave, HeapIsLeft, HoldsAll, TargetsAreLeft}, Readings.is_in_call}

-- An allocation to which a caller's register leads stays unreleased if it is so, and in a call of the caller mapped.

-- Allocations stay at their places.

longer_joined : (xs ys zs : List ℕ) → IsLonger xs ys → IsLonger ys zs → IsLonger xs zs
longer_joined xs ys zs a b = record { more = a.more ++ b.more; is = b.is ∙ rw a.is (append_assoc xs a.more b.more) }

bases_go_on : {c : Config} (seats : List Seat) (es more : List Event) → IsHistory c (es ++ more)
    → AreOfOthers seats more → IsLonger (bases_of (left c es).allocations) (bases_of (left c (es ++ more)).allocations)
bases_go_on {c} seats es more h others =
    along_others c seats (λ xs ys. IsLonger (bases_of (left c xs).allocations) (bases_of (left c ys).allocations))
    (λ xs. record { more = []; is = sym (append-nil _) }) (λ xs ys zs. longer_joined _ _ _) (λ xs e whole other.
    let last = comes_last c xs e whole in
    let st = stands c xs last.before in
    rw last.leaves (one_event c (left c xs) _ e st.known (told_to_images c (left c xs) _ st.known st.all)
    st.all.mirrors last.on last.admitted).bases) es more h others

same_place : (xs ys : List PlacedAllocation) (a : ℕ) → a < length xs → IsLonger (bases_of xs) (bases_of ys)
    → (placed_at ys a).base ≡ (placed_at xs a).base
same_place xs ys a lt longer = sym (base_at ys a) ∙ rw longer.is (get_or_append_left (bases_of xs) longer.more 0 a
    (omega (arith, length-map xs (λ (x : PlacedAllocation). x.base), lt)) ∙ base_at xs a)

module _ (c : Config) (es more : List Event) (k : ℕ) (h : IsHistory c (es ++ more))
    (others : AreOfOthers (Caller k ∷ []) more) where
  abbrev w : World
  w = left c es

  abbrev v : World
  v = left c (es ++ more)

  abbrev n : NeverState
  n = never_behind c es

  abbrev m : NeverState
  m = never_behind c (es ++ more)

  here : Stands c es
  here = stands c es (earlier_part_is_history c es more h)

  there : Stands c (es ++ more)
  there = stands c (es ++ more) h

  unreleased_still : (r a : ℕ) → r < 8 → LeadsTo (register_at n k r) a → (placed_at v.allocations a).released ≡ false
  unreleased_still r a lt leads = reach_is_kept c (es ++ more) h a (by_register (8 * k + r) a (rw
      (registers_are_left c es more k h others r lt) leads))

  pointer_still : (t o a : ℕ) (x : Value) → x ≡ Ptr a t o → IsSound n x → IsSound m x
      → (placed_at w.allocations a).released ≡ false → (placed_at v.allocations a).released ≡ false → IsInCall w.now
      (Caller k) → is_mapped c (placed_at w.allocations a) ≡ true → is_mapped c (placed_at v.allocations a) ≡ true
  pointer_still t o a x is sound sound' u u' call mapped =
      let lt = exists_placed w.allocations a u in
      let lt' = exists_placed v.allocations a u' in
      let inside = pointed_word c.globals _ (image_scene_of w) n (ready c w n here.known here.all) a t o
      (rw is at sound) in
      let inside' =
      pointed_word c.globals _ (image_scene_of v) m (ready c v m there.known there.all) a t o (rw is at sound') in
      let at = in_call_stands k here.known.now call in
      let own = others_leave c es more (Caller k) h.within_limits h.enabled others in
      let call' : is_in_call (flight_of v.now (Caller k)) ≡ true = rw own.own.flight call in
      let at' = in_call_stands k there.known.now call' in
      let before = (pages_tell c w n here.known here.all k at.0 at.1) a o u inside ∙ unmapped_is c w n here.known
      here.all.mirrors a lt ∙ (not-true _ (and_parts _ _ mapped).1) in
      let page : ((placed_at v.allocations a).base + o) / 64 ≡ ((placed_at w.allocations a).base + o) / 64 =
      rw (same_place w.allocations v.allocations a lt (bases_go_on (Caller k ∷ []) es more h others)) in
      let behind : is_unmapped_header (header_in v.now.words (((placed_at v.allocations a).base + o) / 64)) ≡ false =
      rw page ((own.in_call k refl call).mapped _ before) in
      let gone = sym (unmapped_is c v m there.known there.all.mirrors a lt')
      ∙ sym ((pages_tell c v m there.known there.all k at'.0 at'.1) a o u' inside') ∙ behind in
      and_from _ _ (ap not u') (ap not gone)

  mapped_still : (r a : ℕ) → r < 8 → LeadsTo (register_at n k r) a → IsInCall w.now (Caller k)
      → is_mapped c (placed_at w.allocations a) ≡ true → is_mapped c (placed_at v.allocations a) ≡ true
  mapped_still r a lt leads call mapped = by (register_at n k r) refl leads
    where
      by : (x : Value) → register_at n k r ≡ x → LeadsTo x a → is_mapped c (placed_at v.allocations a) ≡ true
      by (Ptr b t o) is e =
          let u = not-true _ (and_parts _ _ mapped).0 in
          let same : register_at m k r ≡ register_at n k r = registers_are_left c es more k h others r lt in
          pointer_still t o a (register_at n k r) (is ∙ rw e) (here.all.mirrors.typed.registers (8 * k + r))
          (rw same at (there.all.mirrors.typed.registers (8 * k + r))) u (unreleased_still r a lt leads) call mapped
      by Null is e = absurd e
      by (Num i) is e = absurd e

  pub targets_are_left : IsInCall w.now (Caller k) → TargetsAreLeft c es (es ++ more) k
  targets_are_left call =
      record { unreleased = unreleased_still; mapped = λ r a lt leads mapped. mapped_still r a lt leads call mapped }

-- A caller whose gate is held decides no call, so its registers stay as they are in the heap that never reuses storage.
-- If all gates are held, all of that heap stays.

-- Between calls nothing is decided.
idle_decides_nothing : (c : Config) (m : Moment) (f : Flight) (s : Stage) (o : Op) (n : ℕ) (x : Step) → s ≡ Stage.Idle
    → comes_next s o x ≡ true → (progress c m f n x).answer ≡ None
idle_decides_nothing c m f s o n x is h = grind (arith, begins_nothing)

held_decides_nothing : {c : Config} {m : Moment} (k : ℕ) (x : Step) → Known c m → Meets c m (Caller k) x
    → slice_index m.words.gates k ≡ 2 → asked (call_decided c m (record { seat = Caller k; step = x })) ≡ []
held_decides_nothing {c} {m} k x known h two =
    let f = flight_of m (Caller k) in
    rw (idle_decides_nothing c m f f.stage f.op (found c m (record { seat = Caller k; step = x })) x
    (held_idle k known.orderly (ltb-true k c.callers h.seat) two) h.order)

-- a caller whose gate the turn's holder holds

record HoldsGate (c : Config) (s : Seat) (k : ℕ) (w : World) : Type 0 where
  holds : Holds c w.now s
  gate : slice_index w.now.words.gates k ≡ 2

abbrev KeepsHeld : Config → Seat → ℕ → List Event → List Event → Type 0
KeepsHeld c s k es fs = HoldsGate c s k (left c es)
    → HoldsGate c s k (left c fs) × KeepsRegisters k (never_behind c es) (never_behind c fs)

held_step : {c : Config} (w : World) (n : NeverState) (seat : Seat) (x : Step) (k : ℕ) → Known c w.now
    → Meets c w.now seat x → slice_index w.now.words.gates k ≡ 2
    → (seat ≢ Caller k → KeepsRegisters k n (never_after c w n (record { seat = seat; step = x })))
    → KeepsRegisters k n (never_after c w n (record { seat = seat; step = x }))
held_step {c} w n (Caller j) x k known h two other = elim (cases_eq j k) [
  | inr ne ↦ other (λ e. grind arith)
  | inl e ↦ λ r lt. rw (held_decides_nothing j x known h (rw e two))
]
held_step w n _ x k known h two other = λ r lt. refl

held_one : (c : Config) (s : Seat) (k : ℕ) (es : List Event) (e : Event) → IsHistory c (es ++ e ∷ [])
    → is_one_of (s ∷ []) e.seat ≡ false → KeepsHeld c s k es (es ++ e ∷ [])
held_one c s k es e h other held =
    let last = comes_last c es e h in
    let known = (stands c es last.before).known.now in
    let own = left_after c (left c es) e.seat s e.step known last.meets (other_seat s e.seat other) in
    let turn = own.turn held.holds in (
      rw last.leaves (record { holds = (own.own.holding held.holds).0; gate = turn.held_gates k held.gate }),
      rw last.never (held_step (left c es) _ e.seat e.step k known last.meets held.gate
          (λ ne. admitted_keep c.globals _ k _ last.admitted (call_not_by c (left c es) e.seat e.step k ne))),
    )

pub held_registers : {c : Config} (s : Seat) (es more : List Event) (k : ℕ) → IsHistory c (es ++ more)
    → AreOfOthers (s ∷ []) more → Holds c (left c es).now s
    → slice_index (left c es).now.words.gates k ≡ 2 → KeepsRegisters k (never_behind c es) (never_behind c (es ++ more))
held_registers {c} s es more k h others holds two =
    (along_others c (s ∷ []) (KeepsHeld c s k) (λ xs held. (held, λ r lt. refl))
    (λ xs ys zs a b held. let x = a held in let y = b x.0 in (y.0, λ r lt. y.1 r lt ∙ x.1 r lt)) (held_one c s k) es
    more h others (record { holds = holds; gate = two })).1

-- if all other gates are held

abbrev KeepsAll : Config → Seat → List Event → List Event → Type 0
KeepsAll c s es fs = HoldsAll c (left c es).now s
    → HoldsAll c (left c fs).now s × (never_behind c fs ≡ never_behind c es)

other_number : (c : Config) (m : Moment) (s : Seat) (j : ℕ) → j < c.callers → Holds c m s → Caller j ≢ s
    → holder_number c s ≢ j
other_number c m s j lt holds ne = grind arith

all_step : {c : Config} (w : World) (n : NeverState) (s seat : Seat) (x : Step) → Known c w.now → Meets c w.now seat x
    → seat ≢ s → HoldsAll c w.now s → never_after c w n (record { seat = seat; step = x }) ≡ n
all_step {c} w n s (Caller j) x known h ne all =
    let lt = ltb-true j c.callers h.seat in
    grind (arith, held_decides_nothing, others_held, other_number)
all_step w n s _ x known h ne all = refl

all_one : (c : Config) (s : Seat) (es : List Event) (e : Event) → IsHistory c (es ++ e ∷ [])
    → is_one_of (s ∷ []) e.seat ≡ false → KeepsAll c s es (es ++ e ∷ [])
all_one c s es e h other all =
    let last = comes_last c es e h in
    let known = (stands c es last.before).known.now in
    let own = left_after c (left c es) e.seat s e.step known last.meets (other_seat s e.seat other) in
    let gates = ap (λ (y : Written). y.gates) (own.stop all) in (
      rw last.leaves ((own.own.holding all.0).0, rw gates all.1),
      last.never ∙ all_step (left c es) _ s e.seat e.step known last.meets (other_seat s e.seat other) all,
    )

pub never_stands_still : {c : Config} (s : Seat) (es more : List Event) → IsHistory c (es ++ more)
    → AreOfOthers (s ∷ []) more → HoldsAll c (left c es).now s → never_behind c (es ++ more) ≡ never_behind c es
never_stands_still {c} s es more h others all = (along_others c (s ∷ []) (KeepsAll c s) (λ xs a. (a, refl))
    (λ xs ys zs a b all. let x = a all in let y = b x.0 in (y.0, y.1 ∙ x.1)) (all_one c s) es more h others all).1

-- The layout and the zero words say to the guard what it asks, before each event.
said_along : {c : Config} (es more : List Event) → IsHistory c (es ++ more) → GuardPremisesFrom c (left c es) more
unfolding GuardPremisesFrom
said_along es [] h = tt
said_along {c} es (e ∷ more) h =
    let split : es ++ e ∷ more ≡ (es ++ e ∷ []) ++ more = sym (append_assoc es (e ∷ []) more) in
    let parts : IsHistory c ((es ++ e ∷ []) ++ more) = rw split at h in
    let last = comes_last c es e (earlier_part_is_history c (es ++ e ∷ []) more parts) in
    let st = stands c es last.before in (
      told_to_guard c (left c es) _ st.known st.all,
      rw last.leaves at (said_along (es ++ e ∷ []) more parts),
    )

heap_is_left : {c : Config} (es more : List Event) (s : Seat) → IsHistory c (es ++ more) → AreOfOthers (s ∷ []) more
    → Holds c (left c es).now s → HeapIsLeft c (left c es) (left c (es ++ more))
heap_is_left es more s h others holds = grind (arith, holder_finds, others_leave_wells)

pub admitted_others_leave : AdmittedOthersLeave
admitted_others_leave c es more s h others = record {
  registers = λ k r is lt. registers_are_left c es more k h (rw is at others) r lt;
  in_call = λ k is call. targets_are_left c es more k h (rw is at others) (rw is at call);
  turn = heap_is_left es more s h others;
  held = λ holds k r lt two. held_registers s es more k h others holds two r lt;
  stop = never_stands_still s es more h others;
  scan = others_leave_headers c es more s h.within_limits h.enabled others (said_along es more h);
}
