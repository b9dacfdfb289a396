-- What always holds of the host holds of the first, and is kept where a caller or a marker is made or joined.
use Rattle.std.proofs.{Common.{IsSome, replicate, ⊎_elim}, lemmas.List.{get_or-replicate, length-replicate}}
use Rattle.mk_alloc.proofs.Below.Laws.Vocabulary.{Bool, Caller, Config, Event, Host, IsEnabled, IsHistory}
use Rattle.mk_alloc.proofs.Below.Laws.Vocabulary.{IsWithinLimits, List, Marker, Moment, None, Option, Seat, Some, Step}
use Rattle.mk_alloc.proofs.Below.Laws.Vocabulary.{ℕ, ap, arith, cases_lt, earlier_part_is_history, enabled_meets, false}
use Rattle.mk_alloc.proofs.Below.Laws.Vocabulary.{first_moment, first_world, get_or, get_or_past, host_has_turn, left}
use Rattle.mk_alloc.proofs.Below.Laws.Vocabulary.{lt-ltb, ltb-true, marker_at, ne_eqb, not, outside, refl, subst, sym}
use Rattle.mk_alloc.proofs.Below.Laws.Vocabulary.{true, [], ◌++◌, ◌+◌, ◌<◌, ◌∙◌, ◌∷◌, ◌≡◌, ◌≤◌}
use Rattle.mk_alloc.proofs.Below.{Laws.ProtocolFrames.others_leave, Words.Seats.{has_all, has_either, has_left}}
use Rattle.mk_alloc.proofs.Below.Words.Seats.{only_one, others_append, others_none, others_own, without_keeps}
use Rattle.mk_alloc.proofs.Below.Words.{Seats.without_less, LongerLists.longer_lists}
use Rattle.mk_alloc.{proofs.Below.Words.Owed.{history_more}, specs.Below.Words.States.{PassState, WordsState, now_of}}
use Rattle.mk_alloc.specs.Below.{Callers.States.IsIdleCaller, Words.States.{Has, HasAll}}
use Rattle.mk_core.proofs.{Conditions.meets_enabled, Histories.last_enabled}
use Rattle.mk_core.specs.History.{AreOfOthers, Grows, left_from}
use Rattle.atomic_table.specs.Seated.{TableId}
use Rattle.mk_heap.specs.Hosts.{AllAreJoined, HostState, IsDone, IsHost, IsWholeHost, Rests, first_host, host_of}
use Rattle.mk_heap.specs.Hosts.{pass_for, with_caller_made, with_caller_out, with_joined, with_marker_made}
use Rattle.mk_marker.{proofs.OutMarkers.{out_is_outside}, specs.Markers.{IsMarkers, IsOut}}

-- A marker that is made is out, and one that is out is done.

-- A marker that is out is done.
pub out_is_done : {p : PassState} → IsHistory p.table.config p.seen → p.seats ≡ p.seat ∷ [] → IsMarkers p → IsOut p
    → IsDone p
out_is_done {p} h alone of out = grind (arith, out_is_outside)

-- The next marker is out.
pub next_is_out : {h : HostState} → IsHost h → h.markers < 8 → marker_at (now_of h.pass) (Marker h.markers) ≡ outside
next_is_out {h} is lt = (is.rests (Marker h.markers) (is.markers h.markers (omega arith) lt)).out

-- There are eight markers at most.
pub few_markers : {h g : HostState} {w v : WordsState} → h ≡ g → w ≡ v → g.markers < v.config.markers
    → IsWithinLimits w.config → h.markers < 8
few_markers {h} {g} {w} {v} same table more limits = grind arith

pub next_is_markers : (h : HostState) → h.markers < 8 → IsMarkers (pass_for h (Marker h.markers))
next_is_markers h lt = record { number = h.markers; exists = lt; seat = refl }

-- What the host knows still holds after the events of others.

abbrev take_of_host : Event
take_of_host = record { seat = Host; step = Step.Take None }

-- The host may take the turn, where it hasn't it.
pub host_may_take : (c : Config) (m : Moment) → host_has_turn c m ≡ false
    → IsEnabled c m (record { seat = Host; step = Step.Take None })
host_may_take c m no_turn = meets_enabled c m (record { seat = Host; step = Step.Take None }) (record {
  seat = refl;
  kind = refl;
  order = ap not no_turn;
  range = refl;
  gates = refl;
  phase = refl;
  marker = refl;
  holder = refl;
})

from_not : (b : Bool) → not b ≡ true → b ≡ false
from_not true h = sym h
from_not false h = refl

-- a history's beginning is one
begins : {c : Config} {seats : List Seat} {es fs : List Event} → IsHistory c fs → (g : Grows seats es fs)
    → IsHistory c (es ++ g.more)
begins {c} h g = subst (λ (l : List Event). IsHistory c l) g.is h

-- A seat that rests still does, after the events of others,
pub still_rests : {c : Config} (seats : List Seat) (es : List Event) {fs : List Event} {s : Seat} → IsHistory c fs
    → Grows seats es fs → Has seats s → Rests (left c es).now s → Rests (left c fs).now s
still_rests {c} seats es {fs = fs} {s = s} h g has rests =
    let whole = begins h g in
    let kept = others_leave c es g.more s whole.within_limits whole.enabled (others_own seats s g.more has g.of_others)
    in
    rw g.is (record { call = kept.own.flight ∙ rests.call; out = kept.own.marker ∙ rests.out })

-- and the host hasn't got the turn by them.
pub still_no_turn : (id : TableId) {c : Config} {seats : List Seat} {es fs : List Event} → IsHistory c fs
    → Grows seats es fs → Has seats Host
    → host_has_turn c (left c es).now ≡ false → host_has_turn c (left c fs).now ≡ false
still_no_turn id {c = c} {seats = seats} {es = es} {fs = fs} h g has no_turn =
    let whole = begins h g in
    let before = earlier_part_is_history c es g.more whole in
    let p : PassState = record { table = record { id = id; config = c }; seat = Host; seats = seats; seen = es } in
    let short = history_more p (Step.Take None) before (record
    { enabled = host_may_take c (left c es).now no_turn; admitted = λ e. cc; tidy = λ e. cc; home = λ e. cc }) in
    let long = longer_lists c es g.more take_of_host short whole (others_own seats Host g.more has g.of_others) in
    let on = last_enabled c (first_world c) (es ++ g.more) take_of_host long.history.enabled in
    let meets = enabled_meets c (left c (es ++ g.more)).now take_of_host on in
    cc (g.is, from_not (host_has_turn c (left c (es ++ g.more)).now) meets.order)

abbrev pub home_host : PassState → ℕ → ℕ → HostState
home_host p callers markers = record { pass = p; callers = callers; markers = markers }

-- the host with its pass as a call left it
pub still_host : {p q : PassState} {callers markers : ℕ} → q ≡ p → IsHost (home_host p callers markers)
    → IsHost (home_host q callers markers)
still_host {callers} {markers} same is = subst (λ (x : PassState). IsHost (home_host x callers markers)) (sym same) is

all_same : {A : Type 0} (n k : ℕ) (x : A) → get_or (replicate n x) k x ≡ x
all_same n k x =
    ⊎_elim (λ (t : k < n). get_or-replicate n k x x t) (λ (t : n ≤ k). get_or_past (replicate n x) k x
    (subst (λ (i : ℕ). i ≤ k) (sym (length-replicate n x)) t)) (cases_lt k n)

first_rests : (c : Config) (s : Seat) → Rests (first_moment c) s
first_rests c x1 = grind (arith, all_same)

pub first_is_host : (w : WordsState) → IsHost (first_host w)
unfolding left_from
first_is_host w = record {
  seat = refl;
  no_turn = ne_eqb 0 (1 + w.config.callers) (λ e. omega arith);
  rests = λ s has. first_rests w.config s;
  callers = λ k le lt. has_all w.config (Caller k) (lt-ltb k w.config.callers lt);
  markers = λ k le lt. has_all w.config (Marker k) (lt-ltb k 8 lt);
  unmade = λ k le lt. others_none (Marker k ∷ []);
}

pub caller_made_is_host : {h : HostState} → IsHost h → IsHost (with_caller_made h)
caller_made_is_host {h} is = record {
  seat = is.seat;
  no_turn = is.no_turn;
  rests = λ s has. is.rests s (without_less (Caller h.callers) h.pass.seats s has);
  callers = λ k le lt. without_keeps (Caller h.callers) h.pass.seats (Caller k) (ne_eqb h.callers k (λ e. omega arith))
      (is.callers k (omega arith) lt);
  markers = λ k le lt. without_keeps (Caller h.callers) h.pass.seats (Marker k) refl (is.markers k le lt);
  unmade = is.unmade;
}

pub caller_out_is_host : {h : HostState} (k : ℕ) → k < h.callers → IsHost h → IsHost (with_caller_out h k)
caller_out_is_host {h} k made is = record {
  seat = is.seat;
  no_turn = is.no_turn;
  rests = λ s has. is.rests s (without_less (Caller k) h.pass.seats s has);
  callers = λ j le lt.
      without_keeps (Caller k) h.pass.seats (Caller j) (ne_eqb k j (λ e. omega arith)) (is.callers j le lt);
  markers = λ j le lt. without_keeps (Caller k) h.pass.seats (Marker j) refl (is.markers j le lt);
  unmade = is.unmade;
}

pub marker_made_is_host : {h : HostState} → IsHost h → IsHost (with_marker_made h)
marker_made_is_host {h} is = record {
  seat = is.seat;
  no_turn = is.no_turn;
  rests = λ s has. is.rests s (without_less (Marker h.markers) h.pass.seats s has);
  callers = λ k le lt. without_keeps (Marker h.markers) h.pass.seats (Caller k) refl (is.callers k le lt);
  markers = λ k le lt. without_keeps (Marker h.markers) h.pass.seats (Marker k) (ne_eqb h.markers k (λ e. omega arith))
      (is.markers k (omega arith) lt);
  unmade = λ k le lt. is.unmade k (omega arith) lt;
}

pub joined_is_host : {h : HostState} {p q : PassState} → IsHost h → Has h.pass.seats h.pass.seat → IsDone p
    → p.table ≡ h.pass.table → q ≡ (with_joined h p q.seen).pass → IsHistory q.table.config q.seen
    → Grows h.pass.seats h.pass.seen q.seen → Grows p.seats p.seen q.seen → IsHost (record h { pass = q })
joined_is_host {h} {p} {q} is own done table joined whole mine theirs =
    let c : Config = h.pass.table.config in
    let seen : List Event = q.seen in
    let history : IsHistory c seen = subst (λ (x : PassState). IsHistory x.table.config q.seen) joined whole in
    still_host joined (record {
      seat = is.seat;
      no_turn = still_no_turn h.pass.table.id history mine
          (subst (λ (s : Seat). Has h.pass.seats s) is.seat own) is.no_turn;
      rests = λ s has. ⊎_elim (λ (t : Has h.pass.seats s). still_rests h.pass.seats h.pass.seen history mine t
          (is.rests s t)) (λ (t : Has p.seats s). still_rests p.seats p.seen history theirs t (grind (arith, only_one)))
          (has_either h.pass.seats p.seats s has);
      callers = λ k le lt. has_left h.pass.seats p.seats (Caller k) (is.callers k le lt);
      markers = λ k le lt. has_left h.pass.seats p.seats (Marker k) (is.markers k le lt);
      unmade = λ k le lt. subst (λ (l : List Event). AreOfOthers (Marker k ∷ []) l) (sym mine.is)
          (others_append (Marker k ∷ []) h.pass.seen mine.more (is.unmade k le lt)
          (others_own h.pass.seats (Marker k) mine.more (is.markers k le lt) mine.of_others));
    })

-- Where all are joined, every seat is home.
pub all_home : {h : HostState} → IsHost h → Has h.pass.seats h.pass.seat → AllAreJoined h
    → HasAll h.pass.table.config h.pass.seats
all_home is own joined x3 exists = grind (arith, ltb-true, cases_lt)

-- The next caller has no call in flight.
pub next_is_idle : {h : HostState} → IsHost h → h.callers < h.pass.table.config.callers
    → IsIdleCaller (pass_for h (Caller h.callers))
next_is_idle {h} is lt = record {
  seat = refl;
  rest = (is.rests (Caller h.callers) (is.callers h.callers (omega arith) lt)).call;
}

-- Nor has a caller that was joined.
pub joined_is_idle : {h : HostState} (k : ℕ) → IsHost h → Has h.pass.seats (Caller k)
    → IsIdleCaller (pass_for h (Caller k))
joined_is_idle k is joined = record { seat = refl; rest = (is.rests (Caller k) joined).call }

-- What a host is whose pass is home.

pub is_home : (x : Option PassState) (callers markers : ℕ) → IsWholeHost x callers markers → IsSome x
is_home (Some p) callers markers whole = refl
is_home None callers markers whole = absurd whole

pub home_is : {x : Option PassState} {p : PassState} {callers markers : ℕ} → x ≡ Some p
    → IsWholeHost x callers markers → IsHost (home_host p callers markers)
home_is {callers} {markers} is whole = subst (λ (y : Option PassState). IsWholeHost y callers markers) is whole

pub home_view : {x : Option PassState} {p : PassState} {callers markers : ℕ} {h : HostState} → x ≡ Some p
    → host_of x callers markers ≡ h → home_host p callers markers ≡ h
home_view {callers} {markers} is view = ap (λ (y : Option PassState). host_of y callers markers) (sym is) ∙ view

-- A caller that is in no call is done.
pub idle_is_done : {p : PassState} → p.seats ≡ p.seat ∷ [] → IsIdleCaller p → IsDone p
idle_is_done {p} alone idle = grind arith
