-- Where all callers are home, nobody makes a step of the turn's holder while the host waits for the turn: the phase
-- stays.
use Rattle.std.{proofs.Common.{⊎_elim}, specs.List.{list_all}}
use Rattle.mk_alloc.proofs.Below.Laws.Vocabulary.{Bool, Caller, Config, Event, Host, IsHistory, List, Marker, Moment}
use Rattle.mk_alloc.proofs.Below.Laws.Vocabulary.{None, Seat, Step, World, ℕ, and_parts, ap, arith, cases_lt}
use Rattle.mk_alloc.proofs.Below.Laws.Vocabulary.{earlier_part_is_history, enabled_in_parts, enabled_meets, false}
use Rattle.mk_alloc.proofs.Below.Laws.Vocabulary.{false_from_ne_true, first_world, group_of, inl, inr, is_one_of}
use Rattle.mk_alloc.proofs.Below.Laws.Vocabulary.{is_open_to, left, left_in_parts, list_any, list_any-append, ltb-true}
use Rattle.mk_alloc.proofs.Below.Laws.Vocabulary.{not, not-true, or_cases, or_from, or_parts, phase_of, refl}
use Rattle.mk_alloc.proofs.Below.Laws.Vocabulary.{seat_exists, subst, sym, true, true≢false, world_behind, [], ◌&&◌}
use Rattle.mk_alloc.proofs.Below.Laws.Vocabulary.{◌++◌, ◌<◌, ◌||◌, ◌∙◌, ◌∷◌, ◌≡◌, ◌≢◌, ◌≤◌, ◌⊎◌}
use Rattle.mk_alloc.proofs.Below.Laws.CyclePhases.{AsksPhase, moves_phase, phase_behind}
use Rattle.mk_alloc.proofs.Below.{Laws.Actors.{Meets, is_holders}, Words.Waiting.waits_more}
use Rattle.mk_alloc.proofs.Below.Words.Overs.{none_over, over_is_hosts}
use Rattle.mk_alloc.specs.Below.Words.TurnSteps.{TakesTurn, Waits, is_take, waits_for}
use Rattle.mk_alloc.specs.Below.Words.States.{Has, HasCallers, has_over, is_over}
use Rattle.mk_alloc.specs.Below.Words.{States.{PassState, now_of}, Steps.Makes}
use Rattle.mk_core.specs.History.{AreOfOthers, Grows, is_same_seat, AreEnabledFrom, left_from}
use Rattle.mk_heap.proofs.MovedHosts.{MovesOn}
use Rattle.mk_heap.specs.{Ending.CallersAreJoined, Hosts.{HostState, IsHost, with_joined}}

-- Whether an `over` stands among what the host has seen. It comes by the host's own step alone.

-- a list that goes on without one

none_besides : (a b : Bool) → b ≡ false → (a || b) ≡ a
none_besides true b h = refl
none_besides false b h = h

no_more_overs : (es more : List Event) → has_over more ≡ false → has_over (es ++ more) ≡ has_over es
no_more_overs es more none =
    list_any-append (λ (e : Event). is_over e.step) es more ∙ none_besides (has_over es) (has_over more) none

-- Nor has a step that isn't one, with the events of others before it.
pub step_overs : {p q : PassState} {s : Step} → Makes p s q → Has p.seats Host → is_over s ≡ false
    → has_over q.seen ≡ has_over p.seen
step_overs m has out = grind (arith, enabled_in_parts, earlier_part_is_history, no_more_overs, none_besides, none_over)

-- No one comes while the host waits for the turn.

none_over_waiting : (p : PassState) (c : Config) (w : World) (es : List Event) → Has p.seats Host
    → list_all (waits_for p) es ≡ true → AreEnabledFrom c w es → has_over es ≡ false
unfolding AreEnabledFrom
none_over_waiting p c w [] has only on = refl
none_over_waiting p c w (e ∷ es) has only on =
    let parts = and_parts (waits_for p e) (list_all (waits_for p) es) only in
    let first : is_over e.step ≡ false = grind (arith, false_from_ne_true, or_cases) in
    cc (first, none_over_waiting p c (world_behind c w e) es has parts.1 on.1)
  where
    by : is_over e.step ≡ true
        → (not (is_one_of p.seats e.seat) ≡ true) ⊎ ((is_take e.step && is_same_seat e.seat p.seat) ≡ true) → ⊥
    by over (inl other) = grind (arith, over_is_hosts, not-true)
    by over (inr mine) = grind (arith, and_parts)

pub taken_overs : {p q : PassState} → TakesTurn p None q → Has p.seats Host → IsHistory q.table.config q.seen
    → has_over q.seen ≡ has_over p.seen
taken_overs {p} {q} t has history =
    let c : Config = p.table.config in
    let w : Waits p q = waits_more p t.waited q None t.waits t.takes.makes in
    let long : IsHistory c (p.seen ++ w.more) =
    subst (λ (r : PassState). IsHistory r.table.config r.seen) w.is history in
    let on = (enabled_in_parts c p.seen w.more).0 long.enabled in
    cc (w.is, no_more_overs p.seen w.more (none_over_waiting p c (left c p.seen) w.more has w.only on.1))

-- After an `over` the phase says so for ever.

over_lasts : (c : Config) (w : World) (es : List Event) → AreEnabledFrom c w es
    → (phase_of w.now.words ≡ 5) ⊎ (has_over es ≡ true) → phase_of (left_from c w es).now.words ≡ 5
unfolding left_from
over_lasts c w [] on (inl five) = five
over_lasts c w [] on (inr h) = cc
over_lasts c w (e ∷ es) on h =
    let moves = moves_phase c w e es on in
    over_lasts c (world_behind c w e) es moves.2 (by moves.0 moves.1 h)
  where
    by : AsksPhase e.step (phase_of w.now.words) → phase_of (world_behind c w e).now.words ≡ phase_behind e.step
        (phase_of w.now.words) → (phase_of w.now.words ≡ 5) ⊎ (has_over (e ∷ es) ≡ true)
        → (phase_of (world_behind c w e).now.words ≡ 5) ⊎ (has_over es ≡ true)
    by asks moved (inl five) = grind arith
    by asks moved (inr has) = grind (arith, or_cases)

pub none_by_phase : {c : Config} {es : List Event} → IsHistory c es → phase_of (left c es).now.words ≢ 5
    → has_over es ≡ false
none_by_phase {c} {es} h other =
    false_from_ne_true (has_over es) (λ over. other (over_lasts c (first_world c) es h.enabled (inr over)))

-- So it is for the host: its seat stays its own, and others that are joined say no more.

pub hosts_seat : {h : HostState} {q : PassState} → IsHost h → Has h.pass.seats h.pass.seat → MovesOn h.pass q
    → Has q.seats Host
hosts_seat {h} is own v =
    subst (λ (r : PassState). Has r.seats Host) (sym v.is) (subst (λ (s : Seat). Has h.pass.seats s) is.seat own)

pub joined_overs : {h : HostState} {q : PassState} (p : PassState) → IsHost h → Has h.pass.seats h.pass.seat
    → q ≡ (with_joined h p q.seen).pass → IsHistory q.table.config q.seen → Grows h.pass.seats h.pass.seen q.seen
    → has_over q.seen ≡ has_over h.pass.seen
joined_overs {h} {q} p is own joined history grows = grind (arith, enabled_in_parts, no_more_overs, none_over)

-- Callers that weren't made are home, and those that were are joined.
pub callers_home : {h : HostState} → IsHost h → CallersAreJoined h → HasCallers h.pass.table.config h.pass.seats
callers_home {h} is joined = λ k lt.
    ⊎_elim (λ (t : k < h.callers). joined k t) (λ (t : h.callers ≤ k). is.callers k t lt) (cases_lt k h.callers)

-- No event is a step of a turn's holder.
abbrev pub HoldersStepNone : List Event → Type 0
HoldersStepNone es = list_any (λ (e : Event). is_holders e.step) es ≡ false

module _ (p : PassState) (c : Config) (host : Has p.seats Host) (callers : HasCallers c p.seats) where
  not_home : (s : Seat) → Has p.seats s → not (is_one_of p.seats s) ≡ true → ⊥
  not_home s has out = true≢false (sym has ∙ not-true (is_one_of p.seats s) out)

  waiting : (m : Moment) (e : Event) → Meets c m e.seat e.step → waits_for p e ≡ true → is_holders e.step ≡ false
  waiting m e meets waits =
      ⊎_elim (by e.seat meets.seat meets.kind) (λ (mine : (is_take e.step && is_same_seat e.seat p.seat) ≡ true).
      grind arith)
      (or_cases (not (is_one_of p.seats e.seat)) (is_take e.step && is_same_seat e.seat p.seat) waits)
    where
      by : (s : Seat) → seat_exists c s ≡ true → is_open_to s (group_of e.step) ≡ true
          → not (is_one_of p.seats s) ≡ true → is_holders e.step ≡ false
      by (Caller k) exists may out = absurd (not_home (Caller k) (callers k (ltb-true k c.callers exists)) out)
      by (Marker k) exists may out = grind arith
      by Host exists may out = absurd (not_home Host host out)

  pub waiting_holds_none : (w : World) (es : List Event) → list_all (waits_for p) es ≡ true → AreEnabledFrom c w es
      → HoldersStepNone es
  unfolding AreEnabledFrom
  waiting_holds_none w [] only on = refl
  waiting_holds_none w (e ∷ es) only on =
      let parts = and_parts (waits_for p e) (list_all (waits_for p) es) only in
      or_from (is_holders e.step) (list_any (λ (x : Event). is_holders x.step) es)
      (waiting w.now e (enabled_meets c w.now e on.0) parts.0) (waiting_holds_none (world_behind c w e) es parts.1 on.1)

  -- Nor do others, whatever the host does.
  pub others_hold_none : (w : World) (es : List Event) → AreOfOthers p.seats es → AreEnabledFrom c w es
      → HoldersStepNone es
  unfolding AreOfOthers AreEnabledFrom
  others_hold_none w [] others on = refl
  others_hold_none w (e ∷ es) others on =
      or_from (is_holders e.step) (list_any (λ (x : Event). is_holders x.step) es) (waiting w.now e (enabled_meets c
      w.now e on.0) (ap (λ (b : Bool). not b || (is_take e.step && is_same_seat e.seat p.seat)) others.0))
      (others_hold_none (world_behind c w e) es others.1 on.1)

-- The phase stays where no holder steps.

stays_there : (x : Step) (n : ℕ) → is_holders x ≡ false → phase_behind x n ≡ n
stays_there x0 n h = grind arith

pub phase_kept : (c : Config) (w : World) (es : List Event) → AreEnabledFrom c w es → HoldersStepNone es
    → phase_of (left_from c w es).now.words ≡ phase_of w.now.words
unfolding left_from
phase_kept c w [] on none = refl
phase_kept c w (e ∷ es) on none =
    let parts = or_parts (is_holders e.step) (list_any (λ (x : Event). is_holders x.step) es) none in
    let moves = moves_phase c w e es on in
    phase_kept c (world_behind c w e) es moves.2 parts.1 ∙ moves.1 ∙ stays_there e.step (phase_of w.now.words) parts.0

-- So the host finds it as it left it.
pub taken_phase : {p q : PassState} → TakesTurn p None q → Has p.seats Host → HasCallers p.table.config p.seats
    → IsHistory q.table.config q.seen → phase_of (now_of q).words ≡ phase_of (now_of p).words
taken_phase {p} {q} t host callers history =
    let c : Config = p.table.config in
    let w : Waits p q = waits_more p t.waited q None t.waits t.takes.makes in
    let long : IsHistory c (p.seen ++ w.more) =
    subst (λ (r : PassState). IsHistory r.table.config r.seen) w.is history in
    let on = ((enabled_in_parts c p.seen w.more).0 long.enabled).1 in
    ap (λ (r : PassState). phase_of (now_of r).words) w.is ∙ ap (λ (x : World). phase_of x.now.words) (left_in_parts c
    p.seen w.more) ∙ phase_kept c _ w.more on (waiting_holds_none p c host callers _ w.more w.only on)
