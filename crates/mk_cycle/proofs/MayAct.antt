-- A turn that is free for a cycle may make every step of any holder whose conditions on words are met.
use Rattle.mk_words.proofs.Below.Laws.Vocabulary.{AreAdmitted, Bool, Config, Decided, Group, Holds, IsHistory, List}
use Rattle.mk_words.proofs.Below.Laws.Vocabulary.{MarkerState, Moment, Op, Protocol, Seat, Stage, Step, ℕ, arith, asked}
use Rattle.mk_words.proofs.Below.Laws.Vocabulary.{comes_next, eq-eqb, false, flight_of, has_gates, has_phase}
use Rattle.mk_words.proofs.Below.Laws.Vocabulary.{holder_may, is_in_range, is_of_turn, is_open_to, is_under_turn}
use Rattle.mk_words.proofs.Below.Laws.Vocabulary.{lt-ltb, marker_may, not, phase_of, seat_exists, subst, sym, true}
use Rattle.mk_words.proofs.Below.Laws.Vocabulary.{◌&&◌, ◌≡◌}
use Rattle.mk_words.proofs.Below.Laws.Protocol.{has_stage}
use Rattle.mk_cycle.proofs.Vocabulary.{IsEnabledTo, PassState, call_of, event_of, is_pending_free, now_of}
use Rattle.mk_cycle.proofs.{Calm.{calm_still, is_calm}, OwnSteps.{no_more_calls, undecided}}
use Rattle.mk_core.{proofs.Conditions.meets_enabled, specs.{History.never_first, Readings.is_idle}}
use Rattle.mk_core.specs.Conditions.{comes_next_to_host, is_in_order, is_of_any_holder, may_decide_new}
use Rattle.mk_cycle.specs.EngineLaw.{is_pending_free_at}
use Rattle.mk_words.specs.Steps.{IsAdmittedTo}

decides_new : (d ty : ℕ) (full : Bool) (s : Step) → is_of_any_holder s ≡ true → may_decide_new (Op.New d ty full) s
    ≡ true
decides_new d ty full s h = grind arith

comes : (x : Stage) (o : Op) (s : Step) → has_stage o x ≡ true → (not (is_idle x) && is_under_turn o) ≡ true
    → is_pending_free_at o x ≡ false → is_of_any_holder s ≡ true → comes_next x o s ≡ true
comes Stage.Turn (Op.New d ty full) s has turn pending h = decides_new d ty full s h
comes Stage.Give (Op.New d ty full) s has turn pending h = h
comes Stage.Idle (Op.New d ty full) s has turn pending h = cc
comes x (Op.New d ty full) s has turn pending h = cc
comes Stage.Give (Op.Free p) s has turn pending h = h
comes x (Op.Free p) s has turn pending h = cc
comes x o s has turn pending h = absurd (grind arith)

is_turn : (g : Group) → is_of_turn g ≡ true → g ≡ Group.Turn
is_turn x0 h = grind arith

no_markers : (c : Config) (x : MarkerState) (s : Step) → is_of_any_holder s ≡ true → marker_may c x s ≡ true
no_markers c x x2 h = grind arith

opens : (c : Config) (m : Moment) (seat : Seat) → Holds c m seat → is_open_to seat Group.Turn ≡ true
opens c m x2 h = grind arith

exists : (c : Config) (m : Moment) (seat : Seat) → Holds c m seat → seat_exists c seat ≡ true
exists c m x2 h = grind (arith, lt-ltb)

host_next : (has : Bool) (s : Step) → has ≡ true → is_of_any_holder s ≡ true → comes_next_to_host has s ≡ true
host_next has s is h = grind arith

orders : {c : Config} {m : Moment} (seat : Seat) (s : Step) → Protocol c m → Holds c m seat
    → is_pending_free (flight_of m seat) ≡ false → is_of_any_holder s ≡ true → is_in_order c m seat s ≡ true
orders x0 s p holds pending h = grind (arith, comes, host_next, eq-eqb)

pub may_act : (p : PassState) (s : Step) → Protocol p.table.config (now_of p) → Holds p.table.config (now_of p) p.seat
    → is_pending_free (call_of p) ≡ false → is_of_any_holder s ≡ true
    → is_in_range p.table.config p.seat (call_of p) s ≡ true
    → has_gates p.table.config (now_of p).words p.seat (call_of p) s ≡ true
    → has_phase (phase_of (now_of p).words) s ≡ true → holder_may p.table.config (now_of p) (call_of p) s ≡ true
    → IsEnabledTo p s
may_act p s protocol holds pending any range gates phase holder =
    grind (arith, meets_enabled, exists, is_turn, opens, orders, no_markers)

-- A step that decides nothing is admitted.
pub calm_admitted : (p : PassState) (s : Step) → IsHistory p.table.config p.seen → is_calm s ≡ true
    → is_pending_free (call_of p) ≡ false → IsAdmittedTo p s
calm_admitted p s h kind free =
    let c : Config = p.table.config in
    subst (λ (xs : List Decided). AreAdmitted c.globals (never_first c) (asked xs))
    (sym (no_more_calls c p.seen (event_of p s)
    (undecided c (now_of p) p.seat s (λ n. calm_still c (now_of p) (call_of p) n s kind free)))) h.admitted
