-- A marker that is out, or comes in, the host's turn and cycle beside it, and the caller that was joined.
use Rattle.std.specs.Result.{is_err}
use Rattle.mk_run.proofs.Below.Laws.Vocabulary.{Caller, Config, Event, Host, List, Marker, MarkerState, None, Seat}
use Rattle.mk_run.proofs.Below.Laws.Vocabulary.{Steady, Step}
use Rattle.mk_run.proofs.Below.Laws.Vocabulary.{ℕ, ap, arith, eq-eqb, false, is_held, is_number_of, marker_at}
use Rattle.mk_run.proofs.Below.Laws.Vocabulary.{others_are_held}
use Rattle.mk_run.proofs.Below.Laws.Vocabulary.{outside, phase_of, refl, subst, sym, true, [], ◌%◌, ◌∙◌, ◌∷◌, ◌≡◌}
use Rattle.mk_heap_tests.proofs.Vocabulary.{CallerState, Err, Has, HostState, IsAtHome, IsEnabledTo, IsTurn, Ok, OnOk}
use Rattle.mk_heap_tests.proofs.Vocabulary.{PassState, Result, WordsState, has_all, now_of, pass_for}
use Rattle.mk_heap_tests.proofs.JoinedHosts.{HasJoinedOne, IsUnused, free_at_first, has_joined, none_is_held_at}
use Rattle.mk_heap_tests.proofs.JoinedHosts.{only_zero, split_is}
use Rattle.mk_heap_tests.proofs.JoinedHosts.{still_unused, unused}
use Rattle.mk_core.specs.{History.left_from, MarkingConditions.is_out}
use Rattle.mk_run.proofs.Below.Cycles.HoldingSteps.{all_held_below, held_free, held_table, hold_allowed, hold_holds}
use Rattle.mk_run.proofs.Below.Cycles.{Allowed.{or_true, protocol}, BeginSteps.none_held_kept}
use Rattle.mk_run.proofs.Below.{Cycles.MayAct.may_act, Heaps.Overs.{HasLooked, begun_free, looked, looked_idle}}
use Rattle.mk_run.proofs.Below.Heaps.{HostsKept.{first_is_host, host_may_take}, MovedHosts.turn_moves}
use Rattle.mk_run.proofs.Below.Words.Seats.{without_keeps}
use Rattle.mk_run.specs.Below.Cycles.{BeginCycle.BeginsCycle, EngineLaw.IsFreeForCycle}
use Rattle.mk_run.specs.Below.{Cycles.Stops.HoldsGates, Heaps.Hosts.{IsHost, first_host, with_caller_made}}
use Rattle.mk_run.specs.Below.{Heaps.Hosts.{with_joined, with_marker_made}, Markers.Markers.{IsOut, attends}}
use Rattle.mk_run.specs.Below.Words.{States.{all_seats, has_over, without_seat}, TurnSteps.Acts}
use Rattle.mk_heap_tests.specs.HeldObjects.{HostIsMarking, IsHostsPass, IsMarkerOut}

pub attends_not : (p : PassState) → IsOut p → attends p ≡ false
attends_not p out = grind arith

-- The marker of a heap that nobody has used.

pub marker_split : {w : WordsState} {h : PassState} (m : PassState) → IsUnused w h
    → m ≡ record h { seat = Marker 0; seats = Marker 0 ∷ [] } → IsMarkerOut w m
marker_split {w} {h} m u is = let host : IsHost (first_host w) = first_is_host w in
    subst (λ (q : PassState). IsMarkerOut w q) (sym (split_is m (Marker 0) u is)) (record {
      table = refl;
      seat = refl;
      alone = refl;
      out = ap (λ (x : MarkerState). is_out x.presence)
          (host.rests (Marker 0) (host.markers 0 (omega arith) (omega arith))).out;
    })

-- The host of a table that nobody has used, which split off its first caller and then its first marker.

first_out : (p : PassState) → marker_at (now_of (record p { seen = [] })) (Marker 0) ≡ outside
unfolding left_from
first_out p = refl

pub marker_is_outside : (p : PassState) → p.seen ≡ [] → marker_at (now_of p) (Marker 0) ≡ outside
marker_is_outside p none =
    ap (λ (es : List Event). marker_at (now_of (record p { seen = es })) (Marker 0)) none ∙ first_out p

pub marker_is_home : (c : Config) (h g : PassState) → h.seats ≡ all_seats c
    → g.seats ≡ without_seat (Caller 0) h.seats → Has g.seats (Marker 0)
marker_is_home c h g first less =
    subst (λ (xs : List Seat). Has xs (Marker 0)) (sym less) (without_keeps (Caller 0) h.seats (Marker 0) refl
    (subst (λ (xs : List Seat). Has xs (Marker 0)) (sym first) (has_all c (Marker 0) refl)))

-- after two splits
pub host_after_splits : {w : WordsState} {h g j : PassState} {xs ys zs : List Seat}
    → h ≡ record { table = w; seat = Host; seats = xs; seen = [] } → g ≡ record h { seats = ys }
    → j ≡ record g { seats = zs } → IsHostsPass w j
host_after_splits is one two = grind (arith, still_unused, unused, free_at_first)

pub host_may : {w : WordsState} {p : PassState} → IsHostsPass w p → IsEnabledTo p (Step.Take None)
host_may {p} host =
    rw host.seat (host_may_take p.table.config (now_of p) host.without)

-- The turn that it took for no operation, and its cycle.
module _ {w : WordsState} {h p : PassState} {n : ℕ} {q : PassState} (host : IsHostsPass w h) (l : HasLooked h p n q)
  where
    pub looked_table : q.table ≡ w
    looked_table = cc ((looked l).call.pass, (turn_moves h p l.takes).is, host.table)

    pub marking : (n % 8 ≡ 1 → ⊥) → {r : PassState} → BeginsCycle q r → HostIsMarking w r
    marking none {r} begins =
        let idle = looked_idle l none in
        record {
          table = ap (λ (x : PassState). x.table) begins.pass ∙ looked_table;
          seat = ap (λ (x : PassState). x.seat) begins.pass ∙ idle.seat;
          phase = ap (λ (s : Steady). s.phase) begins.steady;
          free = begun_free idle.free begins;
          gates = none_held_kept q r begins.pass begins.gates idle.gates;
        }

pub on_ok : {A B : Type 0} (x : Result A B) (P : Type 0) → is_err x ≡ false → OnOk x P → P
on_ok (Ok a) P is h = h
on_ok (Err e) P is h = cc

-- The stop of the one caller, in which the close is wanted.
module _ (w : WordsState) {p : PassState} (m : HostIsMarking w p) (one : w.config.callers ≡ 1) (t : IsTurn p) where
  one_caller : p.table.config.callers ≡ 1
  one_caller = ap (λ (v : WordsState). v.config.callers) m.table ∙ one

  pub may_hold : IsEnabledTo p (Step.Hold 0)
  may_hold = grind (arith, hold_allowed, none_is_held_at, one_caller)

-- It held the caller's gate.
pub record HasHeld (w : WordsState) (p q : PassState) : Type 0 where
  pub marking : HostIsMarking w p
  pub one : w.config.callers ≡ 1
  pub turn : IsTurn p
  pub after : IsTurn q
  pub acts : Acts p (Step.Hold 0) q
  pub held : is_held (now_of q).words 0 ≡ true

module _ {w : WordsState} {p q : PassState} (h : HasHeld w p q) where
  holds : HoldsGates p q
  holds = hold_holds p q h.turn h.marking.free h.after 0 h.acts

  free : IsFreeForCycle q
  free = held_free p q holds h.marking.free

  pub stop_table : q.table ≡ w
  stop_table = held_table p q w holds h.marking.table

  pub all_held : others_are_held q.table.config.callers (now_of q).words q.seat ≡ true
  all_held =
      let count : q.table.config.callers ≡ 1 = ap (λ (v : WordsState). v.config.callers) stop_table ∙ h.one in
      all_held_below q _ (λ j lt. or_true (is_number_of q.seat j) (is_held (now_of q).words j)
      (subst (λ (i : ℕ). is_held (now_of q).words i ≡ true) (sym (only_zero j q.table.config.callers count lt)) h.held))

  pub may_want : IsEnabledTo q Step.Want
  may_want =
      let phase : phase_of (now_of q).words ≡ 1 = ap (λ (s : Steady). s.phase) holds.keeps.steady ∙ h.marking.phase in
      may_act q Step.Want (protocol q h.after free) h.after.holds free.decided refl refl all_held
      (eq-eqb (phase_of (now_of q).words) 1 phase) refl

-- The host, after its first marker and its first caller, which has joined the caller.
pub joined_one : (w : WordsState) (f g h j : HostState) (p : PassState) → f ≡ first_host w → g ≡ with_marker_made f
    → h ≡ with_caller_made g → j ≡ with_joined h p j.pass.seen → p.seats ≡ Caller 0 ∷ []
    → has_over j.pass.seen ≡ has_over h.pass.seen → HasJoinedOne w j
joined_one w f g h j p is_f is_g is_h is_j alone overs =
    let all : h ≡ with_caller_made (with_marker_made (first_host w)) =
    is_h ∙ ap (λ (x : HostState). with_caller_made x) (is_g ∙ ap (λ (x : HostState). with_marker_made x) is_f) in
    record {
      table = ap (λ (x : HostState). x.pass.table) is_j ∙ ap (λ (x : HostState). x.pass.table) all;
      before_over = overs ∙ ap (λ (x : HostState). has_over x.pass.seen) all;
      callers = ap (λ (x : HostState). x.callers) is_j ∙ ap (λ (x : HostState). x.callers) all;
      joined =
          rw (ap (λ (x : HostState). x.pass.seats) is_j) (has_joined h.pass.seats p.seats (Caller 0) alone);
      markers = ap (λ (x : HostState). x.markers) is_j ∙ ap (λ (x : HostState). x.markers) all;
    }

-- Its one caller's pass, which was made after the marker's.
pub only_seat : (w : WordsState) (f g : HostState) (s : CallerState) (p : PassState) → f ≡ first_host w
    → g ≡ with_marker_made f → IsAtHome s (pass_for g (Caller g.callers)) → p ≡ s.pass → p.seats ≡ Caller 0 ∷ []
only_seat w f g s p is_f is_g is_s is_p =
    ap (λ (x : PassState). x.seats) is_p ∙ ap (λ (x : PassState). x.seats) is_s.pass
    ∙ ap (λ (x : HostState). Caller x.callers ∷ []) (is_g ∙ ap (λ (x : HostState). with_marker_made x) is_f)
