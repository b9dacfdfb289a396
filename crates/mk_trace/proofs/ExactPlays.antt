-- The turns of a trace's caller stay exact, and the host makes no cycle, from the first event to the last.
use Rattle.mk_trace.proofs.Vocabulary.{AllTurnsAreExact, Answer, Caller, Config, Contents, Event, Grows, Has, Host}
use Rattle.mk_trace.proofs.Vocabulary.{HostState, IsHistory, Op, PassState, Seat, StayExact, SweepsNothing, Word}
use Rattle.mk_trace.proofs.Vocabulary.{and-false, config_of, first_world, has_first, has_step, is_of_cycle}
use Rattle.mk_trace.proofs.{Vocabulary.{is_same_seat, pass_for, seat_exists}, HeldLooks.{Looked, all_lack, behind}}
use Rattle.mk_trace.proofs.{HeldLooks.{first, moves, seen_is}, JoinedCalls.{Joined, elsewhere}}
use Rattle.mk_heap.proofs.Below.Laws.Vocabulary.{Bool, List, ℕ, ap, arith, false, list_any, list_any-append, ltb-true}
use Rattle.mk_heap.proofs.Below.Laws.Vocabulary.{or_from}
use Rattle.mk_heap.proofs.Below.Laws.Vocabulary.{or_parts, refl, subst, sym, true, [], ◌&&◌, ◌++◌, ◌∙◌, ◌∷◌, ◌≡◌}
use Rattle.mk_core.specs.History.{AreOfOthers}
use Rattle.mk_heap.proofs.Below.{Objects.ExactTurns.stay_exact_behind_others, Words.Doing.not_own}
use Rattle.mk_heap.proofs.Below.Words.Seats.{without_keeps}
use Rattle.mk_heap.specs.Below.Objects.{TurnCalls.OwnAreExact, TurnCycles.TurnsOfAreExact}
use Rattle.mk_heap.specs.Below.Words.Sweeping.{SweepsNothingFrom}
use Rattle.mk_heap.{proofs.UnsweptSeats.{first_sweeps, others_on, seat_on}, specs.Unswept.{IsUnswept}}
use Rattle.mk_heap.proofs.UnsweptHistories.{markers_sweep, none_sweeps}
use Rattle.mk_trace.specs.Playing.{MakesNoCycle}

-- Lists in which a seat makes no cycle.

abbrev of_cycle : Seat → Event → Bool
of_cycle s e = is_same_seat s e.seat && is_of_cycle e.step

no_cycle_append : (s : Seat) (xs ys : List Event) → MakesNoCycle s xs → MakesNoCycle s ys → MakesNoCycle s (xs ++ ys)
no_cycle_append s xs ys one two = grind (arith, list_any-append, of_cycle, or_from)

lacks_no_cycle : (s : Seat) (es : List Event) → has_step is_of_cycle es ≡ false → MakesNoCycle s es
lacks_no_cycle s [] h = refl
lacks_no_cycle s (e ∷ es) h =
    let parts = or_parts (is_of_cycle e.step) (has_step is_of_cycle es) h in
    or_from (of_cycle s e) (list_any (of_cycle s) es) (ap (λ (b : Bool). is_same_seat s e.seat && b) parts.0 ∙ and-false
    _) (lacks_no_cycle s es parts.1)

others_no_cycle : (s : Seat) (seats : List Seat) (es : List Event) → Has seats s → AreOfOthers seats es
    → MakesNoCycle s es
unfolding AreOfOthers
others_no_cycle s seats [] has others = refl
others_no_cycle s seats (e ∷ es) has others =
    or_from (of_cycle s e) (list_any (of_cycle s) es) (ap (λ (b : Bool). b && is_of_cycle e.step)
    (not_own seats s e.seat has others.0)) (others_no_cycle s seats es has others.1)

-- before the first event

pub nothing_given : (on : Bool) (c : Config) (s : Seat) → TurnsOfAreExact on c s []
nothing_given on c s [] e behind is give same = absurd cc
nothing_given on c s (x ∷ xs) e behind is give same = absurd cc

pub first_exact : (c : Config) (es : List Event) → es ≡ [] → AllTurnsAreExact c es
first_exact c es none = grind (arith, nothing_given, of_cycle, first_sweeps)

-- The host looks: it takes the turn and gives it back.

module _ {p q : PassState} {x : Word} {n : ℕ} (l : Looked p x n q) (host : p.seat ≡ Host)
    (joined : Has p.seats (Caller 0)) where
  abbrev c : Config
  c = p.table.config

  pub caller_is_still : Grows (Caller 0 ∷ []) p.seen q.seen
  caller_is_still = record {
    more = (moves l).more;
    is = ap (λ (r : PassState). r.seen) (moves l).is;
    of_others = (moves l).leaves (Caller 0) joined (ap (is_same_seat (Caller 0)) host);
  }

  pub look_stays_exact : SweepsNothing p q → StayExact c p.seen q.seen
  look_stays_exact sweeps before = record {
    caller =
        stay_exact_behind_others false c (Caller 0) (Caller 0 ∷ []) p.seen q.seen (has_first (Caller 0) [])
        caller_is_still before.caller;
    host =
        subst (MakesNoCycle Host) (sym (seen_is l)) (no_cycle_append Host p.seen (first l ++ behind l) before.host
        (lacks_no_cycle Host (first l ++ behind l)
        (all_lack l is_of_cycle (record { take = λ o. refl; look = λ y. refl; give = refl }))));
    caller_unswept =
        others_on c (Caller 0) (Caller 0 ∷ []) p.seen q.seen (has_first (Caller 0) []) caller_is_still
        before.caller_unswept;
    host_unswept =
        rw host at (seat_on p q sweeps (rw (← host) at before.host_unswept));
  }

-- The caller makes one call, and is joined again.
module _ {on : Bool} {h : HostState} {o : Op} {told : Answer} {q : PassState} {fs : List Event}
    (j : Joined on h o told q fs) (sweeps : SweepsNothing (pass_for h (Caller 0)) q) (off : on ≡ false) where
  abbrev config : Config
  config = h.pass.table.config

  abbrev es : List Event
  es = h.pass.seen

  has_host : Has (elsewhere j) Host
  has_host = without_keeps (Caller 0) h.pass.seats Host refl (j.all Host refl)

  has_caller : Has q.seats (Caller 0)
  has_caller = subst (λ (r : PassState). Has r.seats (Caller 0)) (sym j.answers.is) (has_first (Caller 0) [])

  exact : TurnsOfAreExact false config (Caller 0) es → TurnsOfAreExact false config (Caller 0) q.seen
  exact before =
      subst (λ (b : Bool). TurnsOfAreExact b config (Caller 0) q.seen) off (subst (OwnAreExact on) j.answers.is
      (j.answers.exact (subst (λ (b : Bool). TurnsOfAreExact b config (Caller 0) es) (sym off) before)))

  pub call_stays_exact : StayExact config es fs
  call_stays_exact before = record {
    caller = stay_exact_behind_others false config (Caller 0) q.seats q.seen fs has_caller j.came (exact before.caller);
    host =
        subst (MakesNoCycle Host) (sym j.own.is) (no_cycle_append Host es j.own.more before.host
        (others_no_cycle Host (elsewhere j) j.own.more has_host j.own.of_others));
    caller_unswept = others_on config _ _ _ fs has_caller j.came (seat_on _ q sweeps before.caller_unswept);
    host_unswept = others_on config Host (elsewhere j) es fs has_host j.own before.host_unswept;
  }

-- looks before a call and after it
pub exact_over : (c : Config) (es0 es1 es2 es3 es4 : List Event) → StayExact c es0 es1 → StayExact c es1 es2
    → StayExact c es2 es3 → StayExact c es3 es4 → StayExact c es0 es4
exact_over c es0 es1 es2 es3 es4 before call looks more exact = more (looks (call (before exact)))

-- The whole history has no sweeping mark: it is of the caller and the host alone.

each_seat : (trace : Contents) {es : List Event} → IsHistory (config_of trace) es
    → AllTurnsAreExact (config_of trace) es → (s : Seat) → seat_exists (config_of trace) s ≡ true
    → SweepsNothingFrom (config_of trace) s (first_world (config_of trace)) es
each_seat trace history exact x3 exists = grind (arith, ltb-true, markers_sweep)

pub play_is_unswept : (trace : Contents) {es : List Event} → IsHistory (config_of trace) es
    → AllTurnsAreExact (config_of trace) es → IsUnswept (config_of trace) es
play_is_unswept trace history exact = grind (arith, none_sweeps, each_seat)
