-- The host says that all is over, and gives its turn back.
use Rattle.std.proofs.lemmas.List.Sums.{count_by-le-length}
use Rattle.mk_alloc.proofs.Below.Laws.Vocabulary.{Config, Event, Host, IsHistory, List, None, Seat, Steady, Step}
use Rattle.mk_alloc.proofs.Below.Laws.Vocabulary.{TalliesAreTidy, Word, World, ℕ, and_from, ap, append-nil, arith}
use Rattle.mk_alloc.proofs.Below.Laws.Vocabulary.{eq-eqb, false, has_phase, host_has_turn, inl, inr, left, ne_eqb}
use Rattle.mk_alloc.proofs.Below.Laws.Vocabulary.{phase_of, refl, subst, true, ◌%◌, ◌+◌, ◌/◌, ◌^◌, ◌∙◌, ◌≡◌, ◌≤◌, ◌⊎◌}
use Rattle.mk_alloc.proofs.Below.Laws.{Actors.give_phase, Settled.gone_is_unmapped}
use Rattle.mk_alloc.proofs.Below.{Laws.Tallies.counts_tidy_more, Cycles.KeptInParts.{free_then, gates_behind}}
use Rattle.mk_alloc.{proofs.Below.Cycles.KeptInParts.{keeps_less, same_config}, specs.Below.Words.TurnSteps.{world_at}}
use Rattle.mk_alloc.proofs.Below.Cycles.OwnSteps.{keeps_call, keeps_counts, steady_behind}
use Rattle.mk_alloc.proofs.Below.Cycles.{Allowed.protocol, BeginSteps.none_held_kept}
use Rattle.mk_alloc.proofs.Below.{Cycles.{CleaningSteps.calm_keeps, MayAct.may_act}, Words.Made.made}
use Rattle.mk_alloc.proofs.Below.Words.{OverPhases.end_is_behind_over, Tallies.settled_tallies}
use Rattle.mk_alloc.specs.Below.Cycles.{BeginCycle.BeginsCycle, EngineLaw.{IsAtPhase, IsFreeForCycle}}
use Rattle.mk_alloc.specs.Below.Cycles.{FinishCycle.FinishesCycle, TurnKeeps.{LeavesTurn, but_phase}}
use Rattle.mk_alloc.specs.Below.{Cycles.TurnKeeps.unchanged, Words.TurnSteps.TakesTurn}
use Rattle.mk_alloc.specs.Below.Words.States.{Has, has_over, IsTurn, PassState, now_of}
use Rattle.mk_alloc.specs.Below.Words.{Steps.{Finds, IsAdmittedTo, IsEnabledTo}, TurnSteps.{Acts, IsFresh}}
use Rattle.mk_core.proofs.Histories.{calls_more}
use Rattle.mk_core.specs.{Counts.TalliesAreExact, Frames.{CountsAreLeft, steady_of}, Moments.none_is_held}
use Rattle.mk_heap.proofs.{HomeCallers.taken_overs, MovedHosts.{taken_own, turn_moves}}
use Rattle.mk_heap.specs.Ending.{IsIdleTurn, TakesIdleTurn}

-- The host's turn before an `over`: whether a cycle is on, and that none is after the end of one.

at_most_one : (n : ℕ) → n ≤ 1 → (n ≡ 0) ⊎ (n ≡ 1)
at_most_one x0 le = grind arith

-- Directly after its `take` a turn has a cycle on or none, and is free for one.

pub fresh_phase : {p : PassState} → IsFresh p None → IsHistory p.table.config p.seen → has_over p.seen ≡ false
    → (IsAtPhase p 0) ⊎ (IsAtPhase p 1)
fresh_phase f history before = grind (arith, give_phase, at_most_one, end_is_behind_over)

pub fresh_free : {p : PassState} → IsFresh p None → IsFreeForCycle p
fresh_free f = grind arith

-- The look at the phase keeps all.

pub look_keeps : {p q : PassState} → IsTurn p → IsFreeForCycle p → Acts p (Step.Look Word.Phase) q
    → LeavesTurn unchanged p q
look_keeps {p} {q} t free a = calm_keeps p (Step.Look Word.Phase) q a t a.makes.pass.history refl free unchanged refl

-- What is exact and tidy stays so where all but the phase is kept.

pub exact_kept : {p q : PassState} → LeavesTurn but_phase p q → TalliesAreExact p.table.config p.seen
    → TalliesAreExact q.table.config q.seen
exact_kept k x = grind (arith, same_config)

pub tidy_kept : {p q : PassState} → LeavesTurn but_phase p q → TalliesAreTidy p.table.config p.seen
    → TalliesAreTidy q.table.config q.seen
tidy_kept k x = grind (arith, same_config)

-- What is idle: a turn in which the look found no cycle on, and one in which a cycle was finished.

finished_idle : {p q : PassState} → p.seat ≡ Host → IsFreeForCycle p → FinishesCycle p q
    → TalliesAreExact p.table.config p.seen → TalliesAreTidy p.table.config p.seen → IsIdleTurn q
finished_idle host free f exact tidy = grind (arith, same_config)

-- The host took the turn, before its `over`, and looked at the phase.
pub record HasLooked (h p : PassState) (n : ℕ) (q : PassState) : Type 0 where
  pub host : h.seat ≡ Host
  pub before_over : has_over h.seen ≡ false
  pub takes : TakesTurn h None p
  pub fresh : IsFresh p None
  pub exact : TalliesAreExact p.table.config p.seen
  pub tidy : TalliesAreTidy p.table.config p.seen
  pub turn : IsTurn p
  pub finds : Finds p (Step.Look Word.Phase) n q
  pub acts : Acts p (Step.Look Word.Phase) q

module _ {h p : PassState} {n : ℕ} {q : PassState} (l : HasLooked h p n q) where
  pub host_has : Has h.seats Host
  host_has = subst (λ (s : Seat). Has h.seats s) l.host (taken_own l.takes)

  pub looked : LeavesTurn unchanged p q
  looked = look_keeps l.turn (fresh_free l.fresh) l.acts

  less : LeavesTurn but_phase p q
  less = keeps_less unchanged but_phase p q looked

  seat : q.seat ≡ Host
  seat = ap (λ (r : PassState). r.seat) (looked.call.pass) ∙ ap (λ (r : PassState). r.seat)
      (turn_moves h p l.takes).is ∙ l.host

  pub phase_found : n % 8 ≡ phase_of (now_of p).words
  phase_found =
      ap (λ (i : ℕ). i % 8) l.finds.finds ∙ ap (λ (s : Steady). s.phase)
      (((made p (Step.Look Word.Phase) q l.finds.makes).frame.turn l.turn.holds).0).steady

  -- It finds whether a cycle is on: where none is the turn is idle,
  module _ (other : n % 8 ≡ 1 → ⊥) where
    none : IsAtPhase p 0
    none = elim (fresh_phase l.fresh l.turn.history (taken_overs l.takes host_has l.turn.history ∙ l.before_over)) [
      | inl idle ↦ idle
      | inr on ↦ absurd (other (phase_found ∙ on))
    ]

    pub found_none : TakesIdleTurn h q
    found_none = grind (arith, none)

    pub looked_idle : IsIdleTurn q
    looked_idle = record {
      seat = seat;
      phase = ap (λ (s : Steady). s.phase) looked.steady ∙ none;
      free = free_then p q looked.call (fresh_free l.fresh);
      gates = none_held_kept p q looked.call.pass (gates_behind p (Step.Look Word.Phase) q l.acts refl) l.fresh.gates;
      exact = exact_kept less l.exact;
      tidy = tidy_kept less l.tidy;
    }

  -- and else once it is finished.
  module _ {r : PassState} (law : FinishesCycle q r) where
    pub found_one : n % 8 ≡ 1 → TakesIdleTurn h r
    found_one on = grind (arith, phase_found)

    pub finished : IsIdleTurn r
    finished =
        finished_idle seat (free_then p q looked.call (fresh_free l.fresh)) law (exact_kept less l.exact)
        (tidy_kept less l.tidy)

-- A cycle that was begun in an idle turn may be finished there.
pub begun_free : {p q : PassState} → IsFreeForCycle p → BeginsCycle p q → IsFreeForCycle q
begun_free free b = grind arith

pub cycle_idle : {p b q : PassState} → IsIdleTurn p → BeginsCycle p b → FinishesCycle b q → IsIdleTurn q
cycle_idle idle begins finishes = grind (arith, finished_idle, begun_free)

over_phase : (n markers : ℕ) → n % 8 ≡ 0 → n / 8 ≡ markers → markers ≤ 8 → (n + 5) % 2 ^ 64 % 8 ≡ 5
over_phase n markers none high few = omega arith

module _ (p q : PassState) (t : IsTurn p) (idle : IsIdleTurn p) (u : IsTurn q) (a : Acts p Step.Over q) where
  abbrev w : World
  w = world_at a.makes

  pub over_at_five : IsAtPhase q 5
  over_at_five = grind (arith, made, protocol, count_by-le-length, over_phase)

  pub over_keeps : LeavesTurn but_phase p q
  over_keeps = record {
    call = keeps_call p Step.Over q a t.own t.holds u.history (λ n. refl) (λ n. refl) refl;
    steady = steady_behind p Step.Over q a t.own t.holds u.history but_phase (λ x. refl);
    counts = keeps_counts p Step.Over q a t.own t.holds u.history (λ n. refl) refl;
  }

-- What the host's turn is where it may be given back.
pub record MayGive (p : PassState) : Type 0 where
  pub seat : p.seat ≡ Host
  pub phase : has_phase (phase_of (now_of p).words) Step.Give ≡ true
  pub free : IsFreeForCycle p
  pub gates : none_is_held p.table.config.callers (now_of p).words ≡ true
  pub exact : TalliesAreExact p.table.config p.seen

pub give_allowed : {p : PassState} → IsTurn p → MayGive p → IsEnabledTo p Step.Give
give_allowed t may =
    grind (arith, may_act, protocol, and_from, eq-eqb, ne_eqb, give_phase, gone_is_unmapped, settled_tallies)

-- An idle turn may be given back, and one after the `over`.

pub idle_may_give : {p : PassState} → IsIdleTurn p → MayGive p
idle_may_give idle = grind arith

pub over_may_give : {p q : PassState} → IsTurn p → IsIdleTurn p → IsTurn q → Acts p Step.Over q → MayGive q
over_may_give {p} {q} t idle u a =
    let keeps = over_keeps p q t idle u a in
    record {
      seat = ap (λ (r : PassState). r.seat) keeps.call.pass ∙ idle.seat;
      phase = ap (λ (n : ℕ). has_phase n Step.Give) (over_at_five p q t idle u a);
      free = free_then p q keeps.call idle.free;
      gates = none_held_kept p q keeps.call.pass (gates_behind p Step.Over q a refl) idle.gates;
      exact = exact_kept keeps idle.exact;
    }

-- What the host asks where it tells a word: a look decides nothing, and the turn may be given back after it.

-- No step of the host's decides a call.
pub look_admitted : (p : PassState) (x : Word) → p.seat ≡ Host → IsHistory p.table.config p.seen
    → IsAdmittedTo p (Step.Look x)
look_admitted p x host h = grind (arith, calls_more, append-nil)

tidy_behind_others : {c : Config} {es fs : List Event} → steady_of (left c fs) ≡ steady_of (left c es)
    → CountsAreLeft c es fs → TalliesAreTidy c es → TalliesAreTidy c fs
tidy_behind_others same counts t = grind arith

-- A look leaves the tallies what they count (as in the clients of the shared words).
pub look_tidy : {p q : PassState} {x : Word} → Acts p (Step.Look x) q → p.seat ≡ Host
    → TalliesAreTidy p.table.config p.seen → TalliesAreTidy q.table.config q.seen
look_tidy a host t = grind (arith, counts_tidy_more, tidy_behind_others)

-- After a `give` the host hasn't the turn.
pub given_no_turn : {p q : PassState} → Acts p Step.Give q → host_has_turn q.table.config (now_of q) ≡ false
given_no_turn a = grind (arith, ne_eqb)

-- and the phase is as it was.
pub given_phase : {p q : PassState} → Acts p Step.Give q → phase_of (now_of q).words ≡ phase_of (now_of p).words
given_phase a = ap (λ (w : World). phase_of w.now.words) a.world ∙ ap (λ (s : Steady). s.phase) a.turn.steady

-- A turn of the host's that is fresh but for a look may be given back.
pub looked_may_give : {p q : PassState} {x : Word} → p.seat ≡ Host → IsTurn p → IsFresh p None
    → Acts p (Step.Look x) q → TalliesAreExact p.table.config p.seen → MayGive q
looked_may_give {p} {q} {x} host t f a exact =
    let keeps = calm_keeps p (Step.Look x) q a t a.makes.pass.history refl (fresh_free f) unchanged refl in
    record {
      seat = ap (λ (r : PassState). r.seat) keeps.call.pass ∙ host;
      phase = ap (λ (s : Steady). has_phase s.phase Step.Give) keeps.steady ∙ f.phase;
      free = free_then p q keeps.call (fresh_free f);
      gates = none_held_kept p q keeps.call.pass (gates_behind p (Step.Look x) q a refl) f.gates;
      exact = exact_kept (keeps_less unchanged but_phase p q keeps) exact;
    }
