-- Parts of a turn in which it goes on: the parts of cycles decide nothing, and what goes on in two parts goes on.
use Rattle.mk_alloc.proofs.CalmStretches.{cycles_in_turn, goes_undecided, is_of_cycles}
use Rattle.mk_alloc.proofs.{CycleParts.{begin_done, finish_done}, Parts.{Part, seen_behind}}
use Rattle.mk_alloc.proofs.{Stretches.{does_both, does_once, does_stretch, widened}, Vocabulary.{Acts, Answer}}
use Rattle.mk_alloc.proofs.Vocabulary.{BeginsCycle, Bool, Caller, Config, Decided, Does, Event, FinishesCycle, Flight}
use Rattle.mk_alloc.proofs.Vocabulary.{IsEnabledTo, IsHistory, IsOutOfStop, IsQuiet, IsTurn, KeepsGates, LeavesTurn}
use Rattle.mk_alloc.proofs.Vocabulary.{List, OnlyDoes, None, Op, Option, PassState, PlacedAllocation, Some, Stage}
use Rattle.mk_alloc.proofs.Vocabulary.{Steady, Step, TalliesAreTidy, TurnGoesOn, ℕ, and_from, ap, append-nil, arith}
use Rattle.mk_alloc.proofs.Vocabulary.{call_of, caller_of_pass, calm_keeps, does_nothing, ends, entry_of, eq-eqb}
use Rattle.mk_alloc.proofs.Vocabulary.{free_then, fresh_words_of, full_answers, gates_behind, gone_is_unmapped}
use Rattle.mk_alloc.proofs.Vocabulary.{held_by_allocations, in_a_word, inl, inr, is_look, now_of, off_four, or_left}
use Rattle.mk_alloc.proofs.Vocabulary.{own_calls, phase_of, refl, releases, same_config, steady_of, subst, sym, true}
use Rattle.mk_alloc.proofs.Vocabulary.{turn_stays, unchanged, world_of, ◌++◌, ◌==◌, ◌||◌, ◌∙◌, ◌≡◌, ◌⊎◌, Holding}
use Rattle.mk_caller.proofs.{Below.Laws.Vocabulary.{OwnCycle, Word}, Below.Words.Tallies.settled_tallies}
use Rattle.mk_core.specs.Counts.{TalliesAreExact}
use Rattle.mk_cycle.proofs.{Allowed.{look_allowed, protocol}, BeginSteps.none_held_kept, MayAct.may_act}
use Rattle.mk_cycle.specs.{EngineLaw.IsFreeForCycle, TurnKeeps.{IsGone, done_of}}

-- What keeps a turn quiet, and that a quiet one may look at the phase and, once its call is decided, be given back.

-- the look at the phase

pub phase_allowed : {p : PassState} → IsTurn p → IsFreeForCycle p → IsEnabledTo p (Step.Look Word.Phase)
phase_allowed {p} t free = look_allowed p t free Word.Phase refl refl

pub looked : {p q : PassState} → IsTurn p → IsFreeForCycle p → Acts p (Step.Look Word.Phase) q → OnlyDoes is_look p q
looked {p} {q} t free a = record {
  does = does_once a.makes refl;
  keeps = calm_keeps p (Step.Look Word.Phase) q a t a.makes.pass.history refl free unchanged refl;
  gates = gates_behind p (Step.Look Word.Phase) q a refl;
}

-- What is exact and tidy stays so where all that only the holder changes is kept, but for the tally of the Fulls.

abbrev pub but_full : Steady → Steady
but_full s = record s { full = 0 }

pub exact_kept : (p q : PassState) → q ≡ record p { seen = q.seen } → but_full (steady_of (world_of q)) ≡ but_full
    (steady_of (world_of p)) → TalliesAreExact p.table.config p.seen → TalliesAreExact q.table.config q.seen
exact_kept p q is steady x =
    let c : Config = p.table.config in
    let same : q.table.config ≡ c = same_config p q is in
    let xs : List PlacedAllocation = (world_of q).allocations in
    let allocations : xs ≡ (world_of p).allocations = ap (λ (s : Steady). s.allocations) steady in
    record {
      held =
          ap (λ (s : Steady). s.held) steady ∙ x.held ∙ sym (ap (λ (d : Config). held_by_allocations d xs) same
          ∙ ap (λ (ys : List PlacedAllocation). held_by_allocations c ys) allocations);
      fresh =
          ap (λ (s : Steady). s.fresh) steady ∙ x.fresh ∙ sym (ap (λ (d : Config). in_a_word (fresh_words_of d xs)) same
          ∙ ap (λ (ys : List PlacedAllocation). in_a_word (fresh_words_of c ys)) allocations);
    }

pub tidy_kept : (p q : PassState) → but_full (steady_of (world_of q)) ≡ but_full (steady_of (world_of p))
    → ends q.seen ≡ ends p.seen → (now_of q).words.full ≡ in_a_word (full_answers q.table.config q.seen)
    → TalliesAreTidy p.table.config p.seen → TalliesAreTidy q.table.config q.seen
tidy_kept p q steady none full x = record {
  cycles = ap (λ (s : Steady). s.cycles) steady ∙ x.cycles ∙ ap in_a_word (sym none);
  released =
      ap (λ (s : Steady). s.released) steady ∙ x.released
      ∙ ap in_a_word (sym (ap (λ (s : Steady). releases s.allocations) steady));
  full = full;
}

pub same_phase : (p q : PassState) → phase_of (now_of q).words ≡ phase_of (now_of p).words → IsOutOfStop (now_of p)
    → IsOutOfStop (now_of q)
same_phase p q e (inl none) = inl (e ∙ none)
same_phase p q e (inr one) = inr (e ∙ one)

-- So a turn stays quiet

pub quiet_kept : {p q : PassState} → IsQuiet p → LeavesTurn unchanged p q → KeepsGates p q → IsQuiet q
quiet_kept quiet k gates =
    grind (arith, free_then, same_phase, none_held_kept, exact_kept, but_full, tidy_kept, same_config)

-- where it looks, begins a cycle, or finishes one.

pub quiet_looked : {p q : PassState} → IsQuiet p → OnlyDoes is_look p q → IsQuiet q
quiet_looked quiet k = quiet_kept quiet k.keeps k.gates

-- Of what was done in the turn a cycle's begin and its end change the own cycle alone.
still_free : {p q : PassState} {cycle : OwnCycle} → IsFreeForCycle p → call_of q ≡ call_of p
    → done_of (now_of q) ≡ record (done_of (now_of p)) { cycle = cycle } → IsGone q → IsFreeForCycle q
still_free free call done gone = grind (arith, Holding)

pub quiet_begun : {p q : PassState} → IsQuiet p → BeginsCycle p q → IsQuiet q
quiet_begun {p} {q} quiet b = record {
  free = still_free quiet.free b.call b.done b.gone;
  phase = inr (ap (λ (s : Steady). s.phase) b.steady);
  gates = none_held_kept p q b.pass b.gates quiet.gates;
  exact = b.exact quiet.exact;
  tidy = b.tidy quiet.tidy;
}

pub quiet_finished : {p q : PassState} → IsQuiet p → FinishesCycle p q → IsQuiet q
quiet_finished {p} {q} quiet f = record {
  free = still_free quiet.free f.call f.done f.gone;
  phase = inl f.phase;
  gates = cc (same_config p q f.pass, f.gates);
  exact = f.exact quiet.exact;
  tidy = f.tidy quiet.tidy;
}

-- It may be given back, once its call is decided.

give_phase : (n : ℕ) → (n ≡ 0) ⊎ (n ≡ 1) → ((n == 0) || (n == 1) || (n == 5)) ≡ true
give_phase n (inl none) = or_left ((n == 0) || (n == 1)) (n == 5) (or_left (n == 0) (n == 1) (eq-eqb n 0 none))
give_phase n (inr one) = ap (λ (i : ℕ). (i == 0) || (i == 1) || (i == 5)) one

pub give_allowed : {p : PassState} → IsTurn p → IsQuiet p → (call_of p).stage ≡ Stage.Give → IsEnabledTo p Step.Give
give_allowed t quiet decided =
    grind (arith, off_four, gone_is_unmapped, settled_tallies, may_act, protocol, give_phase, and_from, eq-eqb)

-- the pass of a caller
abbrev pub IsCallers : PassState → Type 0
IsCallers p = p.seat ≡ Caller (caller_of_pass p)

pub callers_then : {kinds : Step → Bool} {p q : PassState} → Does kinds p q → IsCallers p → IsCallers q
callers_then d is = subst (λ (x : PassState). IsCallers x) (sym d.is) is

pub same_number : {kinds : Step → Bool} {p q : PassState} → Does kinds p q → caller_of_pass q ≡ caller_of_pass p
same_number d = ap (λ (x : PassState). caller_of_pass x) d.is

own_calls_same : {kinds : Step → Bool} {p q : PassState} → Does kinds p q → (es : List Event) → own_calls q es
    ≡ own_calls p es
own_calls_same d es = ap (λ (x : PassState). own_calls x es) d.is

pub look_part : {p q : PassState} → IsTurn p → Does is_look p q → IsHistory q.table.config q.seen → Part is_look p q
look_part t d history = record { turn = t; stays = λ x h. grind arith; does = d; history = history }

-- A part of a turn that is free for a cycle, of steps of cycles alone
pub undecided_part : {p q : PassState} → IsTurn p → IsCallers p → IsQuiet p → IsQuiet q → (d : Does is_of_cycles p q)
    → IsHistory q.table.config q.seen → call_of q ≡ call_of p → TurnGoesOn None p q
undecided_part t seat quiet after d history call =
    grind (arith, widened, cycles_in_turn, seen_behind, is_of_cycles, goes_undecided, does_stretch, append-nil)

pub looked_on : {p q : PassState} → IsTurn p → IsCallers p → IsQuiet p → OnlyDoes is_look p q
    → IsHistory q.table.config q.seen
    → TurnGoesOn None p q
looked_on t seat quiet k history =
    undecided_part t seat quiet (quiet_looked quiet k) (widened (λ x h. grind arith) k.does) history k.keeps.call.call

pub begun_on : {p q : PassState} → IsTurn p → IsCallers p → IsQuiet p → BeginsCycle p q
    → IsHistory q.table.config q.seen → TurnGoesOn None p q
begun_on t seat quiet b history = undecided_part t seat quiet (quiet_begun quiet b) (begin_done b) history b.call

pub finished_on : {p q : PassState} → IsTurn p → IsCallers p → IsQuiet p → FinishesCycle p q
    → IsHistory q.table.config q.seen → TurnGoesOn None p q
finished_on t seat quiet f history = undecided_part t seat quiet (quiet_finished quiet f) (finish_done f) history f.call

-- one part after the other

pub nothing_on : {p : PassState} → IsQuiet p → TurnGoesOn None p p
nothing_on quiet = grind (arith, does_nothing, append-nil)

-- nothing was decided before
pub on_then : {a : Option Answer} {p q r : PassState} → TurnGoesOn None p q → TurnGoesOn a q r → TurnGoesOn a p r
on_then {a} {p} {q} x y =
    let d : Does turn_stays p q = x.does in
    record {
      does = does_both d y.does;
      quiet = y.quiet;
      entry =
          sym (own_calls_same d _) ∙ y.entry ∙ ap (λ (l : List Decided). l ++ entry_of (caller_of_pass q)
          (call_of q).op a) (own_calls_same d q.seen ∙ x.entry ∙ append-nil (own_calls p p.seen))
          ∙ ap (λ k. own_calls p p.seen ++ entry_of k (call_of q).op a) (same_number d)
          ∙ ap (λ (o : Op). own_calls p p.seen ++ entry_of (caller_of_pass p) o a) x.op;
      op = y.op ∙ x.op;
      decided = y.decided;
      undecided = λ none. y.undecided none ∙ x.undecided refl;
    }

-- or nothing after
pub then_on : {a : Answer} {p q r : PassState} → TurnGoesOn (Some a) p q → TurnGoesOn None q r → TurnGoesOn (Some a) p r
then_on {p} {q} {r} x y =
    let d : Does turn_stays p q = x.does in
    record {
      does = does_both d y.does;
      quiet = y.quiet;
      entry =
          sym (own_calls_same d r.seen) ∙ y.entry ∙ append-nil (own_calls q q.seen) ∙ own_calls_same d q.seen ∙ x.entry;
      op = y.op ∙ x.op;
      decided = λ some. ap (λ (f : Flight). f.stage) (y.undecided refl) ∙ x.decided refl;
      undecided = λ none. cc;
    }
