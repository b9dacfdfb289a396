-- While gates are looked at and held the holder's call stays where it is, and what has been done in its turn.
use Rattle.mk_words.proofs.Below.Laws.Vocabulary.{Bool, Seat, Step, Word, World, ℕ, and_from, ap, arith}
use Rattle.mk_words.proofs.Below.Laws.Vocabulary.{eq-eqb, eqb-true, false, is_held, is_number_of, lt-ltb, not, refl}
use Rattle.mk_words.proofs.Below.Laws.Vocabulary.{slice_index, subst, sym, true, true≢false, ◌<◌, ◌==◌, ◌∙◌, ◌≡◌}
use Rattle.mk_words.proofs.Made.{own_before}
use Rattle.mk_words.specs.States.{TurnState}
use Rattle.mk_cycle.proofs.Vocabulary.{Acts, HoldsGates, IsEnabledTo, IsTurn, LeavesTurn, PassState, WordsState}
use Rattle.mk_cycle.proofs.Vocabulary.{does_step, holds_gates, now_of, steady_of, world_at}
use Rattle.mk_cycle.proofs.{BesideSteps.{goes_hold, goes_look, hold_others}, HoldingSteps.stays_held}
use Rattle.mk_cycle.proofs.{HoldingSteps.{holds_nothing, holds_then}, KeptInParts.{gates_behind}}
use Rattle.mk_cycle.proofs.{MarksBeside.{goes_nowhere, goes_then, others_on}, OwnSteps.{keeps_call, keeps_counts}}
use Rattle.mk_cycle.proofs.{Steps.may_step, TracedMarks.ready_of}
use Rattle.mk_cycle.specs.{Beside.{GoesBeside, IsBeside, KeepsOtherGates, SetsGate}, Stops.{HoldsSuch, all_others}}
use Rattle.mk_cycle.specs.{Stops.{only_gate, HolderIsLoaded, IsForGate}, TurnKeeps.unchanged}

-- one step

looks_keep : {p q : PassState} {j : ℕ} → Acts p (Step.Look (Word.Gate j)) q → LeavesTurn unchanged p q
looks_keep {p} {q} {j} a = record {
  call = keeps_call p _ q a (own_before a.makes) a.holds a.makes.pass.history (λ n. refl) (λ n. refl) refl;
  steady = ap (λ (w : World). steady_of w) a.world ∙ a.turn.steady;
  counts = keeps_counts p _ q a (own_before a.makes) a.holds a.makes.pass.history (λ n. refl) refl;
}

tries_keep : {p q : PassState} {j : ℕ} → Acts p (Step.Hold j) q → LeavesTurn unchanged p q
tries_keep {p} {q} {j} a = record {
  call = keeps_call p _ q a (own_before a.makes) a.holds a.makes.pass.history (λ n. refl) (λ n. refl) refl;
  steady = ap (λ (w : World). steady_of w) a.world ∙ a.turn.steady;
  counts = keeps_counts p _ q a (own_before a.makes) a.holds a.makes.pass.history (λ n. refl) refl;
}

look_holds : {p q : PassState} {j : ℕ} → Acts p (Step.Look (Word.Gate j)) q → HoldsGates p q
look_holds {p} {q} {j} a = record {
  does = does_step holds_gates p q (Step.Look (Word.Gate j)) a.makes refl;
  keeps = looks_keep a;
  held = λ i h. eq-eqb _ 2 (ap (λ (w : World). slice_index w.now.words.gates i) a.world
      ∙ a.turn.held_gates i (eqb-true _ 2 h));
}

try_holds : {p q : PassState} {j : ℕ} → Acts p (Step.Hold j) q → HoldsGates p q
try_holds {p} {q} {j} a = record {
  does = does_step holds_gates p q (Step.Hold j) a.makes refl;
  keeps = tries_keep a;
  held = λ i h. eq-eqb _ 2 (ap (λ (w : World). slice_index w.now.words.gates i) a.world
      ∙ stays_held (world_at a.makes).now.words.gates j i (a.turn.held_gates i (eqb-true _ 2 h)));
}

-- any number of them

pub such_holds : {such : ℕ → Bool} {t u : TurnState} → HoldsSuch such t u → HoldsGates t.pass u.pass
such_holds {t = t} HoldsSuch.none_yet = holds_nothing t.pass
such_holds (HoldsSuch.then_looks j before a) = holds_then (such_holds before) (look_holds a)
such_holds (HoldsSuch.then_tries j of before a) = holds_then (such_holds before) (try_holds a)

pub such_then : {such : ℕ → Bool} {t u v : TurnState} → HoldsSuch such t u → HoldsSuch such u v → HoldsSuch such t v
such_then one HoldsSuch.none_yet = one
such_then one (HoldsSuch.then_looks j before a) = HoldsSuch.then_looks j (such_then one before) a
such_then one (HoldsSuch.then_tries j of before a) = HoldsSuch.then_tries j of (such_then one before) a

pub such_wider : {narrow wide : ℕ → Bool} {t u : TurnState} → ((j : ℕ) → narrow j ≡ true → wide j ≡ true)
    → HoldsSuch narrow t u → HoldsSuch wide t u
such_wider wider HoldsSuch.none_yet = HoldsSuch.none_yet
such_wider wider (HoldsSuch.then_looks j before a) = HoldsSuch.then_looks j (such_wider wider before) a
such_wider wider (HoldsSuch.then_tries j of before a) =
    HoldsSuch.then_tries j (wider j of) (such_wider wider before) a

-- what may be held then

still_within : {such : ℕ → Bool} {t u : TurnState} {i : ℕ} → HoldsSuch such t u → i < t.pass.table.config.callers
    → i < u.pass.table.config.callers
still_within {i = i} holds lt =
    subst (λ (p : PassState). i < p.table.config.callers) (sym (such_holds holds).keeps.call.pass) lt

pub still_loaded : {such : ℕ → Bool} {t u : TurnState} → HoldsSuch such t u → HolderIsLoaded t.pass
    → HolderIsLoaded u.pass
still_loaded holds ready = let kept = (such_holds holds).keeps.call in grind arith

pub may_hold_still : {such : ℕ → Bool} {w : WordsState} {t u : TurnState} {caller : ℕ} → HoldsSuch such t u
    → IsForGate HolderIsLoaded w t.pass caller → IsForGate HolderIsLoaded w u.pass caller
may_hold_still {caller = caller} holds may =
    let same = (such_holds holds).keeps.call.pass in
    record {
      one_table = ap (λ (p : PassState). p.table) same ∙ may.one_table;
      ready = still_loaded holds may.ready;
      within = may.within;
      another = ap (λ (p : PassState). is_number_of p.seat caller) same ∙ may.another;
    }

-- The steps may come.

module _ {w : WordsState} (t : TurnState) {caller : ℕ} (may : IsForGate HolderIsLoaded w t.pass caller) where
  pub gate_within : caller < t.pass.table.config.callers
  gate_within = subst (λ (x : WordsState). caller < x.config.callers) (sym may.one_table) may.within

  pub gate_look_allowed : IsEnabledTo t.pass (Step.Look (Word.Gate caller))
  gate_look_allowed =
      may_step t (Step.Look (Word.Gate caller)) may.ready refl (lt-ltb caller _ gate_within) refl refl refl refl

  pub hold_may_come : is_held (now_of t.pass).words caller ≡ false → IsEnabledTo t.pass (Step.Hold caller)
  hold_may_come none =
      may_step t (Step.Hold caller) may.ready refl
      (and_from _ (not _) (lt-ltb caller _ gate_within) (ap not may.another)) (ap not none) refl refl refl

-- What the look at a gate tells of it.
pub found_held : {p q : PassState} {caller n : ℕ} → caller < p.table.config.callers
    → Acts p (Step.Look (Word.Gate caller)) q → n ≡ slice_index (now_of q).words.gates caller
    → is_held (now_of p).words caller ≡ (n == 2)
found_held {p} {q} {caller} within a is =
    sym (gates_behind p (Step.Look (Word.Gate caller)) q a refl caller within) ∙ ap (λ (i : ℕ). i == 2) (sym is)

pub held_now : (p : PassState) (caller : ℕ) {n : ℕ} → n ≡ slice_index (now_of p).words.gates caller
    → is_held (now_of p).words caller ≡ (n == 2)
held_now p caller is = ap (λ (i : ℕ). i == 2) (sym is)

-- Beside the callers.

record HeldBeside (caller : ℕ) (t u : TurnState) : Type 0 where
  on : GoesBeside t u
  others : KeepsOtherGates caller t.pass u.pass

held_beside : {caller : ℕ} {t u : TurnState} → IsBeside t.pass → HoldsSuch (only_gate caller) t u
    → HeldBeside caller t u
held_beside {t = t} b HoldsSuch.none_yet = record { on = goes_nowhere t b; others = λ j lt ne. refl }
held_beside {caller} {u = v} b (HoldsSuch.then_looks {u = u} j before a) =
    let x = held_beside b before in
    record {
      on = goes_then x.on (goes_look u v x.on.beside a refl);
      others = others_on caller v x.on x.others (λ i lt ne. gates_behind u.pass _ v.pass a refl i lt);
    }
held_beside {caller} {u = v} b (HoldsSuch.then_tries {u = u} j of before a) =
    let x = held_beside b before in
    let leaves : KeepsOtherGates caller u.pass v.pass = subst (λ (i : ℕ). KeepsOtherGates i u.pass v.pass)
    (eqb-true j caller of) (hold_others a) in
    record {
      on = goes_then x.on (goes_hold u v x.on.beside a);
      others = others_on caller v x.on x.others leaves;
    }

pub sets_beside : {w : WordsState} {caller : ℕ} {t u : TurnState} → IsForGate IsBeside w t.pass caller
    → HoldsSuch (only_gate caller) t u → is_held (now_of u.pass).words caller ≡ true → SetsGate caller true t u
sets_beside may holds set =
    let x = held_beside may.ready holds in record { on = x.on; others = x.others; set = set }

pub may_hold_beside : {w : WordsState} {p : PassState} {caller : ℕ} → IsTurn p → IsForGate IsBeside w p caller
    → IsForGate HolderIsLoaded w p caller
may_hold_beside turn may = record {
  one_table = may.one_table;
  ready = ready_of turn may.ready.free;
  within = may.within;
  another = may.another;
}

-- A gate of another caller is one of those of all others.
pub gate_of_others : (s : Seat) (caller : ℕ) → is_number_of s caller ≡ false → (j : ℕ) → only_gate caller j ≡ true
    → all_others s j ≡ true
gate_of_others s caller another j is =
    subst (λ (i : ℕ). all_others s i ≡ true) (sym (eqb-true j caller is)) (ap not another)

-- A gate of another sort is left.
pub others_stay : {such : ℕ → Bool} {t u : TurnState} → HoldsSuch such t u → (i : ℕ)
    → i < t.pass.table.config.callers → such i ≡ false
    → is_held (now_of u.pass).words i ≡ is_held (now_of t.pass).words i
others_stay HoldsSuch.none_yet i lt not_such = refl
others_stay {u = v} (HoldsSuch.then_looks {u = u} j before a) i lt not_such =
    gates_behind u.pass _ v.pass a refl i (still_within before lt) ∙ others_stay before i lt not_such
others_stay {such} (HoldsSuch.then_tries j of before a) i lt not_such =
    hold_others a i (still_within before lt)
    (λ same. true≢false (sym of ∙ ap such (sym same) ∙ not_such)) ∙ others_stay before i lt not_such
