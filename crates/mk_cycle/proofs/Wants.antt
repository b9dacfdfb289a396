-- The wish to close the marks, and the looks at the phase after it.
use Rattle.mk_words.proofs.Below.Laws.Vocabulary.{Bool, Config, Event, List, Moment, Steady, Step, Word, World, ℕ, ap}
use Rattle.mk_words.proofs.Below.Laws.Vocabulary.{append-nil, append_assoc, arith, false, phase_of, refl, sym, true}
use Rattle.mk_words.proofs.Below.Laws.Vocabulary.{[], ◌%◌, ◌+◌, ◌++◌, ◌<◌, ◌^◌, ◌∙◌, ◌≡◌}
use Rattle.mk_words.proofs.{Below.Laws.ProtocolReadings.words_tell, PointedCells.found_there}
use Rattle.mk_cycle.proofs.Parts.{counted_then, counted_wider, traces_step, traces_wider}
use Rattle.mk_cycle.proofs.Steps.{step_counts, step_untouched, still_ready}
use Rattle.mk_cycle.specs.{Tracing.{Counted, Traces, is_marking, is_tracing, is_waiting}, TurnKeeps.is_want}
use Rattle.mk_cycle.specs.{EngineLaw.WantsFirst, Grays.{TracesReached, WaitsForMarkers}}
use Rattle.mk_cycle.specs.Stops.{HolderIsLoaded, IsWanted}
use Rattle.mk_words.{proofs.TurnSteps.still_stopped, specs.Steps.Does}
use Rattle.mk_words.specs.{States.{PassState, TurnState, now_of}, Steps.Finds, TurnSteps.{Acts, IsStopped, world_at}}

phase_there : {p q : PassState} {s : Step} (a : Acts p s q)
    → phase_of (world_at a.makes).now.words ≡ phase_of (now_of p).words
phase_there a = ap (λ (x : Steady). x.phase) a.turn.steady

one_more : (n : ℕ) → n % 8 ≡ 1 → (n + 1) % 2 ^ 64 % 8 ≡ 2
one_more n h = omega arith

pub want_waits : {t u : TurnState} → Acts t.pass Step.Want u.pass → HolderIsLoaded t.pass → IsStopped t.pass
    → phase_of (now_of t.pass).words ≡ 1 → WaitsForMarkers t u 1
want_waits {t} {u} a ready gates one =
    let same = step_untouched a refl gates refl in
    record {
      table = ap (λ (p : PassState). p.table) a.makes.is;
      ready = still_ready a.makes same ready;
      gates = still_stopped t.pass Step.Want u.pass a refl gates;
      phase = grind (arith, one_more, phase_there);
      traces = traces_step a.makes is_waiting TracesReached is_want 1 refl tt same (step_counts a refl) refl;
    }

pub look_waits : {t u : TurnState} → Acts t.pass (Step.Look Word.Phase) u.pass → HolderIsLoaded t.pass
    → IsStopped t.pass → phase_of (now_of t.pass).words ≡ 2 → WaitsForMarkers t u 0
look_waits {t} {u} a ready gates two =
    let same = step_untouched a refl gates refl in
    record {
      table = ap (λ (p : PassState). p.table) a.makes.is;
      ready = still_ready a.makes same ready;
      gates = still_stopped t.pass (Step.Look Word.Phase) u.pass a refl gates;
      phase = ap (λ (w : World). phase_of w.now.words) a.world ∙ phase_there a ∙ two;
      traces = traces_step a.makes is_waiting TracesReached is_want 0 refl tt same (step_counts a refl) refl;
    }

-- no marker is in
pub look_wanted : {t u : TurnState} → WaitsForMarkers t u 0 → {n : ℕ} → Finds t.pass (Step.Look Word.Phase) n u.pass
    → n < 8 → IsWanted u.pass
look_wanted {t} {u} waits {n = n} finds few =
    let now : (now_of u.pass).words.phase ≡ n = found_there t.pass u.pass Word.Phase n finds in
    let history = u.in_order.history in
    let tell = words_tell u.pass.table.config u.pass.seen history.within_limits history.enabled in
    record {
      ready = waits.ready;
      gates = waits.gates;
      phase = waits.phase;
      none = tell.phase.none_in (omega arith);
    }

-- The wish comes before all else,

pub wants_now : {p q : PassState} → Acts p Step.Want q → WantsFirst p q
wants_now {q = q} a = record { wanted = q; want = a.makes; rest = []; is = sym (append-nil q.seen) }

-- also when more was seen after it.

pub wants_later : {p q r : PassState} → WantsFirst p q → (more : List Event) → r.seen ≡ q.seen ++ more
    → WantsFirst p r
wants_later {q = q} w more is = record {
  wanted = w.wanted;
  want = w.want;
  rest = w.rest ++ more;
  is = is ∙ ap (λ (l : List Event). l ++ more) w.is ∙ append_assoc w.wanted.seen w.rest more;
}

pub wants_by : {kinds : Step → Bool} {p q r : PassState} → WantsFirst p q → Does kinds q r → WantsFirst p r
wants_by w d = wants_later w d.more (ap (λ (x : PassState). x.seen) d.is)

-- Looks after the wish add no other, nor does the marking.

pub waits_then : {t u v : TurnState} → WaitsForMarkers t u 1 → WaitsForMarkers u v 0 → WaitsForMarkers t v 1
waits_then one none = record {
  table = none.table ∙ one.table;
  ready = none.ready;
  gates = none.gates;
  phase = none.phase;
  traces = counted_then is_waiting TracesReached is_want _ _ _ 1 0 one.traces none.traces;
}

waiting_traces : (s : Step) → is_waiting s ≡ true → is_tracing s ≡ true
waiting_traces x0 h = grind arith

marking_traces : (s : Step) → is_marking s ≡ true → is_tracing s ≡ true
marking_traces Step.Want h = refl
marking_traces s h = h

marking_wants : (s : Step) → is_marking s ≡ true → is_want s ≡ false
marking_wants Step.Want h = cc
marking_wants _ h = refl

-- by any rule that the waiting keeps to
pub wanted_once_then : (rule : Config → Moment → Step → Type 0) (p q r : PassState)
    → Counted is_waiting rule is_want p q 1 → Traces is_marking rule q r → Counted is_tracing rule is_want p r 1
wanted_once_then rule p q r one t =
    counted_then is_tracing rule is_want p q r 1 0 (counted_wider is_waiting is_tracing rule is_want p q 1
    waiting_traces one) (traces_wider is_tracing is_want marking_traces marking_wants t)
