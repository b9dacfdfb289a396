-- The `close` and the `release` of a cycle.
use Rattle.mk_words.proofs.Below.Laws.Vocabulary.{Config, Steady, Step, Words, World, ℕ, ap, arith, fresh_words_of, map}
use Rattle.mk_words.proofs.Below.Laws.Vocabulary.{phase_of, refl, subst, with_released, [], ◌%◌, ◌+◌, ◌<◌, ◌^◌, ◌∙◌}
use Rattle.mk_words.proofs.Below.Laws.Vocabulary.{◌≡◌}
use Rattle.mk_cycle.proofs.Vocabulary.{Acts, IsAtPhase, IsFreeForCycle, IsTurn, LeavesTurn, PassState}
use Rattle.mk_cycle.proofs.Vocabulary.{count_by-le-length, made, steady_of, world_at, world_of}
use Rattle.mk_cycle.proofs.{Allowed.protocol, BeginSteps.counts_then, CleaningSteps.calm_keeps, KeptInParts.calls_then}
use Rattle.mk_cycle.proofs.{KeptInParts.{free_then, same_config}, ReleasedCounts.fresh_words_stay}
use Rattle.mk_cycle.specs.{EngineLaw.ClosesMarks, FinishCycle.ReleasesUnmarked, TurnKeeps.but_phase}
use Rattle.mk_words.specs.Steps.{moment_of}

-- the phase where the step is made
pub phase_at : {p : PassState} {s : Step} {q : PassState} (a : Acts p s q) → IsTurn p → IsTurn q → (phase : ℕ)
    → IsAtPhase p phase → phase < 7 → ((world_at a.makes).now.words.phase + 1) % 2 ^ 64 % 8 ≡ phase + 1
phase_at a t u phase at small = grind (arith, made, protocol, count_by-le-length)

pub close_leaves : {p q : PassState} → IsTurn p → IsFreeForCycle p → IsAtPhase p 2 → Acts p Step.Close q → IsTurn q
    → LeavesTurn but_phase p q × IsAtPhase q 3
close_leaves {p} {q} t free at a u = (
  calm_keeps p Step.Close q a t u.history refl free but_phase refl,
  ap (λ (w : World). phase_of w.now.words) a.world ∙ phase_at a t u 2 at (omega arith),
)

but_release : Steady → Steady
but_release s = record s { phase = 0; allocations = [] }

pub releases_unmarked : {p b d q : PassState} → IsTurn p → IsFreeForCycle p → ClosesMarks p b → IsTurn b
    → Acts b Step.Close d → IsTurn d → Acts d Step.Release q → IsTurn q → ReleasesUnmarked p q
unfolding but_release
releases_unmarked {p} {b} {d} {q} t free marks tb close td release tq =
    let free_b = free_then p b marks.keeps.call free in
    let one = close_leaves tb free_b marks.phase close td in
    let free_d = free_then b d one.0.call free_b in
    let two = calm_keeps d Step.Release q release td tq.history refl free_d but_release refl in
    let c : Config = p.table.config in
    let w : Words = (moment_of release.makes).words in
    let phase : ((world_at release.makes).now.words.phase + 1) % 2 ^ 64 % 8 ≡ 4 =
    phase_at release td tq 3 one.1 (omega arith) in
    let same_b : b.table.config ≡ c = same_config p b marks.keeps.call.pass in
    let same_d : d.table.config ≡ c = same_config b d one.0.call.pass ∙ same_b in
    record {
      makes = record { closing = b; closed = d; marks = marks; close = close.makes; release = release.makes };
      call = calls_then (calls_then marks.keeps.call one.0.call) two.call;
      steady =
          ap (λ (x : World). steady_of x) release.world ∙ ap (λ (n : ℕ). record (steady_of (world_at release.makes)) {
            phase = n;
            allocations = map (with_released d.table.config w) (world_at release.makes).allocations;
          }) phase ∙ ap (λ (s : Steady). record s {
            phase = 4;
            allocations = map (with_released d.table.config w) s.allocations;
          }) release.turn.steady ∙ ap (λ (s : Steady). record s {
            phase = 4;
            allocations = map (with_released d.table.config w) s.allocations;
          }) one.0.steady ∙ ap (λ (s : Steady). record s {
            phase = 4;
            allocations = map (with_released d.table.config w) s.allocations;
          }) marks.keeps.steady ∙ ap (λ (e : Config). record (steady_of (world_of p)) {
            phase = 4;
            allocations = map (with_released e w) (world_of p).allocations;
          }) same_d;
      counts =
          counts_then p b q same_b marks.keeps.counts
          (counts_then b d q (same_config b d one.0.call.pass) one.0.counts two.counts);
      fresh =
          subst (λ (e : Config). fresh_words_of e (world_of q).allocations ≡ fresh_words_of e (world_of d).allocations)
          same_d (fresh_words_stay td tq one.1 release) ∙ ap (λ (s : Steady). fresh_words_of c s.allocations)
          (one.0.steady) ∙ ap (λ (s : Steady). fresh_words_of c s.allocations) marks.keeps.steady;
    }
