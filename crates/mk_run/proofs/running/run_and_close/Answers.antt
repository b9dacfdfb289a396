use Rattle.mk_heap.proofs.Below.Laws.Vocabulary.{ℕ, arith, subst, ◌∙◌, ◌≡◌}
use Rattle.mk_run.proofs.{Vocabulary.{AreTextsFrom, config_of}, KeptScripts.{run_is_begun, run_is_finished}}
use Rattle.mk_run.proofs.{KeptScripts.{run_is_said, run_is_unswept}, WholeRuns.is_run}
use Rattle.mk_heap.{proofs.LastOvers.{run_ends_with_cycle}, specs.Hosts.{MarkersAreBelow, history_of}}
use Rattle.mk_run.proofs.running.run_and_close.Goals as goal

pub close-report-requires-clause-joined : goal.close-report-requires-clause-joined
close-report-requires-clause-joined g c = c.run_beside-host.ensures.joined

pub returns : goal.returns
returns g c =
    let program = c.args.program.now in
    let markers = c.args.markers in
    let w = c.in_ok-heap.heap in
    let beside = c.run_beside-host.ensures in
    let h = c.run_beside-host.result.0 in
    let end = c.close-report.ensures in
    let made : w.config ≡ config_of program markers = c.in_ok-heap.ensures.config ∙ c.in_ok-config.ensures.config in
    let texts : AreTextsFrom program 0 w.config h.pass.seen c.in_ok-texts.field-0.items = grind arith in
    record {
      runs =
          is_run markers (record { texts = c.in_ok-texts.field-0; report = c.close-report.result }) made
          beside.over.is_host beside.over.last beside.over.over texts end.history end.config end.whole end.counts;
      cycle = λ asked. run_ends_with_cycle (config_of program markers) c.close-report.result made
          (beside.turns asked) end.history end.config end.whole;
      reached = run_is_unswept program markers made end.config end.history end.whole beside.keep;
      said = run_is_said program markers made end.config end.history end.whole beside.keep;
      finished = run_is_finished program markers made end.config end.history end.whole beside.keep;
      begun = run_is_begun program markers made end.config end.history end.whole beside.keep;
      markers = subst (λ (n : ℕ). MarkersAreBelow n (history_of c.close-report.result)) beside.over.same_markers
          end.markers;
    }

pub run_beside-host-requires-clause-ready : goal.run_beside-host-requires-clause-ready
run_beside-host-requires-clause-ready g c κs within = rw c.in_ok-heap.ensures.config c.in_ok-ready.ensures.ready
