use Rattle.mk_jobs.proofs.EndedRuns.{is_run}
use Rattle.mk_heap.proofs.Below.Laws.Vocabulary.{refl, ◌∙◌}
use Rattle.mk_jobs.proofs.runs.run_objects.Goals as goal

pub returns : goal.returns
returns g c =
    let end = c.close-report.ensures in
    let before = c.work_beside-host.ensures.ended in
    is_run g.O.Object.plan _ (record { done = c.in_ok-ended.field-0; report = c.close-report.result })
    (c.in_ok-heap.ensures.config ∙ c.in_ok-config.ensures) (record { types = refl; globals = refl }) refl before
    c.in_ok-ended.was end.history end.config end.whole end.counts
