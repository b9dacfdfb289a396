use Rattle.std.proofs.lemmas.Result.{IfOk-weaker}
use Rattle.mk_jobs.proofs.EndedRuns.{explained_run}
use Rattle.mk_jobs.proofs.runs.run.Goals as goal

pub returns-clause-explained : goal.returns-clause-explained
returns-clause-explained g c =
    IfOk-weaker c.run_objects.result _ _ (λ outcome run. explained_run g.O.Object.plan outcome c.explained.ensures run)
    c.run_objects.ensures
