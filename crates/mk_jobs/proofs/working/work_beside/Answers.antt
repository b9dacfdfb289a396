use Rattle.mk_jobs.proofs.EndedRuns.{all_joined, ended_joined}
use Rattle.mk_jobs.proofs.working.work_beside.Goals as goal

pub returns : goal.returns
returns g c =
    let run = c.args.run.now in
    let beside = c.beside_markers.ensures in
    record {
      ended = ended_joined g.O.Object.plan run.one_each beside.does.1 beside.joins;
      joined = all_joined g.O.Object.plan run.one_each beside.does.1 beside.joins;
    }
