use Rattle.mk_jobs.proofs.JobKinds.{ends_as_its_kind}
use Rattle.mk_queue.specs.{Queue.queue_plan, declared.jobs.Job.{Job}}
use Rattle.mk_queue.proofs.Fitting.{Fits, ends_fit, enqueues, enqueues_on}
use Rattle.mk_queue.proofs.calls.enqueue.Goals as goal

pub returns-in_default : goal.returns-in_default
returns-in_default g c =
    let done = c.do_job.ensures in
    let fits = ends_as_its_kind queue_plan enqueues enqueues_on Fits ends_fit (Job.Enqueue c.args.n) _ done.does in
    rw (fits c.in_default.not-Enqueued) at done
