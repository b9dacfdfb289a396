use Rattle.mk_jobs.proofs.JobKinds.{ends_as_its_kind}
use Rattle.mk_stack.specs.{Stack.stack_plan, declared.jobs.Job.{Job}}
use Rattle.mk_stack.proofs.Fitting.{Fits, ends_fit, pushes, pushes_on}
use Rattle.mk_stack.proofs.calls.pop.Goals as goal

pub returns-in_default : goal.returns-in_default
returns-in_default g c =
    let done = c.do_job.ensures in
    let fits = ends_as_its_kind stack_plan pushes pushes_on Fits ends_fit Job.Pop _ done.does in
    rw (fits c.in_default.not-Popped) at done
