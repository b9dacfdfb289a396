use Rattle.std.proofs.{Common.slice_get, lemmas.Option.slice_get-get_or}
use Rattle.mk_jobs.proofs.JoinedJobs.{has_worked, ready_between}
use Rattle.mk_heap.proofs.Below.Laws.Vocabulary.{Some, arith, get_or, ◌≡◌}
use Rattle.mk_jobs.proofs.joining.work_alone.Goals as goal

pub new-caller-requires-clause-idle : goal.new-caller-requires-clause-idle
new-caller-requires-clause-idle g c = c.requires.pass.idle

pub run_jobs-dones-requires-clause-ready : goal.run_jobs-dones-requires-clause-ready
run_jobs-dones-requires-clause-ready g c κs within = grind (arith, ready_between)

pub returns : goal.returns
returns g c =
    let lists = c.args.run.now.lists.now in
    let jobs = get_or lists c.args.k c.index-run-k.result in
    let there : slice_get lists c.args.k ≡ Some jobs =
    slice_get-get_or lists c.args.k c.index-run-k.result (omega (arith, c.args.run.now.one_each, c.requires.exists)) in
    record {
      worked =
          rw there (has_worked g.O.Object.plan c.new-caller.result c.finish.result jobs.list.items
          c.run_jobs-dones.result c.requires.pass c.new-caller.ensures c.run_jobs-dones.ensures.pass
          (rw c.deref.ensures.value at c.run_jobs-dones.ensures.does) c.run_jobs-dones.ensures.exact
          c.finish.ensures.pass c.finish.ensures.idle);
    }
