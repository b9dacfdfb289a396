use Rattle.mk_jobs.proofs.{JobLists.{does_next, does_none}, RunVocabulary.GoesToEnd}
use Rattle.mk_heap.proofs.Below.Laws.Vocabulary.{subst}
use Rattle.mk_jobs.proofs.job_lists.run_jobs.Goals as goal

pub loop-index-preserved : goal.loop-index-preserved
loop-index-preserved g c =
    let old = c.loop-index in
    let new = c.do_job-done.new.caller.pass in
    record {
      ready = c.do_job-done.ensures.ready;
      does =
          rw c.in_ok-push.ensures.items (does_next g.O.Object.plan new c.args.jobs.now old.index
          c.index-jobs-index.result c.do_job-done.result c.loop-index-test.true old.invariant.does
          (subst (λ job. GoesToEnd g.O.Object.plan old.caller.pass (g.O.Object.plan.starting job) new
          c.do_job-done.result) c.index-jobs-index.is c.do_job-done.ensures.does));
      exact = λ first. c.do_job-done.ensures.exact (old.invariant.exact first);
    }

pub loop-index-init : goal.loop-index-init
loop-index-init g c = record {
  ready = c.requires.ready;
  does = rw c.new-list.ensures.items (does_none g.O.Object.plan c.args.caller.now.pass);
  exact = λ before. before;
}

pub returns-in_err-push-clause-exact : goal.returns-in_err-push-clause-exact
returns-in_err-push-clause-exact g c = λ first. c.do_job-done.ensures.exact (c.loop-index.invariant.exact first)
