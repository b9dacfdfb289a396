use Rattle.mk_jobs.proofs.RunVocabulary.{DoesJobs, IsReady, OwnAreExact}
use Rattle.mk_heap.proofs.Below.Laws.Vocabulary.{take}
use Rattle.mk_jobs.proofs.job_lists.run_jobs.Given as goal

abbrev pub invariant-loop-index : goal.invariant-loop-index
invariant-loop-index g l = record {
  ready : IsReady g.O.Object.plan g.E.Engine.made_for l.caller l.engine;
  does : DoesJobs g.O.Object.plan l.fn.caller.pass (take l.index l.jobs) l.list.items l.caller.pass;
  exact : OwnAreExact g.E.Engine.ways.on l.fn.caller.pass → OwnAreExact g.E.Engine.ways.on l.caller.pass;
}
