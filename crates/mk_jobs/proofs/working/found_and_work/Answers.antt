use Rattle.mk_jobs.proofs.{EndedRuns.founds_object, JoinedJobs.{is_ready, next_ready, ready_between}}
use Rattle.mk_jobs.proofs.RunVocabulary.{replied_to}
use Rattle.mk_heap.proofs.Below.Laws.Vocabulary.{arith}
use Rattle.mk_heap.proofs.Crews.{caller_made}
use Rattle.mk_jobs.proofs.working.found_and_work.Goals as goal

pub found-requires-clause-ready : goal.found-requires-clause-ready
found-requires-clause-ready g c κs within = grind (arith, ready_between, next_ready)

pub run_from-requires-clause-callers : goal.run_from-requires-clause-callers
run_from-requires-clause-callers g c κs within =
    let on = g.E.Engine.ways.on in
    let before = next_ready on c.caller-first.result c.requires.host c.caller-first.ensures.caller in
    let founds = c.found.ensures.founds in
    record {
      pass = rw c.finish-pass.ensures.pass (is_ready before founds.ends.goes.is c.finish-pass.ensures.idle
          (c.found.ensures.exact before.exact));
      engines = grind arith;
    }

pub run_from-requires-clause-host : goal.run_from-requires-clause-host
run_from-requires-clause-host g c κs within = rw c.caller-first.ensures.host (caller_made c.requires.host)

pub returns : goal.returns
returns g c = record {
  worked = record {
    founding = replied_to c.finish-pass.result;
    founds =
        founds_object g.O.Object.plan c.caller-first.result c.finish-pass.result c.requires.host
        c.caller-first.ensures.caller c.found.ensures.founds c.finish-pass.ensures.pass;
    worked = c.run_from.ensures.joined;
  };
}
