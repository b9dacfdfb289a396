use Rattle.mk_heap.proofs.Below.Laws.Vocabulary.{refl}
use Rattle.mk_jobs.proofs.EndedRuns.{callers_home, callers_joined, have_ended}
use Rattle.mk_jobs.proofs.working.work.Goals as goal

pub take_last_turns-requires-clause-all_home : goal.take_last_turns-requires-clause-all_home
take_last_turns-requires-clause-all_home g c κs within =
    let did = c.found_and_work-host.ensures.worked in
    let all = c.args.run.now.one_each in
    record {
      table = did.worked.table;
      seat = did.worked.seat;
      own = did.worked.own;
      joined = callers_joined g.O.Object.plan all did;
      callers = callers_home g.O.Object.plan all did;
      before_over = did.worked.before_over;
    }

pub returns : goal.returns
returns g c =
    let last = c.take_last_turns.ensures in
    record {
      ended =
          have_ended g.O.Object.plan c.args.run.now.one_each c.found_and_work-host.ensures.worked
          c.take_last_turns.new.host (record { dones = c.found_and_work-host.result.dones }) last.host.is
          last.host.still last.cycles last.over refl;
    }
