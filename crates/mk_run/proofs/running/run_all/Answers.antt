use Rattle.mk_run.proofs.{KeptScripts.same_by_seat, ObservedRuns.printed_runs_can_be_observed}
use Rattle.mk_run.proofs.SaidRuns.{finished_by_either, said_by_either}
use Rattle.mk_run.proofs.running.run_all.Goals as goal

pub returns-clause-said : goal.returns-clause-said
returns-clause-said g c = said_by_either c.in_ok-ran.ensures.said

pub returns-clause-finished : goal.returns-clause-finished
returns-clause-finished g c off = finished_by_either (c.in_ok-ran.ensures.finished off off)

pub returns-clause-reached : goal.returns-clause-reached
returns-clause-reached g c off = c.in_ok-ran.ensures.reached off off

pub returns-clause-begun : goal.returns-clause-begun
returns-clause-begun g c = same_by_seat c.in_ok-ran.ensures.begun

pub returns-clause-seen : goal.returns-clause-seen
returns-clause-seen g c = printed_runs_can_be_observed _ _ _ _ _ c.in_ok-ran.ensures.runs
