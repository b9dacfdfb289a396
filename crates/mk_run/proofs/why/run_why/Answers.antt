use Rattle.mk_heap.proofs.LastOvers.{ends_weaker}
use Rattle.mk_heap.proofs.Below.Laws.Vocabulary.{refl}
use Rattle.mk_run.proofs.{KeptScripts.same_by_seat, ObservedRuns.printed_runs_can_be_observed, Vocabulary.config_of}
use Rattle.mk_run.proofs.SaidRuns.{finished_by_inner, said_by_inner}
use Rattle.mk_why.specs.Searching.{WhyState}
use Rattle.mk_run.proofs.why.run_why.Goals as goal

pub returns-clause-said : goal.returns-clause-said
returns-clause-said g c =
    said_by_inner (λ (why : WhyState _). why.inner) (λ why w told. told.0) c.in_ok-ran.ensures.said

pub returns-clause-finished : goal.returns-clause-finished
returns-clause-finished g c off =
    finished_by_inner (λ (why : WhyState _). why.inner) (λ why p q closed. closed)
    (c.in_ok-ran.ensures.finished off off)

pub returns-clause-kept : goal.returns-clause-kept
returns-clause-kept g c =
    let config = config_of c.args.program.now c.args.markers in
    ends_weaker _ _ config _ (λ w told. c.in_ok-kept.ensures.kept config w told) (c.in_ok-ran.ensures.cycle refl)

pub returns-clause-reached : goal.returns-clause-reached
returns-clause-reached g c off = c.in_ok-ran.ensures.reached off off

pub returns-clause-begun : goal.returns-clause-begun
returns-clause-begun g c = same_by_seat c.in_ok-ran.ensures.begun

pub returns-clause-seen : goal.returns-clause-seen
returns-clause-seen g c = printed_runs_can_be_observed _ _ _ _ _ c.in_ok-ran.ensures.runs
