use Rattle.mk_words.proofs.Below.Laws.Vocabulary.{arith}
use Rattle.mk_cycle.proofs.{CleanedPages.ready_from_more, CleaningSteps.{cleans_nothing, cleans_then}}
use Rattle.mk_cycle.proofs.cleaning.clean_range.Goals as goal

pub loop-page-init : goal.loop-page-init
loop-page-init c = record {
  cleans = cleans_nothing c.args.turn.now.pass;
  ready = λ page low high. absurd (omega arith);
}

pub loop-page-preserved : goal.loop-page-preserved
loop-page-preserved c =
    let i = c.loop-page.invariant in
    let x = c.clean_page.ensures in
    record { cleans = cleans_then i.cleans x.cleans; ready = ready_from_more i.cleans x.cleans i.ready x.ready }

pub returns-clause-ready : goal.returns-clause-ready
returns-clause-ready c page low high =
    let end = c.loop-page-test.false in c.loop-page.invariant.ready page low (omega arith)
