use Rattle.mk_jobs.proofs.{Clearing.goes_cleared, Holds.none_held, RunVocabulary.GoesToEnd}
use Rattle.mk_heap.proofs.Below.Laws.Vocabulary.{subst}
use Rattle.mk_jobs.proofs.going.do_job.Goals as goal

pub go-done-requires-clause-holds : goal.go-done-requires-clause-holds
go-done-requires-clause-holds g c κs within =
    rw c.starting.ensures (none_held _ (g.met.O.Object.typed.starting c.args.job))

pub returns : goal.returns
returns g c =
    let p = g.O.Object.plan in
    let gone = c.go-done in
    record {
      ready = c.forget.ensures.ready;
      does =
          goes_cleared p (subst (λ s. GoesToEnd p c.args.caller.now.pass s gone.new.caller.pass gone.result)
          c.starting.ensures gone.ensures.goes) c.forget.ensures.clears;
      keeps = c.forget.ensures.clears.null;
      exact = λ first. c.forget.ensures.exact (gone.ensures.exact first);
    }
