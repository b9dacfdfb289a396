use Rattle.mk_jobs.proofs.{Clearing.goes_cleared, Holds.none_held, RunVocabulary.GoesToEnd}
use Rattle.mk_heap.proofs.Below.Laws.Vocabulary.{subst}
use Rattle.mk_jobs.proofs.going.found.Goals as goal

pub go-done-requires-clause-holds : goal.go-done-requires-clause-holds
go-done-requires-clause-holds g c κs within =
    rw c.founding.ensures (none_held _ g.met.O.Object.typed.founding)

pub returns : goal.returns
returns g c =
    let p = g.O.Object.plan in
    let gone = c.go-done in
    record {
      ready = c.forget.ensures.ready;
      founds = record {
        done = gone.result;
        ends =
            goes_cleared p (subst (λ s. GoesToEnd p c.args.caller.now.pass s gone.new.caller.pass gone.result)
            c.founding.ensures gone.ensures.goes) c.forget.ensures.clears;
      };
      exact = λ first. c.forget.ensures.exact (gone.ensures.exact first);
    }
