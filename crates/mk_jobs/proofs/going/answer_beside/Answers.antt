use Rattle.mk_heap.proofs.Dispatched.{put_off_then, put_off_waits, stays_admitted_after}
use Rattle.mk_jobs.proofs.RunVocabulary.{PassState, caller_of_pass}
use Rattle.mk_heap.proofs.Below.Laws.Vocabulary.{subst, sym, ◌<◌}
use Rattle.mk_jobs.proofs.going.answer_beside.Goals as goal

pub answer_when_open-requires-clause-admitted : goal.answer_when_open-requires-clause-admitted
answer_when_open-requires-clause-admitted g c =
    stays_admitted_after c.args.op c.requires.admitted (put_off_waits c.in-None.ensures.put_off)

pub answer_when_open-requires-clause-exists : goal.answer_when_open-requires-clause-exists
answer_when_open-requires-clause-exists g c =
    subst (λ (q : PassState). caller_of_pass q < q.table.config.callers)
    (sym (put_off_waits c.in-None.ensures.put_off).is) c.requires.exists

pub returns-in-Some : goal.returns-in-Some
returns-in-Some g c = record { home = c.answer_at_once.ensures.home; answers = c.in-Some.ensures.answers }

pub returns-in-None : goal.returns-in-None
returns-in-None g c = record {
  home = c.answer_when_open.ensures.home;
  answers = λ on. put_off_then c.in-None.ensures.put_off (c.answer_when_open.ensures.answers on);
}
