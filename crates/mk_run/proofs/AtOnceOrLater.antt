-- An operation is answered at once, or it is put off and answered later.
use Rattle.mk_heap.proofs.Below.Laws.Vocabulary.{Answer, Bool, Op, true, ◌≡◌}
use Rattle.mk_run.proofs.Vocabulary.{Answers, CallerState, PassKeeps, PassState, StaysBeside}
use Rattle.mk_heap.specs.Below.Cycles.EngineLaw.{Ways}
use Rattle.mk_heap.{proofs.Dispatched.{beside_keeps, put_off_keeps, put_off_then}, specs.Dispatching.IsPutOff}
use Rattle.std.specs.Prelude.{false}

-- The caller is told this of an operation, at once or later, and the pass keeps to what its engine does.
pub record IsAnsweredAs {V : Type 0} (ways : Ways V) (p : PassState) (o : Op) (told : Answer) (q : CallerState)
    : Type 0 where
  pub home : q.home ≡ true
  pub answers : Answers ways.on p o told q.pass
  pub keeps : PassKeeps false ways p q.pass

module _ {V : Type 0} {ways : Ways V} {p : PassState} {o : Op} {told : Answer} (q : CallerState) where
  pub answered_at_once : q.home ≡ true → ((on : Bool) → Answers on p o told q.pass) → StaysBeside p q.pass
      → IsAnsweredAs ways p o told q
  answered_at_once home answers beside = record { home = home; answers = answers ways.on; keeps = beside_keeps beside }

  pub answered_later : (r : CallerState) → IsPutOff p o q.pass → r.home ≡ true → Answers ways.on q.pass o told r.pass
      → PassKeeps false ways q.pass r.pass → IsAnsweredAs ways p o told r
  answered_later r off home answers more =
      record { home = home; answers = put_off_then off answers; keeps = put_off_keeps off more }
