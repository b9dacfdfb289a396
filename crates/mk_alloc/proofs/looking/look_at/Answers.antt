use Rattle.mk_caller.proofs.Below.Laws.Vocabulary.{Step}
use Rattle.mk_alloc.proofs.{ObjectVocabulary.decides_nothing, Looks.{acting_caller, acting_now, found_steady}}
use Rattle.mk_alloc.proofs.{Looks.{look_reaches, plain_is_idle}, LoadedFrees.value_kept, MayAct.may_look}
use Rattle.mk_alloc.proofs.looking.look_at.Goals as goal
use Rattle.mk_alloc.proofs.Unchanged.{steady_is_plain}

pub look-requires-clause-enabled : goal.look-requires-clause-enabled
look-requires-clause-enabled c =
    may_look (acting_now c.args.turn.now.in_order c.requires.acting) c.args.word c.requires.steady c.requires.in_range

pub returns-clause-looks : goal.returns-clause-looks
returns-clause-looks c =
    look_reaches c.args.turn.now.in_order c.requires.acting (steady_is_plain c.args.word c.requires.steady)
    c.look.ensures.acts

pub returns-clause-finds : goal.returns-clause-finds
returns-clause-finds c = found_steady c.args.turn.now.in_order c.look.ensures.finds c.requires.steady

pub returns-clause-keeps : goal.returns-clause-keeps
returns-clause-keeps c =
    let t = c.args.turn.now in
    λ r lt. value_kept r (acting_caller t.pass c.requires.acting) lt c.look.ensures.acts
    (λ v kept known. decides_nothing t.pass.table.config v.now t.pass.seat (Step.Look c.args.word)
    (plain_is_idle (steady_is_plain c.args.word c.requires.steady)))
