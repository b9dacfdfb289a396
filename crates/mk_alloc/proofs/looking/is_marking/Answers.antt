use Rattle.mk_caller.proofs.Below.Laws.Vocabulary.{ℕ, ap, ◌==◌, ◌∙◌}
use Rattle.mk_alloc.proofs.looking.is_marking.Goals as goal
use Rattle.mk_alloc.proofs.{Looks.{acting_now, found_phase, look_reaches}, MayAct.may_look_phase, Unchanged.OfPhase}

pub look-found-requires-clause-enabled : goal.look-found-requires-clause-enabled
look-found-requires-clause-enabled c = may_look_phase (acting_now c.args.turn.now.in_order c.requires.acting)

pub returns-clause-looks : goal.returns-clause-looks
returns-clause-looks c = look_reaches c.args.turn.now.in_order c.requires.acting OfPhase c.look-found.ensures.acts

pub returns-clause-finds : goal.returns-clause-finds
returns-clause-finds c =
    c.is_in.ensures ∙ ap (λ (n : ℕ). n == 1) (found_phase c.args.turn.now.in_order c.look-found.ensures.finds)
