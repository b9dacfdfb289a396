use Rattle.mk_heap.proofs.Below.Laws.Vocabulary.{arith, refl}
use Rattle.mk_clients.proofs.stops.hold_all.Goals as goal
use Rattle.mk_clients.proofs.TurnFacts.{holds_none, holds_on, holds_one_more, settled, tidy_kept}

pub loop-caller-init : goal.loop-caller-init
loop-caller-init c = grind (arith, settled, holds_none)

pub loop-caller-preserved : goal.loop-caller-preserved
loop-caller-preserved c =
    let inv = c.loop-caller.invariant in
    let a = c.try_hold.ensures.acts in
    holds_on a refl inv (omega arith) (holds_one_more inv.holds a c.in-Ok.ensures.held)

pub loop-caller-smaller : goal.loop-caller-smaller
loop-caller-smaller c = grind arith

pub returns-in-Err-clause-tidy : goal.returns-in-Err-clause-tidy
returns-in-Err-clause-tidy c = λ t.
    let inv = c.loop-caller.invariant in
    c.open_below.ensures.tidy (tidy_kept c.try_hold.ensures.acts inv.settled.seat refl (inv.tidy t))
