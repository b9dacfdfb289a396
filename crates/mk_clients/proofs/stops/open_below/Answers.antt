use Rattle.mk_heap.proofs.Below.Laws.Vocabulary.{ℕ, arith, refl, subst, ◌+◌, ◌-◌, ◌≡◌}
use Rattle.mk_clients.{proofs.TurnFacts.{holds_on, none_below, opens_last}, specs.Clients.{HoldsBelow}}
use Rattle.mk_clients.proofs.stops.open_below.Goals as goal

pub loop-caller-preserved : goal.loop-caller-preserved
loop-caller-preserved c =
    let inv = c.loop-caller.invariant in
    let j : ℕ = c.loop-caller.caller - 1 in
    let a = c.open_gate.ensures in
    let some = c.loop-caller-test.true in
    let within = inv.within in
    let above : c.loop-caller.caller ≡ j + 1 = omega arith in
    holds_on a refl inv (omega arith)
    (opens_last (subst (λ (n : ℕ). HoldsBelow c.loop-caller.turn.pass n) above inv.holds) a)

pub returns-clause-free : goal.returns-clause-free
returns-clause-free c = grind (arith, none_below)
