use Rattle.mk_heap.proofs.Below.Laws.Vocabulary.{subst, sym}
use Rattle.mk_heap.specs.Below.Words.States.{PassState, WordsState}
use Rattle.mk_clients.{proofs.TurnFacts.{all_are_held}, specs.Clients.{HoldsBelow, Settled}}
use Rattle.mk_clients.proofs.stops.stop_once.Goals as goal

pub stopped-stopped-requires : goal.stopped-stopped-requires
stopped-stopped-requires c =
    let p : PassState = c.hold_all.new.turn.pass in
    let settled : Settled p = c.hold_all.ensures.settled c.if-hold_all.true in
    all_are_held p settled.seat (subst (λ (t : WordsState). HoldsBelow p t.config.callers)
    (sym c.hold_all.ensures.one_table) (c.hold_all.ensures.holds c.if-hold_all.true))
