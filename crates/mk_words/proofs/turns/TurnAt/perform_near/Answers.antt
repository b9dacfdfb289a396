use Rattle.mk_words.proofs.MapSteps.{acted, map_goes_on, shows_still}
use Rattle.mk_words.proofs.{FreeTurns.hands_none, TurnSteps.acts, TurnSteps.still_turn}
use Rattle.mk_words.proofs.turns.TurnAt.perform_near.Goals as goal

pub perform_near-requires-clause-hands_none : goal.perform_near-requires-clause-hands_none
perform_near-requires-clause-hands_none g c = hands_none c.args.step c.requires.stays.turn

pub invariant_of-self-inside : goal.invariant_of-self-inside
invariant_of-self-inside g c =
    (still_turn _ _ _ c.perform_near.ensures.told.makes c.requires.stays.turn c.self.inside.in_order, tt)

pub invariant_of-self : goal.invariant_of-self
invariant_of-self g c =
    let a = acts _ _ _ c.perform_near.ensures.told.makes c.self.inside.in_order.holds in
    map_goes_on c.requires.stays.gates a c.self.invariant
    (shows_still _ _ _ a _ c.requires.stays.map c.self.invariant.shows)

pub returns-clause-acts : goal.returns-clause-acts
returns-clause-acts g c = acted c.self.view_is c.perform_near.ensures.told.makes
