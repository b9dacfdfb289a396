use Rattle.mk_laws.proofs.Vocabulary.{sym}
use Rattle.mk_words.proofs.MapSteps.{acted, map_goes_on, map_that, told_page, told_stays}
use Rattle.mk_words.proofs.{FreeTurns.hands_none, TurnSteps.acts, TurnSteps.still_turn, TurnSteps.turn_stays_too}
use Rattle.mk_words.proofs.turns.TurnAt.perform_told.Goals as goal

pub perform-requires-clause-hands_none : goal.perform-requires-clause-hands_none
perform-requires-clause-hands_none g c =
    hands_none c.args.step (turn_stays_too c.args.step (told_stays c.args.step c.requires.told))

pub tell-requires : goal.tell-requires
tell-requires g c told =
    told_page c.self.inside.pass c.args.step told (rw (sym c.self.view_is) at c.requires.may.may.enabled)
    (map_that c.deref_mut.ensures.value c.self.invariant).shows

pub invariant_of-self-inside : goal.invariant_of-self-inside
invariant_of-self-inside g c =
    let stays = turn_stays_too c.args.step (told_stays c.args.step c.requires.told) in
    (still_turn _ _ _ c.perform.ensures.told.makes stays c.self.inside.in_order, tt)

pub invariant_of-self : goal.invariant_of-self
invariant_of-self g c =
    let told = c.requires.told in
    let held = map_that c.deref_mut.ensures.value c.self.invariant in
    let a = acts _ _ _ c.perform.ensures.told.makes c.self.inside.in_order.holds in
    map_goes_on (λ held. told_stays c.args.step told) a held (c.tell.ensures _ _ a held.shows)

pub returns : goal.returns
returns g c = acted c.self.view_is c.perform.ensures.told.makes
