use Rattle.mk_laws.proofs.Vocabulary.{Step, refl, sym}
use Rattle.mk_words.proofs.MapSteps.{acted, map_goes_on, shows_told, told_page, untold_quar}
use Rattle.mk_words.proofs.TurnSteps.{acts, still_turn}
use Rattle.mk_words.proofs.turns.TurnAt.quar_still_freed.Goals as goal

pub invariant_of-self-inside : goal.invariant_of-self-inside
invariant_of-self-inside g c =
    (still_turn _ _ _ c.perform_near.ensures.told.makes refl c.self.inside.in_order, tt)

pub invariant_of-self : goal.invariant_of-self
invariant_of-self g c =
    let quar : Step = Step.Quar c.args.page c.args.v in
    let shown = c.self.invariant.shows in
    let a = acts _ _ _ c.perform_near.ensures.told.makes c.self.inside.in_order.holds in
    map_goes_on (λ held. refl) a c.self.invariant
    (shows_told quar refl a (untold_quar _ _ c.args.page _ (rw (sym c.self.view_is) at c.requires.freed) shown)
    (told_page c.self.inside.pass quar refl (rw (sym c.self.view_is) at c.requires.enabled) shown) shown)

pub returns : goal.returns
returns g c = acted c.self.view_is c.perform_near.ensures.told.makes
