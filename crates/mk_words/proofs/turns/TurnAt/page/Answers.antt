use Rattle.mk_laws.proofs.Vocabulary.{sym}
use Rattle.mk_words.proofs.MapSteps.{map_that, page_known}
use Rattle.mk_words.proofs.turns.TurnAt.page.Goals as goal

pub page-requires : goal.page-requires
page-requires g c =
    page_known c.self.inside.pass c.args.page _ (rw (sym c.self.view_is) at c.requires)
    (map_that c.deref.ensures c.self.invariant).shows

pub returns : goal.returns
returns g c = rw (sym c.self.view_is) (c.page.ensures _ _ (map_that c.deref.ensures c.self.invariant).shows.words)
