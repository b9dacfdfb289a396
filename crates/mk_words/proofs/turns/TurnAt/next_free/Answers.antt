use Rattle.mk_laws.proofs.Vocabulary.{sym}
use Rattle.mk_words.proofs.MapSteps.{map_that, next_known}
use Rattle.mk_words.proofs.turns.TurnAt.next_free.Goals as goal

pub returns : goal.returns
returns g c =
    let held = map_that c.deref.ensures c.self.invariant in
    rw (sym c.self.view_is) (next_known c.self.inside.pass _ c.args.from _ (c.next_free.ensures _ _ held.shows.words))
