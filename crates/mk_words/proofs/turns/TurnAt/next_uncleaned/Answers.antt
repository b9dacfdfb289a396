use Rattle.mk_laws.proofs.Vocabulary.{sym}
use Rattle.mk_words.proofs.MapSteps.{map_that, next_is_uncleaned}
use Rattle.mk_words.proofs.turns.TurnAt.next_uncleaned.Goals as goal

pub returns : goal.returns
returns g c =
    rw (sym c.self.view_is) (next_is_uncleaned c.self.inside.pass _ c.args.from _
    (map_that c.deref.ensures c.self.invariant).shows c.next_uncleaned.ensures)
