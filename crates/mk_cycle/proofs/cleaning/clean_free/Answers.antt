use Rattle.mk_words.proofs.Below.Laws.Vocabulary.{subst, sym}
use Rattle.mk_cycle.proofs.Vocabulary.{Cleans, now_of}
use Rattle.mk_words.specs.{PageMaps.HasNoMarks, States.TurnState}
use Rattle.mk_cycle.proofs.cleaning.clean_free.Goals as goal

pub returns-clause-cleans : goal.returns-clause-cleans
returns-clause-cleans c =
    subst (λ (t : TurnState). Cleans c.args.turn.now.pass t.pass) (sym c.cleaned.ensures.same)
    c.clear_colours.ensures.cleans

pub returns-clause-bare : goal.returns-clause-bare
returns-clause-bare c =
    subst (λ (t : TurnState). HasNoMarks (now_of t.pass).words c.args.page) (sym c.cleaned.ensures.same)
    c.clear_colours.ensures.bare
