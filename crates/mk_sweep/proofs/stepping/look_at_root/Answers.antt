use Rattle.mk_sweep.proofs.{Vocabulary.WordsState, SweepSteps.{on_root, root_in_hand}}
use Rattle.mk_cycle.proofs.{Below.Laws.Vocabulary.{subst, sym, true, ◌≡◌}, MaySteps.may_look}
use Rattle.mk_core.specs.Conditions.{is_word}
use Rattle.mk_sweep.proofs.stepping.look_at_root.Goals as goal

pub look-requires-clause-enabled : goal.look-requires-clause-enabled
look-requires-clause-enabled c =
    may_look c.args.stop.now c.requires.sweeping.wanted c.args.x
    (subst (λ (t : WordsState). is_word t.config c.args.x ≡ true) (sym c.requires.one_table) c.requires.word)

pub returns-clause-on : goal.returns-clause-on
returns-clause-on c = on_root c.requires.sweeping _ c.look.ensures.acts c.requires.root

pub returns-clause-hand : goal.returns-clause-hand
returns-clause-hand c =
    root_in_hand c.requires.sweeping.wanted c.look.ensures.acts c.look.ensures.finds c.requires.root
