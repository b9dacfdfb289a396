use Rattle.mk_words.proofs.Below.Laws.Vocabulary.{refl, subst, sym, true, ◌≡◌}
use Rattle.mk_cycle.proofs.steps_beside.look_at_root.Goals as goal
use Rattle.mk_cycle.proofs.BesideSteps.{finds_in_root, may_look_at_root, root_hand}
use Rattle.mk_core.specs.Conditions.{is_word}
use Rattle.mk_cycle.proofs.MayAct.{calm_admitted}
use Rattle.mk_words.specs.States.{WordsState}

pub look-requires-clause-enabled : goal.look-requires-clause-enabled
look-requires-clause-enabled c =
    may_look_at_root c.args.turn.now.in_order c.requires.beside c.args.x
    (subst (λ (w : WordsState). is_word w.config c.args.x ≡ true) (sym c.requires.one_table) c.requires.in_range)
    c.requires.root c.requires.seen

pub look-requires-clause-admitted : goal.look-requires-clause-admitted
look-requires-clause-admitted c may =
    calm_admitted c.args.turn.now.pass _ c.args.turn.now.in_order.history refl c.requires.beside.free.decided

pub returns-clause-finds : goal.returns-clause-finds
returns-clause-finds c =
    finds_in_root c.args.turn.now c.look.new.self c.requires.beside c.look.result
    c.look.ensures.acts c.look.ensures.finds c.requires.root

pub returns-clause-hand : goal.returns-clause-hand
returns-clause-hand c = root_hand c.look.ensures.acts c.look.result c.look.ensures.finds c.requires.root
