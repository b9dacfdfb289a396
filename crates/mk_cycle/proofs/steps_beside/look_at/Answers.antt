use Rattle.mk_words.proofs.Below.Laws.Vocabulary.{refl, subst, sym, true, ◌≡◌}
use Rattle.mk_cycle.proofs.steps_beside.look_at.Goals as goal
use Rattle.mk_cycle.proofs.BesideSteps.{goes_look, no_register}
use Rattle.mk_core.specs.Conditions.{is_word}
use Rattle.mk_cycle.proofs.{Allowed.look_allowed, MayAct.calm_admitted}
use Rattle.mk_words.specs.States.{WordsState}

pub look-requires-clause-enabled : goal.look-requires-clause-enabled
look-requires-clause-enabled c =
    look_allowed c.args.turn.now.pass c.args.turn.now.in_order c.requires.beside.free c.args.x
    (subst (λ (w : WordsState). is_word w.config c.args.x ≡ true) (sym c.requires.one_table) c.requires.in_range)
    (no_register c.args.x c.requires.plain)

pub look-requires-clause-admitted : goal.look-requires-clause-admitted
look-requires-clause-admitted c may =
    calm_admitted c.args.turn.now.pass _ c.args.turn.now.in_order.history refl c.requires.beside.free.decided

pub returns-clause-on : goal.returns-clause-on
returns-clause-on c = goes_look c.args.turn.now c.look.new.self c.requires.beside c.look.ensures.acts c.requires.plain
