use Rattle.mk_words.proofs.Below.Laws.Vocabulary.{refl, subst, sym, true, ◌≡◌}
use Rattle.mk_cycle.proofs.{Vocabulary.WordsState, Allowed.look_allowed, MayAct.calm_admitted}
use Rattle.mk_core.specs.Conditions.{is_word}
use Rattle.mk_cycle.proofs.turn_steps.look_among.Goals as goal

pub look_among-requires-clause-enabled : goal.look_among-requires-clause-enabled
look_among-requires-clause-enabled c =
    look_allowed _ c.args.turn.now.in_order c.requires.free c.args.x
    (subst (λ (w : WordsState). is_word w.config c.args.x ≡ true) (sym c.requires.one_table) c.requires.in_range)
    c.requires.no_register

pub look_among-requires-clause-admitted : goal.look_among-requires-clause-admitted
look_among-requires-clause-admitted c may =
    calm_admitted c.args.turn.now.pass _ c.args.turn.now.in_order.history refl c.requires.free.decided
