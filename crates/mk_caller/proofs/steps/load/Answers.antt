use Rattle.mk_words.proofs.Below.Laws.Vocabulary.{sym, ◌∙◌}
use Rattle.mk_caller.proofs.{Onward.load_next, Onward.moves, Stepping.may_load, Stepping.null_is}
use Rattle.mk_caller.proofs.steps.load.Goals as goal

pub reg_load-requires-clause-admitted : goal.reg_load-requires-clause-admitted
reg_load-requires-clause-admitted c = may_load c.requires.underway c.requires.stage

pub returns-clause-moves : goal.returns-clause-moves
returns-clause-moves c =
    moves c.requires.underway c.reg_load.ensures.goes
    (load_next _ _ c.reg_load.result c.requires.stage c.requires.underway.entered)

pub returns-clause-null : goal.returns-clause-null
returns-clause-null c =
    let own = c.reg_load.ensures.own in
    let is = null_is c.requires.underway c.args.r c.requires.stage c.requires.register in
    (λ zero. is.0 (sym own ∙ zero), λ null. own ∙ is.1 null)
