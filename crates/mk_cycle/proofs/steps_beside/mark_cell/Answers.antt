use Rattle.mk_words.proofs.Below.Laws.Vocabulary.{Step, subst, sym}
use Rattle.mk_cycle.proofs.steps_beside.mark_cell.Goals as goal
use Rattle.mk_cycle.proofs.BesideSteps.{goes_mark, marked_there, may_mark_beside}
use Rattle.mk_core.proofs.PointedPages.{pointed_within}
use Rattle.mk_words.specs.{States.now_of, Steps.IsEnabledTo, TurnSteps.Acts}

pub bit-requires : goal.bit-requires
bit-requires c =
    let r = c.requires.reached in
    (pointed_within c.args.turn.now.pass.table.config.pages
    (now_of c.args.turn.now.pass).words r.value c.args.cell r.points).1

pub mark-requires-clause-enabled : goal.mark-requires-clause-enabled
mark-requires-clause-enabled c =
    subst (λ v. IsEnabledTo c.args.turn.now.pass (Step.Mark c.args.cell.page v)) (sym c.bit.ensures)
    (may_mark_beside c.args.turn.now.in_order c.requires.beside c.requires.reached)

pub returns-clause-on : goal.returns-clause-on
returns-clause-on c =
    goes_mark c.args.turn.now c.mark.new.self c.requires.beside (subst (λ v. Acts c.args.turn.now.pass
    (Step.Mark c.args.cell.page v) c.mark.new.self.pass) c.bit.ensures c.mark.ensures) c.requires.reached

pub returns-clause-marked : goal.returns-clause-marked
returns-clause-marked c =
    marked_there c.args.turn.now c.mark.new.self c.requires.beside (subst (λ v. Acts c.args.turn.now.pass
    (Step.Mark c.args.cell.page v) c.mark.new.self.pass) c.bit.ensures c.mark.ensures) c.requires.reached
