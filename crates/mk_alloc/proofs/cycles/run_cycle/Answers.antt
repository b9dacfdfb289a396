use Rattle.mk_alloc.proofs.{Vocabulary.{PassState, ap, ◌∙◌, sym, true≢false}, UnsweptTurns.{finish_keeps, keeps_yet}}
use Rattle.mk_alloc.proofs.{UnsweptTurns.{left_keeps, older_same, yet_then}, FinishedCycles.{Never, begun_and_finished}}
use Rattle.mk_alloc.proofs.SaidCloses.{begin_says_none}
use Rattle.mk_cycle.proofs.{Begun.finish_begins_none, HeldFirst.finish_holds}
use Rattle.mk_alloc.proofs.cycles.run_cycle.Goals as goal

pub returns-then-keeps_on-clause-keeps : goal.returns-then-keeps_on-clause-keeps
returns-then-keeps_on-clause-keeps g c =
    let older = c.finish_older-turn.ensures in
    let begins = c.begin_cycle.ensures in
    yet_then (older_same c.requires.may_run.quiet.phase older.ends) older.keeps (record {
      reached = begins.reached;
      begun = begins.begun;
      said = begin_says_none g.E.Engine.ways.tells begins.law;
      finished = λ off. absurd (true≢false (sym c.if-keeps_on.true ∙ c.keeps_on.ensures ∙ off));
    })

pub returns-else-keeps_on-clause-keeps : goal.returns-else-keeps_on-clause-keeps
returns-else-keeps_on-clause-keeps g c =
    let older = c.finish_older-turn.ensures in
    let finished = c.finish_cycle-turn.ensures in
    let begins = c.begin_cycle.ensures in
    let own = c.begin_cycle.new.turn.in_order.own in
    let both = left_keeps begins.law.pass begins.reached begins.begun (begin_says_none g.E.Engine.ways.tells begins.law)
    (finish_keeps c.finish_cycle-turn.new.engine c.begin_cycle.new.turn.in_order finished.law
    c.finish_cycle-turn.result.0.in_order.history finished.reached finished.told) (finish_holds own finished.law)
    (λ off. begun_and_finished g.E.Engine.ways.closes c.finish_cycle-turn.new.engine
    c.finish_older-turn.result.in_order.own begins.law finished.closed
    (finish_begins_none Never c.begin_cycle.new.turn.pass c.finish_cycle-turn.result.0.pass own finished.law)) in
    yet_then (older_same c.requires.may_run.quiet.phase older.ends) older.keeps
    (keeps_yet (finished.law.pass ∙ ap (λ (x : PassState). record x { seen = c.finish_cycle-turn.result.0.pass.seen })
    begins.law.pass) both)
