use Rattle.mk_heap.proofs.Below.Laws.Vocabulary.{ap, arith, ◌∙◌}
use Rattle.mk_run.proofs.{Vocabulary.PassState, JoinedScripts.{follows_at_first, no_answers}, KeptScripts.script_keeps}
use Rattle.mk_run.proofs.joining.run_alone.Goals as goal

pub new-caller-requires-clause-idle : goal.new-caller-requires-clause-idle
new-caller-requires-clause-idle g c = c.requires.pass.idle

pub run_script-text-requires-clause-follows : goal.run_script-text-requires-clause-follows
run_script-text-requires-clause-follows g c κs within =
    let p = c.new-caller.result.pass in
    follows_at_first g.E.Engine.ways.on c.args.run.now.program.now c.args.k p.table.config p.seen
    (ap (λ (p : PassState). p.seen) c.new-caller.ensures.pass ∙ c.requires.pass.seen)

pub run_script-text-requires-clause-no_call : goal.run_script-text-requires-clause-no_call
run_script-text-requires-clause-no_call g c x2 within = grind (arith, no_answers)

pub run_script-text-requires-clause-alone : goal.run_script-text-requires-clause-alone
run_script-text-requires-clause-alone g c x2 within = grind arith

pub returns-clause-keeps : goal.returns-clause-keeps
returns-clause-keeps g c =
    script_keeps c.new-caller.result c.run_script-text.new.caller.pass c.finish.result c.requires.pass
    c.new-caller.ensures c.run_script-text.ensures.keeps c.finish.ensures.pass
