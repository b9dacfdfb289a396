use Rattle.std.proofs.lemmas.List.{take_rest}
use Rattle.mk_check.proofs.{Vocabulary.{ap, before_next_script, ◌+◌, ◌∙◌}, ScriptLemmas.script_found}
use Rattle.mk_check.proofs.scripts.script_at.Goals as goal

pub returns-then-before-k-clause-some : goal.returns-then-before-k-clause-some
returns-then-before-k-clause-some c =
    let i = c.loop-index.index in
    let lines = c.items_of_script.ensures ∙ ap before_next_script (take_rest c.args.items.now (i + 1)) in
    script_found c.args.items.now i c.loop-index.before c.args.k c.index-items-index.result c.in-Script.name
    c.items_of_script.result.now c.loop-index-test.true c.index-items-index.is c.in-Script.is c.if-before-k.true
    c.loop-index.invariant.all c.loop-index.invariant.same lines
