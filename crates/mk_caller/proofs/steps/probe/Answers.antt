use Rattle.mk_words.proofs.Below.Laws.Vocabulary.{Stage, Step, arith, refl, sym, ◌∙◌}
use Rattle.mk_caller.proofs.Stepping.{may_access, met, met_bounds, probe_passed, probe_refused}
use Rattle.mk_caller.proofs.{Onward.moves, Onward.probe_next, Probing.probes_a_word, Probing.probes_unmapped}
use Rattle.mk_caller.proofs.steps.probe.Goals as goal

pub overflow_sub-word : goal.overflow_sub-word
overflow_sub-word c =
    let r = c.requires in
    let m = met r.underway Stage.Probe r.stage r.access refl refl refl in
    (met_bounds r.underway c.args.u c.args.i r.value r.offset m).0

pub overflow_add-word : goal.overflow_add-word
overflow_add-word c = grind (arith, met, met_bounds)

pub overflow_cast-word : goal.overflow_cast-word
overflow_cast-word c = grind (arith, met, met_bounds)

pub probe-header-requires-clause-enabled : goal.probe-header-requires-clause-enabled
probe-header-requires-clause-enabled c =
    (may_access c.requires.underway _ Step.Probe c.requires.stage refl c.requires.access).0

pub returns-then-is_unmapped-clause-refused : goal.returns-then-is_unmapped-clause-refused
returns-then-is_unmapped-clause-refused c =
    let f = c.probe-header in
    probe_refused f.result (sym c.is_unmapped.ensures ∙ c.if-is_unmapped.true)
    (moves c.requires.underway f.ensures.goes (probe_next _ _ f.result c.requires.stage))

pub returns-then-is_unmapped-clause-unmapped : goal.returns-then-is_unmapped-clause-unmapped
returns-then-is_unmapped-clause-unmapped c =
    let f = c.probe-header in
    probes_unmapped c.args.pass.now f.new.self f.result c.requires.underway f.ensures.finds c.requires.stage
    c.requires.access (sym c.is_unmapped.ensures ∙ c.if-is_unmapped.true)

pub returns-else-is_unmapped-clause-moves : goal.returns-else-is_unmapped-clause-moves
returns-else-is_unmapped-clause-moves c =
    let f = c.probe-header in
    probe_passed f.result (sym c.is_unmapped.ensures ∙ c.if-is_unmapped.false)
    (moves c.requires.underway f.ensures.goes (probe_next _ _ f.result c.requires.stage))

pub returns-else-is_unmapped-clause-reached : goal.returns-else-is_unmapped-clause-reached
returns-else-is_unmapped-clause-reached c =
    let f = c.probe-header in
    probes_a_word c.args.pass.now f.new.self f.result c.requires.underway f.ensures.finds c.requires.stage
    c.requires.access (sym c.is_unmapped.ensures ∙ c.if-is_unmapped.false)
