use Rattle.mk_check.proofs.Vocabulary.{ap, globals_of, is_whole, length, pages_of, resident_of, script_names, subst}
use Rattle.mk_check.proofs.Vocabulary.{sym, types_of, ◌∙◌}
use Rattle.mk_core.specs.Moments.{IsWithinLimits}
use Rattle.mk_check.proofs.{ConfigLemmas.{config_is, config_within}, GrammarLemmas.length-global_names}
use Rattle.mk_check.proofs.checked.Checked.config.Goals as goal

pub globals-requires : goal.globals-requires
globals-requires c =
    let program = c.self.inside.program in
    rw (c.in_ok-numbers.ensures, c.items-items.ensures.items)
    (length-global_names (is_whole program c.items-items.ensures.of_some_text))

pub returns-clause-within_limits : goal.returns-clause-within_limits
returns-clause-within_limits c =
    let program = c.self.inside.program in
    let same = c.items-items.ensures.items in
    let numbers = c.in_ok-numbers.ensures ∙ same in
    subst IsWithinLimits
    (sym (config_is program _ (c.heap_pages-heap.ensures.pages ∙ ap pages_of same) (c.heap_pages-heap.ensures.resident
    ∙ ap resident_of same) (c.scripts.ensures ∙ ap (λ items. length (script_names items)) (sym c.self.view_is))
    (c.in_ok-types.ensures ∙ ap types_of numbers) (c.in_ok-globals.ensures ∙ ap globals_of numbers))) (config_within
    program c.args.markers (is_whole program c.items-items.ensures.of_some_text) c.self.invariant.0 c.requires)
