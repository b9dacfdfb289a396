use Rattle.std.proofs.Common.{ap₂, refl, ◌∙◌}
use Rattle.clap.specs.Words.{with_rule}
use Rattle.mk_outputs.proofs.arguments.with_markers.Goals as goal

pub returns : goal.returns
returns c = c.in_ok-command.ensures.shape c.requires.second
    ∙ ap₂ with_rule (c.in_ok-arg-2.ensures.shape c.requires.first ∙ ap₂ with_rule (c.in_ok-arg.ensures.shape
    c.markers.ensures.local ∙ ap₂ with_rule c.alone.ensures c.markers.ensures.rule) refl) refl
