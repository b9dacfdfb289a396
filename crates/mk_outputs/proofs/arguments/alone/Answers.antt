use Rattle.std.proofs.Common.{ap, true, ◌∙◌}
use Rattle.clap.specs.Simple.{Shape, app_of_fields, on_top}
use Rattle.mk_outputs.proofs.arguments.alone.Goals as goal

pub returns : goal.returns
returns c = ap app_of_fields c.disable_version_flag.ensures
    ∙ ap (λ f. app_of_fields (record f { disable_version_flag = true })) c.disable_help_flag.ensures
    ∙ ap (on_top (λ (s : Shape). record s { disable_help_flag = true; disable_version_flag = true })) c.new.ensures.app
