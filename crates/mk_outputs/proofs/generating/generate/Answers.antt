-- The text is one of the generated program, which is well typed.
use Rattle.mk_outputs.proofs.generating.generate.Goals as goal
use Rattle.mk_outputs.proofs.{Vocabulary.◌∙◌, Accepted.{is_generated, is_read, is_typed}}

pub unreachable-requires : goal.unreachable-requires
unreachable-requires c =
    let text = c.as_bytes.ensures.value ∙ c.in_ok-text.ensures in
    let fault = c.in-Err.ensures.fault c.in_default.not-NoMemory in
    is_read c.args.start c.args.count c.requires c.as_bytes.result.now text c.in-Err.stop fault

pub returns-in-Ok-check : goal.returns-in-Ok-check
returns-in-Ok-check c =
    let text = c.as_bytes.ensures.value ∙ c.in_ok-text.ensures in
    c.in-Ok-check.ensures.program ∙ is_generated c.args.start c.args.count c.requires c.as_bytes.result.now text
    c.in-Ok.program c.in-Ok.ensures.program

pub unreachable-requires-in-IllTyped : goal.unreachable-requires-in-IllTyped
unreachable-requires-in-IllTyped c =
    let text = c.as_bytes.ensures.value ∙ c.in_ok-text.ensures in
    is_typed c.args.start c.args.count c.requires c.as_bytes.result.now text c.in-Ok.program c.in-Ok.ensures.program
    c.in-IllTyped.line c.in-IllTyped.kind c.in-Err-check.stop c.in-IllTyped.is c.in-Err-check.ensures.first_fault
