use Rattle.std.proofs.Common.{eqb}
use Rattle.mk_laws.proofs.Vocabulary.{ap, sym, ◌∙◌}
use Rattle.mk_replay.proofs.ListedForms.{first_is_no_number, refused}
use lib.Pointwise.{pointwise}
use Rattle.mk_replay.proofs.forms.two_operands.Goals as goal

pub returns-in_err-first-in-Ok : goal.returns-in_err-first-in-Ok
returns-in_err-first-in-Ok c =
    let other = ap (pointwise eqb c.args.name.now) (sym c.as_slice.ensures) ∙ (sym c.eq.ensures ∙ c.if-eq.false) in
    let is = first_is_no_number c.args.name.now c.args.first.now c.args.second.now c.in-Ok.form
    c.in_err-first-in-Ok.field-0.0 other (sym c.listed.ensures ∙ c.in-Ok.is)
    (sym c.number.ensures ∙ c.in_err-first-in-Ok.was) in
    refused c.from_residual.result c.in_err-first-in-Ok.field-0.0 c.from_residual.ensures.1 ∙ sym is
