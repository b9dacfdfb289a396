use Rattle.std.{proofs.Common.nat_lt, specs.List.list_any}
use Rattle.mk_check.proofs.Vocabulary.{ap, around, bytes_eq, number_names, number_of_name, ◌∙◌}
use Rattle.mk_check.proofs.DeclaredPlaces.{number_within}
use Rattle.mk_check.specs.Typing.{Reading}
use Rattle.mk_check.proofs.lookups.Lookups.has_number.Goals as goal

pub returns : goal.returns
returns c =
    let name = c.args.name.now in
    let numbers = c.self.inside.registers.numbers in
    let script = c.self.invariant.2 in
    ap (λ n. nat_lt n c.len.result) c.number_of.ensures.value
    ∙ ap (λ n. nat_lt (number_of_name name numbers) n) c.len.ensures ∙ number_within name numbers
    ∙ ap (list_any (bytes_eq name)) script.numbers
    ∙ ap (λ (r : Reading). list_any (bytes_eq name) (number_names (around r).script)) c.self.view_is
