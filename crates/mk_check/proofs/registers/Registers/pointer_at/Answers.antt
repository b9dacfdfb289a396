use Rattle.std.specs.{Borrow.Bor, Option.option_copied}
use Rattle.mk_check.proofs.Vocabulary.{At, List, ap, map, number_of_name, slice_get, sym, ◌∙◌}
use Rattle.mk_check.proofs.{DeclaredPlaces.pointer_at_is, LookupLemmas.seen_at}
use Rattle.mk_check.specs.Typing.{declared_for, declared_place}
use Rattle.mk_check.proofs.registers.Registers.pointer_at.Goals as goal

pub returns : goal.returns
returns c = λ lines known.
    let name = c.args.name.now in
    let n = c.number_of-number.result in
    let values = ap (λ (vs : List (Bor At)). map (λ v. v.now) vs) c.deref.ensures.value ∙ known.places in
    let number = c.number_of-number.ensures.value ∙ ap (number_of_name name) known.pointers in
    ap (λ o. option_copied o) c.copied.ensures
    ∙ seen_at c.deref.result.now n c.get.result c.get.ensures.lookup ∙ ap (λ vs. slice_get vs n) values
    ∙ ap (slice_get (declared_for declared_place lines)) number ∙ sym (pointer_at_is name lines)
