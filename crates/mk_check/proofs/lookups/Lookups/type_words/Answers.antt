use Rattle.std.specs.{Borrow.Bor, Option.option_copied}
use Rattle.mk_check.proofs.Vocabulary.{List, TypeWord, ap, type_words, map, number_of_name, slice_get, sym, ◌∙◌}
use Rattle.mk_check.proofs.{DeclaredPlaces.type_words_are, LookupLemmas.seen_at}
use Rattle.mk_check.specs.{Declarations.declared_words, Typing.{Reading, declared_for}}
use Rattle.mk_check.proofs.lookups.Lookups.type_words.Goals as goal

pub returns : goal.returns
returns c =
    let name = c.args.name.now in
    let program = c.self.inside.program.now in
    let known = c.self.invariant.1 in
    let n = c.number_of-number.result in
    let values = ap (λ (vs : List (Bor (List TypeWord))). map (λ v. v.now) vs) c.deref.ensures.value ∙ known.words in
    let number = c.number_of-number.ensures.value
    ∙ ap (number_of_name name) known.types in
    ap (λ o. option_copied o) c.copied.ensures
    ∙ seen_at c.deref.result.now n c.get.result c.get.ensures.lookup ∙ ap (λ vs. slice_get vs n) values
    ∙ ap (slice_get (declared_for declared_words program)) number ∙ sym (type_words_are name program)
    ∙ ap (λ (r : Reading). type_words name r.program) c.self.view_is
