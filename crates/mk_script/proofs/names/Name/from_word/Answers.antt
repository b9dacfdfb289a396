use Rattle.mk_script.proofs.Vocabulary.{Some, ap, sym, true, ◌∙◌, ◌≡◌}
use Rattle.mk_script.specs.Operands.{begins_name}
use Rattle.mk_script.proofs.PaddedNames.{before_zeros, named, one_byte_put, passed, short_word, some_byte, whole_word}
use Rattle.mk_script.proofs.PaddedNames.{zeros_after}
use Rattle.mk_script.proofs.names.Name.from_word.Goals as goal

pub loop-place-preserved : goal.loop-place-preserved
loop-place-preserved c =
    let word = c.args.word.now in
    let begins : begins_name word ≡ true = sym c.begins_name.ensures ∙ c.if-not-begins_name.false in
    record {
      put = one_byte_put word c.loop-place.bytes c.loop-place.place c.loop-place-test.true (short_word word begins)
          c.loop-place.invariant.put;
      named = c.loop-place.invariant.named ∙ passed word c.loop-place.place c.loop-place-test.true
          (sym c.is_name_byte.ensures ∙ c.if-not-is_name_byte.false);
    }

pub invariant_of-result : goal.invariant_of-result
invariant_of-result c =
    let word = c.args.word.now in
    let begins : begins_name word ≡ true = sym c.begins_name.ensures ∙ c.if-not-begins_name.false in
    let whole = whole_word word c.loop-place.bytes c.loop-place.place c.loop-place-test.false
    c.loop-place.invariant.put (c.loop-place.auto.place-end (some_byte word begins)) in
    (short_word word begins, zeros_after word c.loop-place.bytes whole)

pub returns : goal.returns
returns c =
    let word = c.args.word.now in
    let begins : begins_name word ≡ true = sym c.begins_name.ensures ∙ c.if-not-begins_name.false in
    let whole = whole_word word c.loop-place.bytes c.loop-place.place c.loop-place-test.false
    c.loop-place.invariant.put (c.loop-place.auto.place-end (some_byte word begins)) in
    ap Some (before_zeros word c.loop-place.bytes whole) ∙ named word c.loop-place.place begins
    c.loop-place-test.false c.loop-place.invariant.named
