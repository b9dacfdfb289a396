use Rattle.mk_script.proofs.Vocabulary.{ap, arith, drop, length, subst, sym, take, texts_of, ◌++◌, ◌+◌, ◌-◌, ◌∙◌, ◌≡◌}
use Rattle.mk_script.proofs.WordsOfFirst.{IsCut, byte_read, ends_at, ends_past, line_read, space_read}
use Rattle.mk_script.specs.Grammar.{kept_word}
use Rattle.mk_script.proofs.splitting.next_line.Goals as goal

pub loop-place-preserved-then-byte-gt32 : goal.loop-place-preserved-then-byte-gt32
loop-place-preserved-then-byte-gt32 c =
    let so_far = c.loop-place.invariant in
    record {
      begun = omega (arith, so_far.begun);
      cut = byte_read c.args.text.now c.loop-place.start c.loop-place.place c.loop-place-test.true so_far.begun
          so_far.cut (λ is. omega (arith, is, c.if-byte-gt32.true)) (λ is. omega (arith, is, c.if-byte-gt32.true));
    }

pub loop-place-preserved-then-byte-ne32 : goal.loop-place-preserved-then-byte-ne32
loop-place-preserved-then-byte-ne32 c =
    let so_far = c.loop-place.invariant in
    record {
      begun = omega (arith, so_far.begun);
      cut = byte_read c.args.text.now c.loop-place.start c.loop-place.place c.loop-place-test.true so_far.begun
          so_far.cut c.if-byte-ne32.true c.if-byte-eq10.false;
    }

pub loop-place-preserved : goal.loop-place-preserved
loop-place-preserved c =
    let so_far = c.loop-place.invariant in
    let text = c.args.text.now in
    let place = c.loop-place.place in
    record {
      begun = omega arith;
      cut = subst (λ words. IsCut (take (place + 1) text) words (drop (place + 1) (take (place + 1) text)))
          (sym c.in_ok-put_word-2.ensures) (space_read text c.loop-place.start place c.loop-place-test.true so_far.begun
          so_far.cut c.if-byte-ne32.false);
    }

pub returns-then-byte-eq10-clause-words : goal.returns-then-byte-eq10-clause-words
returns-then-byte-eq10-clause-words c =
    let so_far = c.loop-place.invariant in
    c.in_ok-put_word.ensures ∙ line_read c.args.text.now c.loop-place.start c.loop-place.place so_far.begun so_far.cut
    (ends_at c.args.text.now c.loop-place.start c.loop-place.place c.loop-place-test.true so_far.cut
    c.if-byte-eq10.true)

pub returns-then-byte-eq10-clause-end : goal.returns-then-byte-eq10-clause-end
returns-then-byte-eq10-clause-end c = sym (ends_at c.args.text.now c.loop-place.start c.loop-place.place
    c.loop-place-test.true c.loop-place.invariant.cut c.if-byte-eq10.true)

pub returns-clause-words : goal.returns-clause-words
returns-clause-words c =
    let so_far = c.loop-place.invariant in
    let text = c.args.text.now in
    let start = c.loop-place.start in
    let place = c.loop-place.place in
    let all : length text ≡ place = omega (arith, c.loop-place-test.false, c.loop-place.auto.place-end) in
    c.in_ok-put_word-3.ensures
    ∙ ap (λ n. texts_of c.loop-place.found.items ++ kept_word (take (n - start) (drop start text))) all
    ∙ line_read text start place so_far.begun so_far.cut
    (ends_past text start place c.loop-place-test.false c.loop-place.auto.place-end so_far.cut)

pub returns-clause-end : goal.returns-clause-end
returns-clause-end c =
    let text = c.args.text.now in
    let place = c.loop-place.place in
    let all : length text ≡ place = omega (arith, c.loop-place-test.false, c.loop-place.auto.place-end) in
    all ∙ sym (ends_past text c.loop-place.start place c.loop-place-test.false c.loop-place.auto.place-end
    c.loop-place.invariant.cut)
