use Rattle.std.proofs.Common.{◌/◌}
use Rattle.mk_books.proofs.{Vocabulary.{ap, arith, bit_at, nat_eq, not, sym, ◌∙◌}, SetWords.{page_put, summary_stays}}
use Rattle.mk_books.proofs.sets.remove.Goals as goal
use Rattle.mk_books.proofs.SetWords.{word_stored}

pub returns-then-rest-eq0 : goal.returns-then-rest-eq0
returns-then-rest-eq0 c = page_put c.requires.page (word_stored (record {
  are_sets = c.requires.sets;
  is_set = c.requires.set;
  is_word = omega (arith, c.requires.page);
  mark = c.with_bit.ensures.this ∙ sym (ap (λ n. not (nat_eq n 0)) c.if-rest-eq0.true);
  other_marks = λ k within differ. c.with_bit.ensures.others k within differ ∙ ap (λ n. bit_at n k)
      (summary_stays c.args.sets.now c.args.set (c.args.page / 64) c.with_bit-rest.result);
})) c.with_bit-rest.ensures.this c.with_bit-rest.ensures.others
