use Rattle.std.specs.Mem.Slots.{slots_items}
use Rattle.mk_laws.proofs.Vocabulary.{ap, arith, ◌+◌, ◌<◌, ◌∙◌}
use Rattle.mk_words.proofs.Closing.{one_page_more}
use Rattle.mk_words.proofs.finals.freed_bits.Goals as goal

pub loop-page-preserved : goal.loop-page-preserved
loop-page-preserved c =
    let lt : c.loop-page.page < c.args.pages = c.loop-page-test.true in
    let few = c.loop-page.invariant.few in
    record {
      within = omega arith;
      few = omega (arith, c.freed_bits_of-freed.ensures.few);
      counted =
          ap (λ n. c.loop-page.freed + n) c.freed_bits_of-freed.ensures.exact
          ∙ one_page_more (slots_items c.args.closed.now.words) c.args.pages c.loop-page.page c.loop-page.freed
          c.last_word-word.result c.loop-page.invariant.counted c.last_word-word.ensures;
    }
