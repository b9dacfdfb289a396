use Rattle.mk_words.proofs.Below.Laws.Vocabulary.{◌-◌}
use Rattle.mk_cycle.proofs.CleanedPages.{CleansTo, FreeAreBare}
use Rattle.mk_cycle.proofs.cleaning.clean_free_pages.Given as goal

abbrev pub invariant-loop-page : goal.invariant-loop-page
invariant-loop-page l = record {
  pages : CleansTo l.words.config.pages l.fn.turn l.turn l.from;
  below : FreeAreBare l.turn.pass l.from;
}

abbrev pub decreases-loop-page : goal.decreases-loop-page
decreases-loop-page l = l.words.config.pages - l.from
