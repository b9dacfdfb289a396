use Rattle.mk_why.{proofs.Vocabulary.{IsNoted, SearchesOn, view_by, word_of_root}, specs.Searching.{root_numbered}}
use Rattle.mk_sweep.proofs.Below.Laws.Vocabulary.{ℕ, ◌<◌}
use Rattle.mk_why.proofs.searching.search_roots.Given as goal

abbrev pub invariant-loop-number : goal.invariant-loop-number
invariant-loop-number l = record {
  on : SearchesOn l.words.config l.fn.stop l.stop l.fn.tables l.tables 0;
  noted : (n : ℕ) → n < l.number → IsNoted l.words.config (view_by l.fn.stop.pass) l.tables.found.items
      (word_of_root (view_by l.fn.stop.pass).words (root_numbered l.words.config.callers n)) 0;
}
