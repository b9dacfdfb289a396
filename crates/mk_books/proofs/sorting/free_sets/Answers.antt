use Rattle.std.proofs.lemmas.Grind.{div_ceil_times}
use Rattle.mk_books.proofs.Vocabulary.{AreSets, List, ℕ, arith, replicate, subst, sym, ◌+◌, ◌≡◌}
use Rattle.mk_books.proofs.{Showing.sets_written}
use Rattle.mk_books.proofs.sorting.free_sets.Goals as goal
use Rattle.mk_books.proofs.FreeSets.{HaveFreeBelow, all_free, none_free, one_word_more, zero_sets}

pub loop-word-init : goal.loop-word-init
loop-word-init c =
    let zeros : c.in_ok-sets.sets.items ≡ replicate 1300 0
    = c.in_ok-sets.ensures.items_if_clones_equal (λ y same. same) in
    record {
      are_sets = subst AreSets (sym zeros) zero_sets;
      free = subst (λ (xs : List ℕ). HaveFreeBelow xs 0 c.args.pages) (sym zeros) (none_free c.args.pages);
    }

pub loop-word-preserved : goal.loop-word-preserved
loop-word-preserved c =
    let is = sets_written c.store_word.new.sets c.loop-word.sets.ok.0 c.loop-word.invariant.are_sets
    c.store_word.ensures.are_sets in
    let before = subst (λ (xs : List ℕ). HaveFreeBelow xs c.loop-word.word c.args.pages)
    (sym c.deref_mut.ensures.value) c.loop-word.invariant.free in
    record {
      are_sets = subst AreSets (sym is) c.store_word.ensures.are_sets;
      free = subst (λ (xs : List ℕ). HaveFreeBelow xs (c.loop-word.word + 1) c.args.pages) (sym is)
          (one_word_more c.deref_mut.result.now c.store_word.new.sets c.args.pages
          c.ones_below.result before c.store_word.ensures.this c.store_word.ensures.others c.ones_below.ensures);
    }

pub returns-clause-members : goal.returns-clause-members
returns-clause-members c =
    all_free c.loop-word.sets.items c.loop-word.word (omega (
      arith,
      c.div_ceil-word-end.ensures,
      div_ceil_times c.args.pages 64 (omega arith),
    )) c.loop-word.invariant.free
