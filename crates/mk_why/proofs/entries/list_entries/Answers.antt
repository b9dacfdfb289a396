use Rattle.mk_why.proofs.{Vocabulary.{AreEntriesBelow, Storage}, MadeEntries.{entries_end, entries_more, no_entries}}
use Rattle.mk_sweep.proofs.Below.Laws.Vocabulary.{Option, ap, arith, slice_index_or, subst, ◌∙◌, ◌≡◌}
use Rattle.mk_why.proofs.entries.list_entries.Goals as goal

pub loop-base-init : goal.loop-base-init
loop-base-init c = grind (arith, no_entries)

pub loop-base-preserved : goal.loop-base-preserved
loop-base-preserved c = record {
  below = λ k v told. entries_more told c.push_entry.new.entries.items
      (λ none. ap (λ entries. entries.items) (c.in_ok-push_entry.ensures.none none))
      c.in_ok-push_entry.ensures.more (c.loop-base.invariant.below k v told);
  none = λ none. ap (λ entries. entries.items) (c.in_ok-push_entry.ensures.none (none c.loop-base.base))
      ∙ c.loop-base.invariant.none none;
}

pub returns-clause-kept : goal.returns-clause-kept
returns-clause-kept c k v told =
    let past = c.loop-base-test.false in
    let at_end : c.loop-base.base ≡ c.end-base-end.result = omega arith in
    let kept = c.args.tables.now.kept in
    entries_end told c.end-base-end.ensures.within
    (λ place high. subst (λ (d : Option Storage). slice_index_or kept.items place d ≡ d) c.args.tables.now.none_kept
    (c.end-base-end.ensures.rest place high))
    (subst (λ n. AreEntriesBelow k v n c.loop-base.entries.items) at_end (c.loop-base.invariant.below k v told))
