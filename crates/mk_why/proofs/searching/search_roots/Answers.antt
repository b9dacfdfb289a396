use Rattle.mk_why.proofs.Vocabulary.{IsNoted, view_by, word_of_root}
use Rattle.mk_sweep.proofs.Below.Laws.Vocabulary.{ap, arith, subst, sym, ◌∙◌, ◌≡◌}
use Rattle.mk_why.proofs.Searches.{root_noted, searches_nothing, searches_then, view_search}
use Rattle.mk_why.proofs.{Explored.numbered_root, Explored.root_at, searching.search_roots.Goals.After-root_numbered}
use Rattle.mk_why.specs.{Chains.IsRoot, Searching.root_numbered}
use Rattle.mk_why.proofs.searching.search_roots.Goals as goal

pub loop-number-init : goal.loop-number-init
loop-number-init c = record {
  on = searches_nothing c.args.stop.now c.requires.still c.requires.search;
  noted = λ n lt. absurd (omega arith);
}

pub search_root-requires-clause-search : goal.search_root-requires-clause-search
search_root-requires-clause-search c = view_search c.loop-number.invariant.on.on c.loop-number.invariant.on.search

-- the root that is looked at next
root : (c : After-root_numbered)
    → c.root_numbered.result ≡ root_numbered c.args.words.now.config.callers c.loop-number.number
root c = c.root_numbered.ensures ∙ ap (λ n. root_numbered n c.loop-number.number) c.callers-callers.ensures

pub search_root-requires-clause-root : goal.search_root-requires-clause-root
search_root-requires-clause-root c =
    subst (IsRoot c.args.words.now.config)
    (sym (root (goal.at.search_root-requires-clause-root c).After-root_numbered))
    (numbered_root c.args.words.now.config c.loop-number.number (omega arith))

pub loop-number-preserved : goal.loop-number-preserved
loop-number-preserved c =
    let x = c.loop-number.invariant in
    let k = c.args.words.now.config in
    let v = view_by c.loop-number.stop.pass in
    record {
      on = searches_then x.on c.search_root.ensures.on;
      noted = root_noted (root_numbered k.callers) c.loop-number.number x.on x.noted c.search_root.ensures.on
          (subst (λ r. IsNoted k v c.search_root.new.tables.found.items (word_of_root v.words r) 0)
          (root (goal.at.loop-number-preserved c).After-root_numbered) c.search_root.ensures.noted);
    }

pub returns-clause-noted : goal.returns-clause-noted
returns-clause-noted c root is =
    let k = c.args.words.now.config in
    let v = view_by c.args.stop.now.pass in
    let at = root_at k root is in
    let low = at.1 in
    subst (λ r. IsNoted k v c.loop-number.tables.found.items (word_of_root v.words r) 0) at.2
    (c.loop-number.invariant.noted at.0 (omega arith))
