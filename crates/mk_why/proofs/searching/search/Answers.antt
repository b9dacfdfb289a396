use Rattle.mk_why.proofs.Vocabulary.{AreWays, IsFound, IsSearched, View, view_by, word_of_root}
use Rattle.mk_why.proofs.{Searches.{empty_search, noted_stays, view_search}, Explored.explored, Looks.looks_then}
use Rattle.mk_sweep.proofs.Below.Laws.Vocabulary.{ℕ, subst}
use Rattle.mk_why.proofs.searching.search.Goals as goal

pub search_roots-requires-clause-search : goal.search_roots-requires-clause-search
search_roots-requires-clause-search c =
    empty_search c.args.words.now.config (view_by c.args.stop.now.pass) c.args.tables.now c.requires.size
    c.requires.none c.requires.empty

pub search_queue-requires-clause-search : goal.search_queue-requires-clause-search
search_queue-requires-clause-search c = view_search c.search_roots.ensures.on.on c.search_roots.ensures.on.search

pub returns-clause-on : goal.returns-clause-on
returns-clause-on c = looks_then c.search_roots.ensures.on.on c.search_queue.ensures.on

pub returns-clause-explored : goal.returns-clause-explored
returns-clause-explored c =
    let k = c.args.words.now.config in
    let v = view_by c.args.stop.now.pass in
    let found = c.search_queue.new.tables.found.items in
    let on = c.search_roots.ensures.on.on in
    let done : (base : ℕ) → IsFound found base → IsSearched k v found base = λ base x.
    subst (λ (y : View). IsSearched k y found base) on.view (c.search_queue.ensures.done base x) in
    explored k v found done (subst (λ (y : View). AreWays k y found) on.view c.search_queue.ensures.ways)
    (λ root is. noted_stays k v c.search_roots.new.tables.found.items found c.search_queue.ensures.grows.stays
    (word_of_root v.words root) 0 (c.search_roots.ensures.noted root is))
