use Rattle.mk_why.proofs.Vocabulary.{IsFirstWord, IsSearch, IsSearched, SearchesOn, View, entry_at, links_of, view_by}
use Rattle.mk_why.proofs.Scans.{done_from, links_there, one_more_fits, queued_base}
use Rattle.mk_why.proofs.{LazyTables.read_with, Searches.{looks_search, part_noted, through_stays, view_search}}
use Rattle.mk_why.{proofs.searching.search_from.Goals.{After-get-base, In-Some}, specs.Searching.{AreScannedFrom}}
use Rattle.mk_sweep.proofs.Below.Laws.Vocabulary.{Some, arith, refl, slice_index, subst, sym, ◌+◌, ◌∙◌, ◌≡◌}
use Rattle.mk_why.proofs.searching.search_from.Goals as goal

-- the base at this place of the queue
base : (c : After-get-base) → c.get-base.result ≡ slice_index c.args.tables.now.queue.items c.args.place
base c =
    sym (read_with c.args.tables.now.queue.items c.args.place c.args.tables.now.none_queued c.get-base.ensures)

-- what was found there
there : (c : In-Some) → entry_at c.args.tables.now.found.items c.get-base.result ≡ Some c.in-Some.found
there c =
    let r = c.args.tables.now in
    read_with r.found.items c.get-base.result r.none_found c.get.ensures ∙ c.in-Some.is

links : (c : In-Some) → c.get-base.result ≡ slice_index c.args.tables.now.queue.items c.args.place
    → entry_at c.args.tables.now.found.items c.get-base.result ≡ Some c.in-Some.found
    → links_of c.args.tables.now c.args.place ≡ c.in-Some.found.links
links c base there = grind (arith, links_there, base, there)

pub scanned_size-size-requires-clause-base : goal.scanned_size-size-requires-clause-base
scanned_size-size-requires-clause-base c =
    let r = c.args.tables.now in
    let v = view_by c.args.stop.now.pass in
    subst (λ n. IsFirstWord v n) (sym (base (goal.at.scanned_size-size-requires-clause-base c).After-get-base))
    (queued_base c.args.place c.requires.search c.requires.place)

pub search_words-requires-clause-scanned : goal.search_words-requires-clause-scanned
search_words-requires-clause-scanned c =
    subst (λ (v : View). AreScannedFrom c.args.words.now.config v c.get-base.result c.scanned_size-size.result)
    (sym c.scanned_size-size.ensures.on.view) c.scanned_size-size.ensures.scanned

pub search_words-requires-clause-found : goal.search_words-requires-clause-found
search_words-requires-clause-found c =
    let x = goal.at.search_words-requires-clause-found c in
    record { entry = c.in-Some.found; there = there x.In-Some; through = refl }

pub search_words-requires-clause-search : goal.search_words-requires-clause-search
search_words-requires-clause-search c =
    let x = goal.at.search_words-requires-clause-search c in
    let k = c.args.words.now.config in
    let r = c.args.tables.now in
    view_search c.scanned_size-size.ensures.on (subst (λ n. IsSearch k (view_by c.args.stop.now.pass) r (n + 1))
    (links x.In-Some (base x.After-get-base) (there x.In-Some)) c.requires.search)

pub search_words-requires-clause-shallow : goal.search_words-requires-clause-shallow
search_words-requires-clause-shallow c =
    let x = goal.at.search_words-requires-clause-shallow c in
    let r = c.args.tables.now in
    one_more_fits c.args.place c.requires.search c.requires.place c.get-base.result
    (base x.After-get-base) c.in-Some.found (there x.In-Some)

pub returns-clause-on : goal.returns-clause-on
returns-clause-on c =
    let x = goal.at.returns-clause-on c in
    let k = c.args.words.now.config in
    let r = c.args.tables.now in
    subst (λ n. SearchesOn k c.args.stop.now c.search_words.new.stop r c.search_words.new.tables (n + 1))
    (sym (links x.In-Some (base x.After-get-base) (there x.In-Some)))
    (looks_search c.scanned_size-size.ensures.on c.search_words.ensures.on)

pub returns-clause-done : goal.returns-clause-done
returns-clause-done c =
    let x = goal.at.returns-clause-done c in
    let k = c.args.words.now.config in
    let v = view_by c.args.stop.now.pass in
    let r = c.args.tables.now in
    let there = there x.In-Some in
    let found = c.search_words.new.tables.found.items in
    subst (λ n. IsSearched k v found n) (base x.After-get-base) (done_from k v c.scanned_size-size.result
    (through_stays r.found.items found c.search_words.ensures.on.grows.stays c.get-base.result
    c.in-Some.found.links (record { entry = c.in-Some.found; there = there; through = refl }))
    c.scanned_size-size.ensures.whole (λ i lt. part_noted k found
    (λ y. slice_index y.words.heap (c.get-base.result + i)) (c.in-Some.found.links + 1)
    c.scanned_size-size.ensures.on (c.search_words.ensures.noted i lt)))
