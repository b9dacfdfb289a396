use Rattle.mk_why.proofs.{Vocabulary.{IsSearch, IsSearched, links_of, view_by}, Explored.{all_done, done_more}}
use Rattle.mk_why.proofs.{Explored.near_next, Searches.{grows_nothing, grows_then, limit_of, view_search}}
use Rattle.mk_why.proofs.Looks.{looks_at_nothing, looks_then}
use Rattle.mk_sweep.proofs.Below.Laws.Vocabulary.{ℕ, arith, slice_index, ◌+◌, ◌<◌}
use Rattle.mk_why.proofs.searching.search_queue.Goals as goal

pub loop-place-init : goal.loop-place-init
loop-place-init c = grind (arith, looks_at_nothing, grows_nothing)

pub search_from-requires-clause-search : goal.search_from-requires-clause-search
search_from-requires-clause-search c = grind (arith, view_search, limit_of)

pub loop-place-preserved : goal.loop-place-preserved
loop-place-preserved c =
    let k = c.args.words.now.config in
    let v = view_by c.args.stop.now.pass in
    let x = c.loop-place.invariant in
    let r = c.loop-place.tables in
    let s = c.search_from.new.tables in
    let place : ℕ = c.loop-place.place in
    let known : place < r.count = c.loop-place-test.true in
    let behind : IsSearch k v s (links_of r place + 1) = grind arith in
    let here : IsSearched k v s.found.items (slice_index r.queue.items place) = grind arith in
    record {
      on = looks_then x.on c.search_from.ensures.on.on;
      limit = links_of r place + 1;
      search = behind;
      grows = grows_then x.grows c.search_from.ensures.on.grows;
      near = near_next place known x.search behind c.search_from.ensures.on.grows;
      done = done_more place known x.search behind c.search_from.ensures.on.grows x.done here;
    }

pub returns-clause-done : goal.returns-clause-done
returns-clause-done c =
    let x = c.loop-place.invariant in
    all_done c.loop-place.place x.search (let end = c.loop-place-test.false in omega arith) x.done
