use Rattle.mk_caller.proofs.Below.Laws.Vocabulary.{arith, histories_keep_lengths, sym, ◌∙◌}
use Rattle.mk_alloc.proofs.seeking.seek_small.Goals as goal
use Rattle.mk_alloc.proofs.{ObjectVocabulary.{PassState, now_of}, FoundPlaces.{block_found, place_in_block}}

pub free_cell-requires-clause-within : goal.free_cell-requires-clause-within
free_cell-requires-clause-within c =
    let p : PassState = c.args.turn.now.pass in
    let block = block_found (now_of p).words.pages c.args.class c.args.leaf c.in-Some.page
    (sym c.first_block.ensures ∙ c.in-Some.is) in
    omega (arith, block.within, (histories_keep_lengths p.table.config p.seen).pages)

pub free_cell-requires-clause-block : goal.free_cell-requires-clause-block
free_cell-requires-clause-block c = grind (arith, block_found)

pub returns-in-Some : goal.returns-in-Some
returns-in-Some c = grind (arith, place_in_block)
