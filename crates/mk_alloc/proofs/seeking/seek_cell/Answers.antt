use Rattle.mk_caller.proofs.Below.Laws.Vocabulary.{ap, arith, cond-true, header_at, histories_keep_lengths, le-leb, sym}
use Rattle.mk_caller.proofs.Below.Laws.Vocabulary.{◌==◌, ◌∙◌}
use Rattle.mk_alloc.proofs.{ObjectVocabulary.{PassState, now_of}, FoundPlaces.{IsBlock, block_found, block_has_header}}
use Rattle.mk_alloc.proofs.seeking.seek_cell.Goals as goal
use Rattle.mk_alloc.proofs.{FoundPlaces.place_in_block, seeking.seek_cell.Goals.In-Some-first_block}

-- the block that was found
block : (c : In-Some-first_block)
    → IsBlock (now_of c.args.turn.now.pass).words.pages c.in-Some.class c.args.shape.leaf c.in-Some-first_block.page
block c =
    block_found (now_of c.args.turn.now.pass).words.pages c.in-Some.class c.args.shape.leaf c.in-Some-first_block.page
    (sym c.first_block.ensures ∙ c.in-Some-first_block.is)

pub free_cell-requires-clause-within : goal.free_cell-requires-clause-within
free_cell-requires-clause-within c =
    let p : PassState = c.args.turn.now.pass in
    omega (
      arith,
      (block (goal.at.free_cell-requires-clause-within c).In-Some-first_block).within,
      (histories_keep_lengths p.table.config p.seen).pages,
    )

pub free_cell-requires-clause-block : goal.free_cell-requires-clause-block
free_cell-requires-clause-block c = (block (goal.at.free_cell-requires-clause-block c).In-Some-first_block).free

pub returns-clause-fits : goal.returns-clause-fits
returns-clause-fits c = grind (arith, le-leb, cond-true, place_in_block)

pub returns-clause-block : goal.returns-clause-block
returns-clause-block c =
    let pages = (now_of c.args.turn.now.pass).words.pages in
    ap (λ n. header_at (now_of c.args.turn.now.pass).words n == 0) c.free_cell.ensures.page ∙ block_has_header _
    c.in-Some.class c.args.shape.leaf (block (goal.at.returns-clause-block c).In-Some-first_block).free
