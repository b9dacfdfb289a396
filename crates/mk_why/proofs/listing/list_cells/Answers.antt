use Rattle.mk_why.proofs.{Vocabulary.view_by, Lists.{IsKeptCell, cells_more, has_kept_at, kept_at, lists_cell}}
use Rattle.mk_why.proofs.{Lists.{lists_nothing, lists_then}, listing.list_cells.Goals.After-has_bit-in-loop-index}
use Rattle.mk_sweep.proofs.Below.Laws.Vocabulary.{ℕ, arith, sym, true, ◌∙◌, ◌≡◌}
use Rattle.mk_why.proofs.listing.list_cells.Goals as goal

pub loop-index-init : goal.loop-index-init
loop-index-init c = grind (arith, lists_nothing)

-- the kept allocation of a cell whose bits are set
kept : (c : After-has_bit-in-loop-index) → c.has_bit.result ≡ true → c.has_bit-in-loop-index.result ≡ true
    → IsKeptCell c.args.words.now.config (view_by c.args.stop.now.pass)
    (record { page = c.args.page; index = c.loop-index.index }) c.words_under-size.result
kept c in_snapshot marked =
    kept_at c.args.stop.now c.requires.still c.requires.one_table c.args.page c.requires.header c.requires.snapshot
    c.requires.marks c.words_under-size.ensures.exact c.loop-index.index (sym c.has_bit.ensures ∙ in_snapshot)
    (sym c.has_bit-in-loop-index.ensures ∙ marked)

pub list_cell-requires-clause-within : goal.list_cell-requires-clause-within
list_cell-requires-clause-within c in_snapshot marked =
    let x = kept (goal.at.list_cell-requires-clause-within c).After-has_bit-in-loop-index in_snapshot marked in
    omega arith

pub loop-index-preserved : goal.loop-index-preserved
loop-index-preserved c =
    let k = c.args.words.now.config in
    let v = view_by c.args.stop.now.pass in
    let r = c.loop-index.tables in
    let s = c.list_cell.new.tables in
    let index : ℕ = c.loop-index.index in
    let one = lists_cell k v r s (record { page = c.args.page; index = c.loop-index.index }) c.words_under-size.result
    c.has_bit.result c.has_bit-in-loop-index.result c.loop-index.invariant.on.of_kept (c.loop-index.invariant.on.size
    ∙ c.requires.size) (kept (goal.at.loop-index-preserved c).After-has_bit-in-loop-index) c.list_cell.ensures.found
    c.list_cell.ensures.kept c.list_cell.ensures.outside c.list_cell.ensures.unmarked in
    record {
      on = lists_then c.loop-index.invariant.on one.on;
      listed = cells_more c.args.page c.words_under-size.result _ c.args.snapshot c.args.marks c.loop-index.index
          c.has_bit.ensures c.has_bit-in-loop-index.ensures
          (has_kept_at c.args.stop.now c.requires.still c.requires.one_table c.args.page c.requires.header
          c.requires.snapshot c.requires.marks c.words_under-size.ensures.exact) c.loop-index.invariant.listed one;
    }

pub returns-clause-listed : goal.returns-clause-listed
returns-clause-listed c b kept at_page =
    let x = has_kept_at c.args.stop.now c.requires.still c.requires.one_table c.args.page c.requires.header
    c.requires.snapshot c.requires.marks c.words_under-size.ensures.exact b kept at_page in
    c.loop-index.invariant.listed b kept at_page (omega arith)
