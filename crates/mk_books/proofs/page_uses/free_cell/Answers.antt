use Rattle.std.proofs.Common.{ap, not, sym, ◌∙◌}
use Rattle.mk_geom.specs.PageUses.{first_where, bits_of, use_of_page}
use Rattle.mk_books.proofs.FreeCellLemmas.{cells_taken_alike, same_flags}
use Rattle.mk_books.proofs.page_uses.free_cell.Goals as goal

pub returns-in-Some : goal.returns-in-Some
returns-in-Some c = c.lowest_clear.ensures ∙ ap (λ cells. first_where not
    (bits_of cells c.args.page.used)) c.cells.ensures ∙ ap (first_where not) (sym (cells_taken_alike
    (use_of_page c.args.page) c.args.class c.in-Some.kind.class c.args.leaf c.in-Some.kind.leaf c.args.page.used
    c.in-Some.ensures.block c.if-kind-class.true (same_flags c.in-Some.kind.leaf c.args.leaf c.if-kind-leaf.true)))
