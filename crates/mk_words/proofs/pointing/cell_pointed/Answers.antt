use Rattle.std.proofs.Common.{ap, sym, ◌∙◌}
use Rattle.mk_geom.specs.Addresses.{cell_at}
use Rattle.mk_core.specs.Words.{header_at}
use Rattle.mk_words.proofs.pointing.cell_pointed.Goals as goal
use Rattle.mk_words.proofs.PointedCells.{found_by_header, found_there}
use Rattle.mk_words.specs.States.{now_of}

pub returns-clause-points : goal.returns-clause-points
returns-clause-points g c =
    let q = c.look-header.new.self.pass in
    c.lookup.ensures ∙ ap (λ n. cell_at n c.look-header.result c.args.value) c.pages-2.ensures
    ∙ ap (λ h. cell_at c.args.words.now.config.pages h c.args.value)
    (sym (found_there c.args.turn.now.pass q _ c.look-header.result c.look-header.ensures.finds)
    ∙ ap (λ n. header_at (now_of q).words n) c.in_ok-page.ensures.page)
    ∙ found_by_header c.args.words.now.config.pages (now_of q).words c.args.value
