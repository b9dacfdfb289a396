use Rattle.mk_marker.proofs.{FewCells.few_cells, Moving.claimed, Moving.may_claim_seen}
use Rattle.mk_marker.proofs.steps.claim.Goals as goal

pub claim-requires-clause-enabled : goal.claim-requires-clause-enabled
claim-requires-clause-enabled c =
    may_claim_seen c.args.cell c.requires.marker c.requires.seen c.requires.page
    c.requires.index (few_cells c.args.cell.header c.args.cell.index c.requires.index)

pub returns : goal.returns
returns c =
    let m = c.claim.ensures.marks in
    let r = claimed c.args.cell c.requires.seen c.requires.marked m in
    record { claims = r.0; scanning = r.1; cell = r.2; left = r.3 }
