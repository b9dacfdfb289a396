use Rattle.mk_marker.proofs.Scanned.{scanned}
use Rattle.mk_marker.proofs.scans.scan_cell.Goals as goal

pub returns-clause-scans : goal.returns-clause-scans
returns-clause-scans c =
    scanned c.blacken.new.pass c.claim.ensures.claims c.scan_words.ensures.goes c.words_scanned.ensures.exact
    c.blacken.ensures.moves
