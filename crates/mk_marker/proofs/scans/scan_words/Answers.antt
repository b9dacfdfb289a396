use Rattle.mk_words.proofs.Below.Laws.Vocabulary.{arith}
use Rattle.mk_marker.proofs.{Did.still_of, Scanned.goes_nowhere, Scanned.goes_then}
use Rattle.mk_marker.proofs.scans.scan_words.Goals as goal

pub words-init : goal.words-init
words-init c = grind (arith, goes_nowhere)

pub words-preserved : goal.words-preserved
words-preserved c = grind (arith, goes_then, still_of)
