use Rattle.mk_words.proofs.Below.Laws.Vocabulary.{refl}
use Rattle.mk_marker.proofs.Scanned.{goes_once, goes_then}
use Rattle.mk_marker.proofs.scans.mark_target.Goals as goal

pub returns-in-Some-clause-goes : goal.returns-in-Some-clause-goes
returns-in-Some-clause-goes c =
    goes_then (goes_once refl refl c.look-header.ensures.moves) (goes_once refl refl c.mark.ensures.1)
