use Rattle.mk_words.proofs.Below.Laws.Vocabulary.{Step}
use Rattle.mk_marker.proofs.Moving.{moves}
use Rattle.mk_marker.proofs.steps.load.Goals as goal

pub returns : goal.returns
returns c = moves c.args.pass.now Step.Mload c.marker_load.result c.marker_load.new.self c.marker_load.ensures
