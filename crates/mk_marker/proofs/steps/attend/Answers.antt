use Rattle.mk_words.proofs.Below.Laws.Vocabulary.{Step}
use Rattle.mk_marker.proofs.Moving.{known_phase, moves}
use Rattle.mk_marker.proofs.steps.attend.Goals as goal

pub returns-clause-moves : goal.returns-clause-moves
returns-clause-moves c = moves c.args.pass.now Step.Attend c.attend.result c.attend.new.self c.attend.ensures

pub returns-clause-phase : goal.returns-clause-phase
returns-clause-phase c = known_phase c.args.pass.now c.attend.result c.attend.new.self c.attend.ensures.finds
