use Rattle.std.proofs.lemmas.Grind.{common_steps}
use Rattle.mk_replay.proofs.{Vocabulary.texts_of, ScheduleLine.{found_first, found_none}}
use Rattle.mk_laws.proofs.Vocabulary.{arith}
use Rattle.mk_replay.proofs.schedule_parsing.schedule_place.Goals as goal

pub returns-then-branch : goal.returns-then-branch
returns-then-branch c = found_first (texts_of c.args.lines.now) c.loop-place.place (grind (arith, common_steps))

pub returns : goal.returns
returns c = found_none (texts_of c.args.lines.now) (grind (arith, common_steps))
