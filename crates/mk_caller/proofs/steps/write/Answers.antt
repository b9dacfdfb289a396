use Rattle.mk_words.proofs.Below.Laws.Vocabulary.{Stage, Step, ap, refl}
use Rattle.mk_caller.proofs.{Onward.{is_written, moves, write_next}, Stepping.{may_access, met}}
use Rattle.mk_caller.proofs.steps.write.Goals as goal

pub write-requires-clause-enabled : goal.write-requires-clause-enabled
write-requires-clause-enabled c =
    (may_access c.requires.underway _ Step.Write c.requires.stage refl c.requires.access).0

pub returns : goal.returns
returns c = record {
  moves = moves c.requires.underway c.write.ensures.goes (write_next _ _ _ (ap (λ (s : Stage). is_written s)
      c.requires.stage) (met c.requires.underway Stage.Write c.requires.stage c.requires.access refl refl refl));
}
