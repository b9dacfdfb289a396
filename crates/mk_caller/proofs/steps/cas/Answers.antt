use Rattle.mk_words.proofs.Below.Laws.Vocabulary.{Stage, Step, ap, refl}
use Rattle.mk_caller.proofs.{Onward.{is_written, moves, write_next}, Stepping.{may_access, met}}
use Rattle.mk_caller.proofs.steps.cas.Goals as goal

pub cas-requires-clause-enabled : goal.cas-requires-clause-enabled
cas-requires-clause-enabled c = (may_access c.requires.underway _ Step.Cas c.requires.stage refl c.requires.access).0

pub returns : goal.returns
returns c = record {
  moves = moves c.requires.underway c.cas.ensures.goes (write_next _ _ _ (ap (λ (s : Stage). is_written s)
      c.requires.stage) (met c.requires.underway Stage.Cas c.requires.stage c.requires.access refl refl refl));
}
