use Rattle.mk_cycle.proofs.Below.Laws.Vocabulary.{refl}
use Rattle.mk_sweep.proofs.RootSteps.{next_root_swept, no_root_swept}
use Rattle.mk_sweep.proofs.roots.mark_registers_of.Goals as goal

pub loop-register-init : goal.loop-register-init
loop-register-init c = no_root_swept c.requires.sweeping

pub loop-register-preserved : goal.loop-register-preserved
loop-register-preserved c =
    let mark = c.mark_root.ensures in next_root_swept (λ r. refl) c.loop-register.invariant mark.on mark.more mark.well
