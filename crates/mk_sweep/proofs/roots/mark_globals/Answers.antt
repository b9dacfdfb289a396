use Rattle.mk_cycle.proofs.Below.Laws.Vocabulary.{refl}
use Rattle.mk_sweep.proofs.RootSteps.{next_root_swept, no_root_swept}
use Rattle.mk_sweep.proofs.roots.mark_globals.Goals as goal

pub loop-global-init : goal.loop-global-init
loop-global-init c = no_root_swept c.requires.sweeping

pub loop-global-preserved : goal.loop-global-preserved
loop-global-preserved c =
    let mark = c.mark_root.ensures in next_root_swept (λ r. refl) c.loop-global.invariant mark.on mark.more mark.well
