use Rattle.mk_cycle.proofs.roots_beside.mark_globals.Goals as goal
use Rattle.mk_cycle.proofs.MarksBeside.{next_root, no_root_yet}

pub loop-global-init : goal.loop-global-init
loop-global-init c = no_root_yet c.requires.beside

pub loop-global-preserved : goal.loop-global-preserved
loop-global-preserved c =
    let mark = c.mark_root.ensures in next_root c.loop-global.invariant mark.on mark.gates mark.looked
