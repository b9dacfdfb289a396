use Rattle.mk_cycle.proofs.roots_beside.mark_registers_of.Goals as goal
use Rattle.mk_cycle.proofs.MarksBeside.{next_root, no_root_yet}

pub loop-register-init : goal.loop-register-init
loop-register-init c = no_root_yet c.requires.beside

pub loop-register-preserved : goal.loop-register-preserved
loop-register-preserved c =
    let mark = c.mark_root.ensures in next_root c.loop-register.invariant mark.on mark.gates mark.looked
