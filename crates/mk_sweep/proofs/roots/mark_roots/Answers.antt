use Rattle.mk_sweep.proofs.SweepSteps.{quiet_then}
use Rattle.mk_cycle.proofs.RootMarks.{all_roots_well}
use Rattle.mk_sweep.proofs.roots.mark_roots.Goals as goal

pub returns-clause-on : goal.returns-clause-on
returns-clause-on c = quiet_then c.mark_registers.ensures.on c.mark_globals.ensures.on

pub returns-clause-roots : goal.returns-clause-roots
returns-clause-roots c =
    let registers = c.mark_registers in
    let globals = c.mark_globals in
    all_roots_well c.args.stop.now registers.new.stop.pass globals.new.stop.pass c.requires.one_table
    registers.ensures.more globals.ensures.more registers.ensures.well globals.ensures.well
