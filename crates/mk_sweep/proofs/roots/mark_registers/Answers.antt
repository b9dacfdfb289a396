use Rattle.mk_cycle.proofs.{Below.Laws.Vocabulary.arith, MoreMarks.{more_same, more_then}, RootMarks.registers_then}
use Rattle.mk_sweep.proofs.SweepSteps.{quiet_then, sweeps_from}
use Rattle.mk_sweep.proofs.roots.mark_registers.Goals as goal

pub loop-caller-init : goal.loop-caller-init
loop-caller-init c = grind (arith, sweeps_from, more_same)

pub loop-caller-preserved : goal.loop-caller-preserved
loop-caller-preserved c =
    let before = c.loop-caller.invariant in
    let mark = c.mark_registers_of in
    record {
      on = quiet_then before.on mark.ensures.on;
      more = more_then _ _ _ before.more mark.ensures.more;
      well = registers_then c.args.words.now.config c.args.stop.now.pass c.loop-caller.stop.pass mark.new.stop.pass
          before.more mark.ensures.more before.well mark.ensures.well;
    }
