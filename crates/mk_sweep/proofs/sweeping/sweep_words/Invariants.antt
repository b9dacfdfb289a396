use Rattle.std.specs.List.{range_with_len}
use Rattle.mk_sweep.specs.Sweeps.{SweepsWords}
use Rattle.mk_sweep.proofs.sweeping.sweep_words.Given as goal

abbrev pub invariant-loop-i : goal.invariant-loop-i
invariant-loop-i l = SweepsWords l.words.config.pages l.fn.stop l.stop (range_with_len l.first l.i)
