use Rattle.std.proofs.Common.{vec_len}
use Rattle.mk_cycle.specs.{Grays.{LooksOn, AreNoted, listed}, Stops.still_words}
use Rattle.mk_cycle.proofs.grays.gray_noted.Given as goal

abbrev pub invariant-loop-noted : goal.invariant-loop-noted
invariant-loop-noted l = record {
  looks : LooksOn l.fn.stop l.stop;
  noted : AreNoted l.table.pages (still_words l.fn.stop.pass) (listed l.work);
}

abbrev pub decreases-loop-noted : goal.decreases-loop-noted
decreases-loop-noted l = vec_len l.work.cells
