use Rattle.mk_cycle.proofs.tracing.trace.Given as goal
use Rattle.mk_cycle.proofs.Blackened.{white_cells}
use Rattle.mk_cycle.specs.{Grays.{ColoursMore, MarksOn, AreNoted, with_last}, Stops.still_words}

abbrev pub invariant-loop-gray : goal.invariant-loop-gray
invariant-loop-gray l = record {
  on : MarksOn l.fn.stop l.stop;
  more : ColoursMore (still_words l.fn.stop.pass) (still_words l.stop.pass);
  noted : AreNoted l.table.pages (still_words l.stop.pass) (with_last l.work l.last);
}

abbrev pub decreases-loop-gray : goal.decreases-loop-gray
decreases-loop-gray l = white_cells l.table.pages (still_words l.stop.pass).blacks
