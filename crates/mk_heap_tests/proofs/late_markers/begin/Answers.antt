use Rattle.mk_core.proofs.PhaseTests.{not_in_word}
use Rattle.mk_run.proofs.Below.Heaps.Overs.{HasLooked, looked_idle}
use Rattle.mk_heap_tests.proofs.LateMarkers.{host_may, looked_table, marking}
use Rattle.mk_heap_tests.proofs.late_markers.begin.Goals.{After-look-found}
use Rattle.mk_heap_tests.proofs.late_markers.begin.Goals as goal

pub take-turn-requires-clause-enabled : goal.take-turn-requires-clause-enabled
take-turn-requires-clause-enabled g c = host_may c.requires.host

looked : (g : _) (c : After-look-found g)
    → HasLooked c.args.host c.take-turn.result.pass c.look-found.result c.look-found.new.self.pass
looked g c =
    let t = c.take-turn.ensures in
    record {
      host = c.requires.host.seat;
      before_over = c.requires.host.before_over;
      takes = t.takes;
      fresh = t.fresh;
      exact = t.exact;
      tidy = t.tidy;
      turn = t.turn;
      finds = c.look-found.ensures.finds;
      acts = c.look-found.ensures.acts;
    }

pub begin_cycle-requires-clause-one_table : goal.begin_cycle-requires-clause-one_table
begin_cycle-requires-clause-one_table g c κs within =
    looked_table c.requires.host (looked g (goal.at.begin_cycle-requires-clause-one_table g c).After-look-found)

pub begin_cycle-requires-clause-phase : goal.begin_cycle-requires-clause-phase
begin_cycle-requires-clause-phase g c κs within =
    (looked_idle (looked g (goal.at.begin_cycle-requires-clause-phase g c).After-look-found)
    (not_in_word c.look-found.result 1 c.is_in.result c.is_in.ensures c.if-is_in.false)).phase

pub begin_cycle-requires-clause-free : goal.begin_cycle-requires-clause-free
begin_cycle-requires-clause-free g c κs within =
    (looked_idle (looked g (goal.at.begin_cycle-requires-clause-free g c).After-look-found)
    (not_in_word c.look-found.result 1 c.is_in.result c.is_in.ensures c.if-is_in.false)).free

pub returns : goal.returns
returns g c =
    marking c.requires.host (looked g (goal.at.returns g c).After-look-found) (not_in_word c.look-found.result 1
    c.is_in.result c.is_in.ensures c.if-is_in.false) c.begin_cycle.ensures.law
