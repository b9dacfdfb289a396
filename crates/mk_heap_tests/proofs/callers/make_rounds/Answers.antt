use Rattle.mk_heap_tests.proofs.NullCalls.{stays_then, stays_there}
use Rattle.mk_heap_tests.proofs.callers.make_rounds.Goals as goal

pub loop-round-init : goal.loop-round-init
loop-round-init c = record { home = c.requires.home; stays = stays_there c.requires.null }

pub loop-round-preserved : goal.loop-round-preserved
loop-round-preserved c = record {
  home = c.make_round-fine.ensures.home;
  stays = stays_then c.loop-round.invariant.stays c.make_round-fine.ensures.stays;
}
