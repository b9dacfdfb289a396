use Rattle.mk_replay.proofs.UnderWay.{IsUnderWay}
use Rattle.mk_replay.proofs.replaying.replay.Given as goal

abbrev pub invariant-loop-entry : goal.invariant-loop-entry
invariant-loop-entry l = IsUnderWay l.program l.schedule l.entry-index l.run
