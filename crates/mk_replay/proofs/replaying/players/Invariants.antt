use Rattle.mk_replay.proofs.Vocabulary.{ArePlayersOf}
use Rattle.mk_laws.proofs.Vocabulary.{length, [], ◌≡◌}
use Rattle.mk_replay.proofs.replaying.players.Given as goal

abbrev pub invariant-loop-script : goal.invariant-loop-script
invariant-loop-script l =
    record { count : length l.players.items ≡ l.script; players : ArePlayersOf l.program [] l.players.items }
