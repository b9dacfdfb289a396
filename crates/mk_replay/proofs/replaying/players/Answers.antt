use Rattle.mk_replay.proofs.{Vocabulary.{ArePlayersOf, IsPlayerOf, rules}, RunLaws.players_push}
use Rattle.mk_laws.proofs.Vocabulary.{None, ℕ, subst, sym, []}
use Rattle.mk_replay.proofs.replaying.players.Goals as goal

pub loop-script-preserved : goal.loop-script-preserved
loop-script-preserved c = record {
  count = search rules;
  players =
      subst (ArePlayersOf c.args.program.now []) (sym c.in_ok-push.ensures.items)
      (players_push c.loop-script.players.items c.loop-script.invariant.players
      (subst (λ (i : ℕ). IsPlayerOf c.args.program.now i (record { answers = []; kept = None }) c.in_ok-player.player)
      (sym c.loop-script.invariant.count) c.in_ok-player.ensures));
}
