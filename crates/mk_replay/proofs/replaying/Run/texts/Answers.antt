use Rattle.mk_replay.proofs.Vocabulary.{IsPlayerOf, config_of, rules, served_to}
use Rattle.mk_laws.proofs.Vocabulary.{ℕ, get_or, length, subst, sym, ◌<◌, ◌≡◌}
use Rattle.mk_replay.{proofs.RunLaws.{AreFirstTexts, texts_push}, specs.Replays.IsReplayedText}
use Rattle.mk_replay.proofs.replaying.Run.texts.Goals as goal

pub loop-player-preserved : goal.loop-player-preserved
loop-player-preserved c = record {
  count = search rules;
  texts = λ program es h.
      let texts = c.loop-player.texts.items in
      let players = c.args.self.now.players.items in
      let n = c.loop-player.player-index in
      let p = c.player-item.result in
      let within : n < length players = search rules in
      let item : get_or players n p ≡ p = search rules in
      let is = subst (IsPlayerOf program n (served_to (config_of program 8) es n)) item (h n p within) in
      let t = c.in_ok-text.ensures program es n is in
      subst (AreFirstTexts program es) (sym c.in_ok-push.ensures.items)
      (texts_push texts c.in_ok-text.text (c.loop-player.invariant.texts program es h)
      (subst (λ (i : ℕ). IsReplayedText program es i c.in_ok-text.text) (sym c.loop-player.invariant.count) t));
}

pub returns : goal.returns
returns c = λ program es h. record {
  count = (let n = h.count in search rules);
  each = c.loop-player.invariant.texts program es h.players;
}
