use Rattle.mk_replay.proofs.{Vocabulary.{ArePlayersOf, Event, Item}, RunLaws.AreFirstTexts}
use Rattle.mk_laws.proofs.Vocabulary.{List, length, ◌≡◌}
use Rattle.mk_replay.proofs.replaying.Run.texts.Given as goal

abbrev pub invariant-loop-player : goal.invariant-loop-player
invariant-loop-player l = record {
  count : length l.texts.items ≡ l.player-index;
  texts : (program : List Item) (es : List Event) → ArePlayersOf program es l.self.players.items
      → AreFirstTexts program es l.texts.items;
}
