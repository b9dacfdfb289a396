use Rattle.mk_words.proofs.Below.Laws.Vocabulary.{◌*◌, ◌-◌, ◌≤◌}
use Rattle.mk_cycle.proofs.PageByPage.{AreSettledBelow}
use Rattle.mk_cycle.proofs.settling.settle_pages.Given as goal

abbrev pub invariant-loop-page : goal.invariant-loop-page
invariant-loop-page l = record {
  begun : l.from ≤ l.words.config.pages;
  settled : AreSettledBelow l.fn.turn.pass l.turn.pass l.words.config.pages l.from l.end l.all l.held;
  count : l.all.count ≤ 64 * l.from;
  words : l.all.words ≤ 64 * 4096 * l.from;
  kept : l.all.kept ≤ 64 * l.from;
  few : l.held ≤ 64 * 4096 * l.from;
}

abbrev pub decreases-loop-page : goal.decreases-loop-page
decreases-loop-page l = l.words.config.pages - l.from
