use Rattle.mk_words.proofs.Below.Laws.Vocabulary.{ℕ, ◌*◌, ◌+◌, ◌<◌}
use Rattle.mk_cycle.proofs.Vocabulary.{GivesNothingBack, IsZero}
use Rattle.mk_cycle.proofs.wiping.wipe_over_pages.Given as goal

abbrev pub invariant-loop-i : goal.invariant-loop-i
invariant-loop-i l = record {
  frees : GivesNothingBack l.fn.turn.pass l.turn.pass;
  zeros : (k : ℕ) → k < 2 * l.i → IsZero l.turn.pass (2 * l.first + k);
}
