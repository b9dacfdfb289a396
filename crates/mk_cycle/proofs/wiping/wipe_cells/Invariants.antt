use Rattle.mk_words.proofs.Below.Laws.Vocabulary.{ℕ, false, has_bit, true, ◌*◌, ◌+◌, ◌<◌, ◌≡◌}
use Rattle.mk_cycle.proofs.Vocabulary.{GivesNothingBack, IsZero}
use Rattle.mk_cycle.proofs.wiping.wipe_cells.Given as goal

abbrev pub invariant-loop-rest : goal.invariant-loop-rest
invariant-loop-rest l = record {
  frees : GivesNothingBack l.fn.turn.pass l.turn.pass;
  among : (j : ℕ) → has_bit l.rest j ≡ true → has_bit l.cells j ≡ true;
  zeros : (j : ℕ) → has_bit l.rest j ≡ false → (i : ℕ) → has_bit l.cells j ≡ true → i < 2 * l.pairs
      → IsZero l.turn.pass (64 * l.page + j * (2 * l.pairs) + i);
}

abbrev pub decreases-loop-rest : goal.decreases-loop-rest
decreases-loop-rest l = l.rest
