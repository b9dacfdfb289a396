use Rattle.mk_words.proofs.Below.Laws.Vocabulary.{Word, ℕ, ◌<◌}
use Rattle.mk_cycle.specs.Beside.{GoesBeside, LooksAt}
use Rattle.mk_cycle.proofs.roots_beside.mark_registers.Given as goal
use Rattle.mk_cycle.specs.TurnKeeps.{KeepsGates}

abbrev pub invariant-loop-caller : goal.invariant-loop-caller
invariant-loop-caller g l = record {
  on : GoesBeside l.fn.turn l.turn;
  gates : KeepsGates l.fn.turn.pass l.turn.pass;
  looked : (k : ℕ) → k < l.caller → (r : ℕ) → r < 8 → LooksAt (Word.Reg k r) l.fn.turn.pass l.turn.pass;
}
