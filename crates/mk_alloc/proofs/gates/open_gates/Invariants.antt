use Rattle.mk_caller.proofs.Below.Laws.Vocabulary.{is_run_gone, true, ◌≡◌}
use Rattle.mk_alloc.proofs.gates.open_gates.Given as goal
use Rattle.mk_alloc.proofs.ObjectVocabulary.{SetsGates, held_from, is_settling, now_of}

abbrev pub invariant-loop-caller : goal.invariant-loop-caller
invariant-loop-caller l = record {
  sets : SetsGates is_settling l.fn.turn.pass (held_from l.fn.turn.pass.seat l.caller) l.turn.pass;
  gone : is_run_gone (now_of l.turn.pass).words (now_of l.turn.pass).seats.holding.freed ≡ true;
}
