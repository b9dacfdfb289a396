use Rattle.mk_words.proofs.Below.Laws.Vocabulary.{false, is_held, ◌≡◌}
use Rattle.mk_cycle.specs.Stops.{HoldsSuch, only_gate}
use Rattle.mk_cycle.proofs.gates.wait_and_hold.Given as goal
use Rattle.mk_words.specs.States.{now_of}

abbrev pub invariant-trying : goal.invariant-trying
invariant-trying g l = record {
  steps : HoldsSuch (only_gate l.fn.caller) l.fn.turn l.turn;
  waits : is_held (now_of l.turn.pass).words l.fn.caller ≡ false;
}
