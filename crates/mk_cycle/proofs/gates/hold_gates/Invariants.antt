use Rattle.std.proofs.Common.{ℕ, ◌<◌}
use Rattle.mk_cycle.specs.Stops.{HoldsSuch, IsHeldOrOwn, all_others}
use Rattle.mk_cycle.proofs.gates.hold_gates.Given as goal

abbrev pub invariant-loop-caller : goal.invariant-loop-caller
invariant-loop-caller g l = record {
  steps : HoldsSuch (all_others l.fn.turn.pass.seat) l.fn.turn l.turn;
  held : (j : ℕ) → j < l.caller → IsHeldOrOwn l.turn.pass j;
}
