use Rattle.mk_words.proofs.Below.Laws.Vocabulary.{false, is_number_of, or_right, ◌≡◌}
use Rattle.mk_cycle.proofs.HeldGates.{gate_of_others, such_wider}
use Rattle.mk_cycle.proofs.gates.hold_other.Goals as goal
use Rattle.mk_cycle.specs.Stops.{HoldsSuch}

pub hold_gate-requires : goal.hold_gate-requires
hold_gate-requires g c = record {
  one_table = c.requires.one_table;
  ready = c.requires.ready;
  within = c.requires.within;
  another = cc (c.seat.ensures, c.is_caller.ensures, c.if-not-is_caller.true);
}

pub returns-then-not-is_caller-clause-steps : goal.returns-then-not-is_caller-clause-steps
returns-then-not-is_caller-clause-steps g c =
    let another : is_number_of c.args.turn.now.pass.seat c.args.caller ≡ false =
    cc (c.seat.ensures, c.is_caller.ensures, c.if-not-is_caller.true) in
    such_wider (gate_of_others _ _ another) c.hold_gate.ensures.steps

pub returns-then-not-is_caller-clause-held : goal.returns-then-not-is_caller-clause-held
returns-then-not-is_caller-clause-held g c = or_right _ _ c.hold_gate.ensures.held

pub returns-else-not-is_caller-clause-steps : goal.returns-else-not-is_caller-clause-steps
returns-else-not-is_caller-clause-steps g c = HoldsSuch.none_yet
