use Rattle.mk_words.proofs.Below.Laws.Vocabulary.{eq-eqb, refl}
use Rattle.mk_cycle.proofs.HeldGates.{hold_may_come, may_hold_still}
use Rattle.mk_cycle.proofs.gates.wait_and_hold.Goals as goal
use Rattle.mk_cycle.specs.Stops.{HoldsSuch}

pub trying-init : goal.trying-init
trying-init g c = record { steps = HoldsSuch.none_yet; waits = c.requires.not_held }

pub try_hold-requires-clause-one_table : goal.try_hold-requires-clause-one_table
try_hold-requires-clause-one_table g c = (may_hold_still c.trying.invariant.steps c.requires.may).one_table

pub try_hold-requires-clause-enabled : goal.try_hold-requires-clause-enabled
try_hold-requires-clause-enabled g c =
    hold_may_come c.trying.turn (may_hold_still c.trying.invariant.steps c.requires.may) c.trying.invariant.waits

pub returns-in-Ok-clause-steps : goal.returns-in-Ok-clause-steps
returns-in-Ok-clause-steps g c =
    HoldsSuch.then_tries c.args.caller (eq-eqb c.args.caller c.args.caller refl) c.trying.invariant.steps
    c.try_hold.ensures.acts

pub trying-preserved : goal.trying-preserved
trying-preserved g c = record {
  steps = HoldsSuch.then_tries c.args.caller (eq-eqb c.args.caller c.args.caller refl) c.trying.invariant.steps
      c.try_hold.ensures.acts;
  waits = c.in-Err.ensures.not_held;
}
