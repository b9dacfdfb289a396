use Rattle.std.proofs.Common.{arith, below_more}
use Rattle.mk_words.proofs.Below.Laws.Vocabulary.{Seat, ap, subst, ◌∙◌, ◌≡◌}
use Rattle.mk_cycle.proofs.HeldGates.{still_loaded, such_holds, such_then}
use Rattle.mk_cycle.proofs.HoldingSteps.{all_held_below, still_held_or_own}
use Rattle.mk_cycle.proofs.gates.hold_gates.Goals as goal
use Rattle.mk_cycle.specs.Stops.{HoldsSuch, all_others}
use Rattle.mk_words.specs.States.{PassState}

pub loop-caller-init : goal.loop-caller-init
loop-caller-init g c = record { steps = HoldsSuch.none_yet; held = λ j lt. absurd (omega arith) }

pub hold_other-requires-clause-one_table : goal.hold_other-requires-clause-one_table
hold_other-requires-clause-one_table g c =
    ap (λ (p : PassState). p.table) (such_holds c.loop-caller.invariant.steps).keeps.call.pass ∙ c.requires.one_table

pub hold_other-requires-clause-ready : goal.hold_other-requires-clause-ready
hold_other-requires-clause-ready g c = still_loaded c.loop-caller.invariant.steps c.requires.ready

pub loop-caller-preserved : goal.loop-caller-preserved
loop-caller-preserved g c =
    let before = c.loop-caller.invariant in
    let one = c.hold_other.ensures in
    let seat : c.loop-caller.turn.pass.seat ≡ c.args.turn.now.pass.seat =
    ap (λ (p : PassState). p.seat) (such_holds before.steps).keeps.call.pass in
    record {
      steps = such_then before.steps
          (subst (λ (s : Seat). HoldsSuch (all_others s) c.loop-caller.turn c.hold_other.new.turn) seat one.steps);
      held = below_more _ _ (λ j lt. still_held_or_own j (such_holds one.steps) (before.held j lt)) one.held;
    }

pub returns-clause-holds : goal.returns-clause-holds
returns-clause-holds g c = such_holds c.loop-caller.invariant.steps

pub returns-clause-held : goal.returns-clause-held
returns-clause-held g c = grind (arith, all_held_below)
