use Rattle.mk_words.proofs.Below.Laws.Vocabulary.{Word, slice_index, sym, ◌∙◌, ◌≡◌}
use Rattle.mk_words.proofs.PointedCells.{found_there}
use Rattle.mk_cycle.proofs.HeldGates.{found_held, gate_look_allowed, gate_within, held_now, may_hold_still, such_then}
use Rattle.mk_cycle.proofs.gates.hold_gate.Goals.{After-look}
use Rattle.mk_cycle.proofs.gates.hold_gate.Goals as goal
use Rattle.mk_cycle.specs.Stops.{HoldsSuch, only_gate}
use Rattle.mk_words.specs.States.{now_of}

pub look-requires-clause-enabled : goal.look-requires-clause-enabled
look-requires-clause-enabled g c = gate_look_allowed c.args.turn.now c.requires

-- the look
looked : (g : _) (c : After-look g) → HoldsSuch (only_gate c.args.caller) c.args.turn.now c.look.new.self
looked g c = HoldsSuch.then_looks c.args.caller HoldsSuch.none_yet c.look.ensures.acts

found : (g : _) (c : After-look g) → c.look.result
    ≡ slice_index (now_of c.look.new.self.pass).words.gates c.args.caller
found g c =
    sym (found_there c.args.turn.now.pass c.look.new.self.pass (Word.Gate c.args.caller) c.look.result
    c.look.ensures.finds)

pub returns-then-is_in-clause-steps : goal.returns-then-is_in-clause-steps
returns-then-is_in-clause-steps g c = looked g (goal.at.returns-then-is_in-clause-steps g c).After-look

pub returns-then-is_in-clause-held : goal.returns-then-is_in-clause-held
returns-then-is_in-clause-held g c =
    let x = (goal.at.returns-then-is_in-clause-held g c).After-look in
    held_now c.look.new.self.pass c.args.caller (found g x) ∙ sym c.is_in.ensures ∙ c.if-is_in.true

pub returns-then-is_in-clause-was : goal.returns-then-is_in-clause-was
returns-then-is_in-clause-was g c =
    let x = (goal.at.returns-then-is_in-clause-was g c).After-look in
    found_held (gate_within c.args.turn.now c.requires) c.look.ensures.acts (found g x)
    ∙ sym c.is_in.ensures ∙ c.if-is_in.true

pub wait_and_hold-requires-clause-may : goal.wait_and_hold-requires-clause-may
wait_and_hold-requires-clause-may g c =
    may_hold_still (looked g (goal.at.wait_and_hold-requires-clause-may g c).After-look) c.requires

pub wait_and_hold-requires-clause-not_held : goal.wait_and_hold-requires-clause-not_held
wait_and_hold-requires-clause-not_held g c =
    let x = (goal.at.wait_and_hold-requires-clause-not_held g c).After-look in
    held_now c.look.new.self.pass c.args.caller (found g x) ∙ sym c.is_in.ensures ∙ c.if-is_in.false

pub returns-clause-steps : goal.returns-clause-steps
returns-clause-steps g c =
    such_then (looked g (goal.at.returns-clause-steps g c).After-look) c.wait_and_hold.ensures.steps

pub returns-clause-was : goal.returns-clause-was
returns-clause-was g c =
    let x = (goal.at.returns-clause-was g c).After-look in
    found_held (gate_within c.args.turn.now c.requires) c.look.ensures.acts (found g x)
    ∙ sym c.is_in.ensures ∙ c.if-is_in.false
