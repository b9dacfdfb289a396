use Rattle.mk_run.proofs.Below.Laws.Vocabulary.{subst}
use Rattle.mk_heap_tests.proofs.NewTurns.{double_back, double_may_give, freed_back, freed_may_give, is_unloaded}
use Rattle.mk_heap_tests.proofs.NewTurns.{may_retire, phase, taken_table}
use Rattle.mk_run.specs.Below.Objects.Retiring.{Retires}
use Rattle.mk_heap_tests.proofs.retiring.retire.Goals as goal

pub take-turn-requires-clause-enabled : goal.take-turn-requires-clause-enabled
take-turn-requires-clause-enabled g c = may_retire c.requires.pass c.requires.exists c.requires.register

pub retire_object-requires-clause-one_table : goal.retire_object-requires-clause-one_table
retire_object-requires-clause-one_table g c κs within = taken_table c.requires.pass.pass c.take-turn.ensures

pub retire_object-requires-clause-unloaded : goal.retire_object-requires-clause-unloaded
retire_object-requires-clause-unloaded g c κs within =
    is_unloaded c.requires.pass c.requires.exists c.take-turn.ensures c.requires.register

pub retire_object-requires-clause-phase : goal.retire_object-requires-clause-phase
retire_object-requires-clause-phase g c κs within = phase c.requires.pass.pass c.take-turn.ensures c.requires.exists

pub give-requires-clause-enabled : goal.give-requires-clause-enabled
give-requires-clause-enabled g c =
    let d = c.retire_object.new.turn in
    freed_may_give c.requires.pass c.requires.exists c.take-turn.ensures
    (subst (λ b. Retires c.take-turn.result.pass c.args.p b d.pass) c.if-freed.false c.in-Ok.ensures.freed)
    d.in_order

pub returns-else-freed : goal.returns-else-freed
returns-else-freed g c =
    let d = c.retire_object.new.turn in
    freed_back c.requires.pass c.requires.exists c.take-turn.ensures
    (subst (λ b. Retires c.take-turn.result.pass c.args.p b d.pass) c.if-freed.false c.in-Ok.ensures.freed)
    d.in_order c.give.ensures.acts.makes c.give.ensures.rests

pub give-requires-in-Err-clause-enabled : goal.give-requires-in-Err-clause-enabled
give-requires-in-Err-clause-enabled g c =
    double_may_give c.requires.pass c.requires.exists c.take-turn.ensures c.in-Err.ensures.double
    c.retire_object.new.turn.in_order

pub returns-in-Err : goal.returns-in-Err
returns-in-Err g c =
    double_back c.requires.pass c.requires.exists c.take-turn.ensures c.in-Err.ensures.double
    c.retire_object.new.turn.in_order c.give-in-Err.ensures.acts.makes c.give-in-Err.ensures.rests
