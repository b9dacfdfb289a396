use Rattle.mk_alloc.proofs.{Vocabulary.{Op, PassState, ap, refl, sym, ◌∙◌}, CalledTurns.{Taken, taken_is, took_by}}
use Rattle.mk_alloc.proofs.FreedTurns.{Frees, Refuses, double_answered, freed, freed_keeps, freed_object, refused_keeps}
use Rattle.mk_alloc.proofs.{FreedTurns.unloaded, freeing.free_object.Goals.{After-run_if_due-turn, After-take-turn}}
use Rattle.mk_alloc.specs.Retiring.{FindsFreed}
use Rattle.mk_alloc.proofs.freeing.free_object.Goals as goal

-- the turn of the call, as it was taken
took : (g : _) (c : After-take-turn g) → Taken (Op.Free c.args.p) c.args.caller.now.pass c.take-turn.result.pass
took g c = took_by c.lend-home.ensures.pass (c.args.caller.now.in_order c.requires.may.home) c.take-turn.ensures.takes

pub retire_object-requires-clause-unloaded : goal.retire_object-requires-clause-unloaded
retire_object-requires-clause-unloaded g c κs within =
    let x = took g (goal.at.retire_object-requires-clause-unloaded g c).After-take-turn in
    unloaded x.seat x.own x.takes c.take-turn.ensures.begins.fresh c.take-turn.result.in_order.history
    c.requires.register c.requires.base

-- The object was freed: the turn goes on to the end of a cycle that is due.
frees : (g : _) (c : After-run_if_due-turn g)
    → Frees g.E.Engine.ways.on c.in-Ok.freed.due c.args.p c.args.caller.now.pass c.take-turn.result.pass
    c.retire_object.new.turn.pass c.run_if_due-turn.result.pass
frees g c = record {
  took = took_by c.lend-home.ensures.pass (c.args.caller.now.in_order c.requires.may.home) c.take-turn.ensures.takes;
  begins = c.take-turn.ensures.begins;
  retires = c.in-Ok.ensures.freed;
  decided = c.retire_object.new.turn.in_order;
  run = c.run_if_due-turn.ensures.runs;
  history = c.run_if_due-turn.result.in_order.history;
}

pub give-requires-clause-one_table : goal.give-requires-clause-one_table
give-requires-clause-one_table g c =
    let x = goal.at.give-requires-clause-one_table g c in
    let f = frees g x.After-run_if_due-turn in
    ap (λ (x : PassState). x.table) (freed f).does.is ∙ ap (λ (x : PassState). x.table) (taken_is f.took)
    ∙ sym c.words-words.ensures

pub give-requires-clause-quiet : goal.give-requires-clause-quiet
give-requires-clause-quiet g c =
    (freed (frees g (goal.at.give-requires-clause-quiet g c).After-run_if_due-turn)).quiet

pub give-requires-clause-decided : goal.give-requires-clause-decided
give-requires-clause-decided g c =
    (freed (frees g (goal.at.give-requires-clause-decided g c).After-run_if_due-turn)).decided refl

pub back-requires-clause-one_table : goal.back-requires-clause-one_table
back-requires-clause-one_table g c =
    let x = goal.at.back-requires-clause-one_table g c in
    let f = frees g x.After-run_if_due-turn in
    ap (λ (x : PassState). x.table) c.give.ensures.gives.is ∙ ap (λ (x : PassState). x.table) (freed f).does.is
    ∙ ap (λ (x : PassState). x.table) (taken_is f.took)
    ∙ sym (ap (λ (x : PassState). x.table) c.lend-home.ensures.lent.pass)

pub returns-in-Ok-clause-freed : goal.returns-in-Ok-clause-freed
returns-in-Ok-clause-freed g c =
    let x = goal.at.returns-in-Ok-clause-freed g c in
    rw c.back.ensures.pass
    (freed_object (frees g x.After-run_if_due-turn) c.give.ensures.gives c.give.ensures.rests)

pub returns-in-Ok-clause-keeps : goal.returns-in-Ok-clause-keeps
returns-in-Ok-clause-keeps g c =
    let x = goal.at.returns-in-Ok-clause-keeps g c in
    rw c.back.ensures.pass (freed_keeps (frees g x.After-run_if_due-turn) c.give.ensures.gives
    c.give.ensures.rests c.run_if_due-turn.ensures.keeps)

-- It was freed before.
refuses : (g : _) (c : After-take-turn g) {q : PassState} → FindsFreed c.take-turn.result.pass c.args.p q
    → Refuses c.args.p c.args.caller.now.pass c.take-turn.result.pass q
refuses g c finds = record { took = took g c; begins = c.take-turn.ensures.begins; finds = finds }

pub returns-in-Err-clause-double : goal.returns-in-Err-clause-double
returns-in-Err-clause-double g c =
    let x = goal.at.returns-in-Err-clause-double g c in
    rw c.back-in-Err.ensures.pass (double_answered g.E.Engine.ways.on
    (refuses g x.After-take-turn c.in-Err.ensures.double) c.give-in-Err.ensures.gives c.give-in-Err.ensures.rests)

pub returns-in-Err-clause-keeps : goal.returns-in-Err-clause-keeps
returns-in-Err-clause-keeps g c =
    let x = goal.at.returns-in-Err-clause-keeps g c in
    rw c.back-in-Err.ensures.pass (refused_keeps (refuses g x.After-take-turn c.in-Err.ensures.double)
    c.give-in-Err.ensures.gives c.give-in-Err.ensures.rests)
