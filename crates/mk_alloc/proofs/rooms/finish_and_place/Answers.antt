use Rattle.mk_alloc.proofs.SeekingTurns.{idle_still, room_finished, seeks_finished, tried_then}
use Rattle.mk_alloc.proofs.{UnsweptTurns.{finish_keeps, keeps_then, unbegun_keeps}, OneCycles.finish_then_none}
use Rattle.mk_alloc.proofs.FinishedCycles.{closed_longer}
use Rattle.mk_cycle.proofs.HeldFirst.{finish_holds, first_then}
use Rattle.mk_alloc.proofs.rooms.finish_and_place.Goals as goal

pub try_place-placed-requires : goal.try_place-placed-requires
try_place-placed-requires g c =
    room_finished c.requires.needs.seeks c.requires.needs.nowhere c.finish_cycle-turn.ensures.law
    c.finish_cycle-turn.result.0.in_order

pub returns-clause-tried : goal.returns-clause-tried
returns-clause-tried g c =
    let needs = c.requires.needs in
    let law = c.finish_cycle-turn.ensures.law in
    let history = c.finish_cycle-turn.result.0.in_order.history in
    tried_then (seeks_finished needs.seeks needs.nowhere law history) c.try_place-placed.ensures.tried

pub returns-clause-idle : goal.returns-clause-idle
returns-clause-idle g c none = idle_still c.finish_cycle-turn.ensures.law (c.try_place-placed.ensures.looks none)

pub returns-clause-ends : goal.returns-clause-ends
returns-clause-ends g c =
    finish_then_none c.args.turn.in_order c.finish_cycle-turn.ensures.law
    c.finish_cycle-turn.result.0.in_order.history c.try_place-placed.ensures.begins

pub returns-clause-holds : goal.returns-clause-holds
returns-clause-holds g c =
    let looked = c.try_place-placed.ensures.begins in
    first_then (finish_holds c.args.turn.in_order.own c.finish_cycle-turn.ensures.law) looked.more looked.is

pub returns-clause-closed : goal.returns-clause-closed
returns-clause-closed g c =
    let placed = c.try_place-placed.ensures.begins in
    closed_longer c.finish_cycle-turn.ensures.closed placed.more placed.is

pub returns-clause-keeps : goal.returns-clause-keeps
returns-clause-keeps g c =
    let finished = c.finish_cycle-turn.ensures in
    let placed = c.try_place-placed.ensures in
    keeps_then finished.law.pass (finish_keeps c.finish_cycle-turn.new.engine c.args.turn.in_order finished.law
    c.finish_cycle-turn.result.0.in_order.history finished.reached finished.told)
    (unbegun_keeps placed.begins placed.closes placed.reached)
