use Rattle.std.proofs.Common.{rules}
use Rattle.mk_alloc.proofs.Below.Laws.Vocabulary.{Bool, false, is_under_turn, true, ◌≡◌}
use Rattle.mk_heap.proofs.Dispatched.{admitted_now, answered_by_call, held_beside, held_put_off, stays_still}
use Rattle.mk_heap.{proofs.Dispatched.turn_put_off, specs.Dispatching.Answers}
use Rattle.mk_heap.proofs.dispatching.answer_at_once.Goals as goal

pub call-requires-clause-admitted : goal.call-requires-clause-admitted
call-requires-clause-admitted c = admitted_now c.args.caller.now c.requires.home c.requires.admitted

pub returns-in-New : goal.returns-in-New
returns-in-New c =
    let p = c.args.caller.now.pass in
    record {
      home = c.requires.home;
      answers = tt;
      put_off = turn_put_off p c.args.op (search rules);
      beside = stays_still p;
    }

pub returns-in-Ok : goal.returns-in-Ok
returns-in-Ok c =
    let p = c.args.caller.now.pass in
    let q = c.call.new.caller.pass in
    let called = c.in-Ok.ensures.called in
    let entered : is_under_turn c.args.op ≡ false = search rules in
    let answers : (on : Bool) → Answers on p c.args.op c.in-Ok.told q =
    λ on. answered_by_call on (c.args.caller.now.in_order c.requires.home).pass.own entered called in
    record {
      home = c.call.ensures.home;
      answers = answers;
      put_off = tt;
      beside = (answers true).beside entered;
    }

pub returns-in-Err : goal.returns-in-Err
returns-in-Err c =
    let p = c.args.caller.now.pass in
    let q = c.call.new.caller.pass in
    let held = c.in-Err.ensures.held in
    let entered : is_under_turn c.args.op ≡ false = search rules in
    record {
      home = c.call.ensures.home;
      answers = tt;
      put_off = held_put_off entered held;
      beside = held_beside held;
    }
