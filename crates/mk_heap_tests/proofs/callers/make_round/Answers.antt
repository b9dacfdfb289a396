use Rattle.mk_heap_tests.proofs.{Vocabulary.HoldsNull, NullCalls.{may_compare, may_load, may_move, may_read, may_store}}
use Rattle.mk_heap_tests.proofs.NullCalls.{stays_answered, stays_done, stays_read, stays_said, stays_then}
use Rattle.mk_heap_tests.proofs.callers.make_round.Goals.{After-get_global-loaded, After-move_ptr-moved}
use Rattle.mk_heap_tests.proofs.callers.make_round.Goals.{After-same-same, After-set_global-stored}
use Rattle.mk_run.proofs.Below.Laws.Vocabulary.{Answer, Op, arith}
use Rattle.mk_heap_tests.specs.HeldObjects.{StaysNull}
use Rattle.mk_heap_tests.proofs.callers.make_round.Goals as goal

-- The register is null after each call, as it was before.

moved : (c : After-move_ptr-moved) → StaysNull c.args.caller.now.pass c.move_ptr-moved.new.self.pass
moved c =
    let m = c.move_ptr-moved in
    stays_done _ (Op.Move 0 1) Answer.Done m.result m.ensures.called m.ensures.held (λ e. grind arith) c.requires.null

stored : (c : After-set_global-stored) → HoldsNull c.move_ptr-moved.new.self.pass
    → StaysNull c.move_ptr-moved.new.self.pass c.set_global-stored.new.self.pass
stored c =
    let s = c.set_global-stored in
    stays_done _ (Op.SetGlobal 0 1) Answer.Done s.result s.ensures.called s.ensures.held (λ e. grind arith)

loaded : (c : After-get_global-loaded) → HoldsNull c.set_global-stored.new.self.pass
    → StaysNull c.set_global-stored.new.self.pass c.get_global-loaded.new.self.pass
loaded c =
    let l = c.get_global-loaded in
    stays_answered _ (Op.GetGlobal 2 0) l.result l.ensures.called l.ensures.held (λ e. grind arith)

compared : (c : After-same-same) → HoldsNull c.get_global-loaded.new.self.pass
    → StaysNull c.get_global-loaded.new.self.pass c.same-same.new.self.pass
compared c =
    let x = c.same-same in
    stays_said _ (Op.Same 1 2) x.result x.ensures.called x.ensures.held (λ e. grind arith)

pub move_ptr-moved-requires-clause-admitted : goal.move_ptr-moved-requires-clause-admitted
move_ptr-moved-requires-clause-admitted c = may_move c.requires.null

pub set_global-stored-requires-clause-admitted : goal.set_global-stored-requires-clause-admitted
set_global-stored-requires-clause-admitted c =
    let x = goal.at.set_global-stored-requires-clause-admitted c in
    may_store (moved x.After-move_ptr-moved).null

pub get_global-loaded-requires-clause-admitted : goal.get_global-loaded-requires-clause-admitted
get_global-loaded-requires-clause-admitted c =
    let x = goal.at.get_global-loaded-requires-clause-admitted c in
    may_load (stored x.After-set_global-stored (moved x.After-move_ptr-moved).null).null

pub same-same-requires-clause-admitted : goal.same-same-requires-clause-admitted
same-same-requires-clause-admitted c =
    let x = goal.at.same-same-requires-clause-admitted c in
    may_compare (loaded x.After-get_global-loaded
    (stored x.After-set_global-stored (moved x.After-move_ptr-moved).null).null).null

pub get_num-number-requires-clause-admitted : goal.get_num-number-requires-clause-admitted
get_num-number-requires-clause-admitted c =
    let x = goal.at.get_num-number-requires-clause-admitted c in
    may_read (compared x.After-same-same (loaded x.After-get_global-loaded
    (stored x.After-set_global-stored (moved x.After-move_ptr-moved).null).null).null).null

pub returns-clause-stays : goal.returns-clause-stays
returns-clause-stays c =
    let x = goal.at.returns-clause-stays c in
    let n = c.get_num-number in
    let m = moved x.After-move_ptr-moved in
    let s = stored x.After-set_global-stored m.null in
    let l = loaded x.After-get_global-loaded s.null in
    let e = compared x.After-same-same l.null in
    stays_then (stays_then (stays_then (stays_then m s) l) e)
    (stays_read _ (Op.GetNum 1 0) n.result n.ensures.called n.ensures.refused (λ e. grind arith) e.null)
