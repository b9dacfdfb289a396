use Rattle.mk_caller.proofs.Below.Laws.Vocabulary.{ap, false, is_number_of, is_run_gone, not, true, ◌∙◌, ◌≡◌}
use Rattle.mk_alloc.proofs.{ObjectVocabulary.{PassState, is_settling, now_of}, SetGates.{set_nothing, sets_open}}
use Rattle.mk_alloc.proofs.gates.open_other.Goals as goal
use Rattle.mk_alloc.proofs.{ClearedRuns.still_gone, JoinedLooks.reached_there, Looks.acting_now, MayAct.may_open}

pub open_gate-requires-clause-enabled : goal.open_gate-requires-clause-enabled
open_gate-requires-clause-enabled c =
    let p : PassState = c.args.turn.now.pass in
    let another : is_number_of p.seat c.args.caller ≡ false =
    cc (c.seat.ensures, c.is_caller.ensures, c.if-not-is_caller.true) in
    may_open (acting_now c.args.turn.now.in_order c.requires.may.acting) c.args.caller
    c.requires.within another (c.requires.held ∙ ap not another) c.requires.may.phase c.requires.may.gone

pub returns-then-not-is_caller-clause-sets : goal.returns-then-not-is_caller-clause-sets
returns-then-not-is_caller-clause-sets c =
    sets_open c.args.turn.now.in_order c.requires.may.acting c.open_gate.ensures c.requires.within

pub returns-then-not-is_caller-clause-gone : goal.returns-then-not-is_caller-clause-gone
returns-then-not-is_caller-clause-gone c =
    let sets = returns-then-not-is_caller-clause-sets c in
    reached_there sets (λ (x : PassState). is_run_gone (now_of x).words (now_of x).seats.holding.freed ≡ true)
    (still_gone sets.does c.args.turn.now.in_order c.open_gate.new.self.in_order c.requires.may.gone)

pub returns-else-not-is_caller-clause-sets : goal.returns-else-not-is_caller-clause-sets
returns-else-not-is_caller-clause-sets c =
    let p : PassState = c.args.turn.now.pass in
    let own : is_number_of p.seat c.args.caller ≡ true =
    cc (c.seat.ensures, c.is_caller.ensures, c.if-not-is_caller.false) in
    set_nothing is_settling p c.args.caller (c.requires.held ∙ ap not own)
