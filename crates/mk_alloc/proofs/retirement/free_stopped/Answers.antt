use Rattle.mk_caller.proofs.Below.Laws.Vocabulary.{Steady, ap, arith, or_right, sym, ◌*◌, ◌+◌, ◌-◌, ◌<◌, ◌^◌, ◌∙◌, ◌≡◌}
use Rattle.mk_alloc.proofs.{ObjectVocabulary.{PassState, now_of}, LargeFrees.{frees_large, held_then, run_may}}
use Rattle.mk_alloc.proofs.retirement.free_stopped.Goals as goal
use Rattle.mk_alloc.proofs.{ClearedRuns.stopped_by, JoinedLooks.looks_left, SmallFrees.freed_now}

pub quarantine-requires-clause-gates : goal.quarantine-requires-clause-gates
quarantine-requires-clause-gates c = or_right _ _ (stopped_by c.args.turn.now.pass c.requires.held)

pub clear_run-requires-clause-held : goal.clear_run-requires-clause-held
clear_run-requires-clause-held c = grind (arith, freed_now)

pub clear_run-requires-clause-may : goal.clear_run-requires-clause-may
clear_run-requires-clause-may c =
    run_may c.args.count c.requires.free.may c.args.turn.now.in_order c.requires.run c.quarantine.ensures.freed

pub overflow_sub-held : goal.overflow_sub-held
overflow_sub-held c =
    let found : c.look_at.result ≡ (now_of c.args.turn.now.pass).words.held = c.look_at.ensures.finds
    ∙ c.clear_run.ensures.held ∙ ap (λ (x : Steady). x.held) (freed_now c.quarantine.ensures.freed).steady in
    let sum = held_then c.args.count c.requires.free.may c.args.turn.now.in_order c.requires.run in
    omega arith

pub returns : goal.returns
returns c =
    let p : PassState = c.args.turn.now.pass in
    let found : c.look_at.result ≡ (now_of c.args.turn.now.pass).words.held = c.look_at.ensures.finds
    ∙ c.clear_run.ensures.held ∙ ap (λ (x : Steady). x.held) (freed_now c.quarantine.ensures.freed).steady in
    let sum = held_then c.args.count c.requires.free.may c.args.turn.now.in_order c.requires.run in
    let taken : c.look_at.result - 64 * c.args.count + 64 * c.args.count ≡ (now_of p).words.held = omega arith in
    let fits : c.look_at.result - 64 * c.args.count < 2 ^ 64 = omega (arith, c.look_at.type_inv) in
    let fresh : c.look_at-fresh.result ≡ (now_of c.look_at-fresh.new.turn.pass).words.fresh =
    c.look_at-fresh.ensures.finds
    ∙ sym (ap (λ (x : Steady). x.fresh) (looks_left c.look_at-fresh.ensures.looks).steady) in
    frees_large c.args.count c.requires.free.may c.args.turn.now.in_order c.requires.run c.quarantine.ensures.freed
    c.clear_run.ensures c.look_at.ensures.looks c.set_tally.ensures c.look_at-fresh.ensures.looks
    c.due.result c.quarantine.ensures.once c.quarantine.new.turn.in_order c.clear_run.new.turn.in_order
    c.look_at-fresh.new.turn.in_order taken fresh fits c.due.ensures
