use Rattle.mk_caller.proofs.Below.Laws.Vocabulary.{arith, sym, true≢false, ◌∙◌}
use Rattle.mk_alloc.proofs.ObjectVocabulary.{SetsGates, all_others, is_holding}
use Rattle.mk_alloc.proofs.{retirement.free_run.Goals.After-hold_gates, DecidedFrees.{frees_behind, gates_prepare}}
use Rattle.mk_alloc.proofs.{LargeFrees.heads_some, Retirements.{free_acting, still_may}}
use Rattle.mk_alloc.proofs.SetGates.{acting_ready, gates_held, run_still, such_sets, such_values}
use Rattle.mk_alloc.proofs.retirement.free_run.Goals as goal

pub hold_gates-requires-clause-ready : goal.hold_gates-requires-clause-ready
hold_gates-requires-clause-ready g c = acting_ready c.args.turn.now.pass (free_acting c.requires.free)

-- The gates of all others are held.
sets : (g : _) (c : After-hold_gates g)
    → SetsGates is_holding c.args.turn.now.pass (all_others c.args.turn.now.pass.seat) c.hold_gates.new.turn.pass
sets g c =
    such_sets (free_acting c.requires.free) c.requires.free.one_table c.requires.gates c.hold_gates.ensures.steps
    c.hold_gates.ensures.held

pub free_stopped-requires-clause-free : goal.free_stopped-requires-clause-free
free_stopped-requires-clause-free g c =
    let x = (goal.at.free_stopped-requires-clause-free g c).After-hold_gates in
    still_may (gates_prepare (sets g x)) (such_values (free_acting c.requires.free) c.hold_gates.ensures.steps)
    c.requires.free

pub free_stopped-requires-clause-held : goal.free_stopped-requires-clause-held
free_stopped-requires-clause-held g c =
    let set = sets g (goal.at.free_stopped-requires-clause-held g c).After-hold_gates in
    gates_held set

pub free_stopped-requires-clause-run : goal.free_stopped-requires-clause-run
free_stopped-requires-clause-run g c =
    let set = sets g (goal.at.free_stopped-requires-clause-run g c).After-hold_gates in
    run_still set c.requires.run

pub returns : goal.returns
returns g c =
    let x = (goal.at.returns g c).After-hold_gates in
    frees_behind (gates_prepare (sets g x)) (λ x h. grind arith)
    (λ no_run. absurd (true≢false (sym (heads_some _ _ _ c.requires.run) ∙ no_run))) (λ x h. grind arith)
    c.args.turn.now.in_order c.hold_gates.new.turn.in_order c.free_stopped.ensures
