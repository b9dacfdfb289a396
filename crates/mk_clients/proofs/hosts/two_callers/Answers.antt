use Rattle.mk_heap.proofs.Below.Laws.Vocabulary.{Config, arith, subst, sym, ◌≤◌}
use Rattle.mk_heap.proofs.ClientSteps.{behind_one, pass_of_next}
use Rattle.mk_clients.proofs.hosts.two_callers.Goals as goal

pub clear-requires-2-clause-whole : goal.clear-requires-2-clause-whole
clear-requires-2-clause-whole c =
    let w = c.in_ok-heap.heap in
    let g = c.caller-first.new.self in
    let one = behind_one c.in_ok-heap.host g w c.in_ok-heap.ensures.host c.caller-first.ensures.host in
    let few : 2 ≤ w.config.callers =
    subst (λ (d : Config). 2 ≤ d.callers) (sym c.in_ok-heap.ensures.config) c.requires.two in
    let first = one.0 in
    pass_of_next g c.caller-second.result w c.caller-second.ensures.caller one.1 (omega arith)
