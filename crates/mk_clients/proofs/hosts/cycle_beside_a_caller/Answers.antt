use Rattle.mk_heap.proofs.Below.Laws.Vocabulary.{Caller, Config, IsWithinLimits, ap, subst, sym, [], ◌∙◌, ◌∷◌, ◌≡◌}
use Rattle.mk_heap.proofs.ClientSteps.{has_said_over, one_is_joined, pass_of_first, pass_of_later}
use Rattle.mk_heap.specs.{Hosts.HostState, Below.Words.States.PassState}
use Rattle.mk_clients.proofs.hosts.cycle_beside_a_caller.Goals as goal

pub clear-requires-2-clause-whole : goal.clear-requires-2-clause-whole
clear-requires-2-clause-whole g c =
    let x = c.caller-caller in
    pass_of_later c.clear.new.caller.pass c.clear.ensures.pass
    (pass_of_first c.in_ok-heap.host x.result c.in_ok-heap.heap c.in_ok-heap.ensures.host
    (subst (λ (d : Config). IsWithinLimits d) (sym c.in_ok-heap.ensures.config) c.requires.limits) x.ensures.caller)

pub close-requires-clause-joined : goal.close-requires-clause-joined
close-requires-clause-joined g c =
    let first : HostState = c.in_ok-heap.host in
    let p : PassState = c.finish.result in
    let seats : p.seats ≡ Caller first.callers ∷ [] = ap (λ (r : PassState). r.seats)
    (c.finish.ensures.pass ∙ c.clear-2.ensures.pass) ∙ ap (λ (r : PassState). r.seats) c.clear.ensures.pass
    ∙ ap (λ (r : PassState). r.seats) c.caller-caller.ensures.caller.pass in
    one_is_joined c.in_ok-heap.heap first c.caller-caller.new.self c.cycle.new.self c.join_caller.new.self
    c.over.new.self p c.join_caller.new.self.pass.seen c.over.new.self.pass.seen c.in_ok-heap.ensures.host
    c.caller-caller.ensures.host c.cycle.ensures.host seats c.join_caller.ensures.host c.over.ensures.host

pub returns-clause-over : goal.returns-clause-over
returns-clause-over g c = cc (c.close.ensures.history, has_said_over c.over.ensures.over)
