use Rattle.mk_run.proofs.Below.Laws.Vocabulary.{Host, Seat, ap, arith, is_number_of, subst, sym, ◌<◌, ◌∙◌, ◌≡◌}
use Rattle.mk_heap_tests.proofs.Vocabulary.{PassState, WordsState}
use Rattle.mk_run.proofs.{Below.Cycles.HoldingSteps.hold_allowed, Below.Heaps.ClientSteps.pass_of_later}
use Rattle.mk_run.proofs.Below.Heaps.Overs.{fresh_free}
use Rattle.mk_heap_tests.proofs.{JoinedHosts.none_is_held_at, JoinedHosts.pass_of, LateMarkers.host_may}
use Rattle.mk_heap_tests.proofs.gates.hold_first.Goals as goal

pub clear-before-requires-clause-whole : goal.clear-before-requires-clause-whole
clear-before-requires-clause-whole c =
    pass_of c.new-first.result c.requires.callers.first (omega (arith, c.requires.callers.two)) c.new-first.ensures

pub try_take-requires-clause-enabled : goal.try_take-requires-clause-enabled
try_take-requires-clause-enabled c = host_may c.requires.host

pub try_hold-requires-clause-enabled : goal.try_hold-requires-clause-enabled
try_hold-requires-clause-enabled c =
    let w : WordsState = c.args.split.0 in
    let q : PassState = c.in-Ok.turn.pass in
    let made = c.in-Ok.ensures.made.makes.is in
    let table : q.table ≡ w = ap (λ (x : PassState). x.table) made ∙ c.requires.host.table in
    let seat : q.seat ≡ Host = ap (λ (x : PassState). x.seat) made ∙ c.requires.host.seat in
    let some : 0 < q.table.config.callers =
    subst (λ (v : WordsState). 0 < v.config.callers) (sym table) (omega (arith, c.requires.callers.two)) in
    hold_allowed q c.in-Ok.turn.in_order (fresh_free c.in-Ok.ensures.fresh) 0 some
    (ap (λ (s : Seat). is_number_of s 0) seat) (none_is_held_at q 0 some c.in-Ok.ensures.fresh.gates)

pub clear-held-requires-clause-whole : goal.clear-held-requires-clause-whole
clear-held-requires-clause-whole c =
    pass_of_later c.clear-before.new.caller.pass c.clear-before.ensures.pass
    (pass_of c.new-first.result c.requires.callers.first (omega (arith, c.requires.callers.two)) c.new-first.ensures)

pub clear-beside-requires-clause-whole : goal.clear-beside-requires-clause-whole
clear-beside-requires-clause-whole c =
    pass_of c.new-second.result c.requires.callers.second (omega (arith, c.requires.callers.two)) c.new-second.ensures
