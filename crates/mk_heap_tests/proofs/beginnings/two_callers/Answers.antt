use Rattle.mk_run.proofs.Below.Laws.Vocabulary.{Config, ap, length, subst, sym, ◌<◌, ◌∙◌}
use Rattle.mk_heap_tests.proofs.JoinedHosts.{first_of, second_of}
use Rattle.mk_heap_tests.proofs.beginnings.two_callers.Goals as goal

pub returns-clause-host : goal.returns-clause-host
returns-clause-host c = cc (c.in_ok-heap.ensures.host, c.caller.ensures.host, c.caller-2.ensures.host)

pub returns-clause-callers : goal.returns-clause-callers
returns-clause-callers c =
    let w = c.in_ok-heap.heap in
    let h = c.in_ok-heap.host in
    let made = c.in_ok-heap.ensures in
    record {
      two = ap (λ (d : Config). d.callers) made.config ∙ c.requires.two;
      ty = subst (λ (d : Config). 0 < length d.types) (sym made.config) c.requires.ty;
      first = first_of w h c.caller.result c.finish-first.result made.host c.caller.ensures.caller
          c.finish-first.ensures.pass c.finish-first.ensures.idle;
      second = second_of w h c.caller.new.self c.caller-2.result c.finish-second.result made.host
          c.caller.ensures.host c.caller-2.ensures.caller c.finish-second.ensures.pass c.finish-second.ensures.idle;
    }
