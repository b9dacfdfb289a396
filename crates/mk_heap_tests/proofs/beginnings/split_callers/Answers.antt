use Rattle.mk_run.proofs.Below.Laws.Vocabulary.{Caller, Config, ap, arith, length, refl, subst, sym, ◌<◌, ◌∙◌}
use Rattle.mk_heap_tests.proofs.JoinedHosts.{caller_is_home, first_split, still_unused, unused}
use Rattle.mk_heap_tests.proofs.LateMarkers.{host_after_splits}
use Rattle.mk_run.proofs.Below.Words.Seats.{without_keeps}
use Rattle.mk_heap_tests.proofs.beginnings.split_callers.Goals as goal

pub split-first-requires-clause-here : goal.split-first-requires-clause-here
split-first-requires-clause-here c =
    caller_is_home c.args.config.now 0 (let two = c.requires.two in omega arith) c.in_ok-words.ensures.pass

pub split-second-requires-clause-here : goal.split-second-requires-clause-here
split-second-requires-clause-here c =
    rw c.split-first.ensures.pass (without_keeps (Caller 0) c.in_ok-words.host.seats (Caller 1) refl
    (caller_is_home c.args.config.now 1 (let two = c.requires.two in omega arith) c.in_ok-words.ensures.pass))

pub returns-clause-host : goal.returns-clause-host
returns-clause-host c =
    host_after_splits c.in_ok-words.ensures.pass c.split-first.ensures.pass c.split-second.ensures.pass

pub returns-clause-callers : goal.returns-clause-callers
returns-clause-callers c =
    let config = c.in_ok-words.ensures.config in
    let two = ap (λ (d : Config). d.callers) config ∙ c.requires.two in
    let first = unused c.in_ok-words.ensures.pass in
    record {
      two = two;
      ty = subst (λ (d : Config). 0 < length d.types) (sym config) c.requires.ty;
      first = first_split 0 c.split-first.result first (omega arith) c.split-first.ensures.made;
      second = first_split 1 c.split-second.result (still_unused first c.split-first.ensures.pass) (omega arith)
          c.split-second.ensures.made;
    }
