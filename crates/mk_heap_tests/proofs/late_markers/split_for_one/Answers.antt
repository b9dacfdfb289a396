use Rattle.mk_run.proofs.Below.Laws.Vocabulary.{ap}
use Rattle.mk_heap_tests.proofs.{Vocabulary.PassState, JoinedHosts.{caller_is_home, first_split, still_unused, unused}}
use Rattle.mk_heap_tests.proofs.LateMarkers.{host_after_splits, marker_is_home, marker_is_outside, marker_split}
use Rattle.mk_heap_tests.proofs.late_markers.split_for_one.Goals as goal

pub split-caller-requires-clause-here : goal.split-caller-requires-clause-here
split-caller-requires-clause-here c =
    caller_is_home c.args.config.now 0 c.requires.limits.callers.0 c.in_ok-words.ensures.pass

pub split-marker-requires-clause-here : goal.split-marker-requires-clause-here
split-marker-requires-clause-here c =
    marker_is_home c.args.config.now c.in_ok-words.host c.split-caller.new.pass (ap (λ (x : PassState). x.seats)
    c.in_ok-words.ensures.pass) (ap (λ (x : PassState). x.seats) c.split-caller.ensures.pass)

pub split-marker-requires-clause-out : goal.split-marker-requires-clause-out
split-marker-requires-clause-out c =
    marker_is_outside c.split-caller.new.pass
    (still_unused (unused c.in_ok-words.ensures.pass) c.split-caller.ensures.pass).seen

pub returns-clause-host : goal.returns-clause-host
returns-clause-host c =
    host_after_splits c.in_ok-words.ensures.pass c.split-caller.ensures.pass c.split-marker.ensures.pass

pub returns-clause-caller : goal.returns-clause-caller
returns-clause-caller c =
    first_split 0 c.split-caller.result (unused c.in_ok-words.ensures.pass) (rw (←
    c.in_ok-words.ensures.config) at c.requires.limits.callers.0) c.split-caller.ensures.made

pub returns-clause-marker : goal.returns-clause-marker
returns-clause-marker c =
    marker_split c.split-marker.result
    (still_unused (unused c.in_ok-words.ensures.pass) c.split-caller.ensures.pass) c.split-marker.ensures.made
