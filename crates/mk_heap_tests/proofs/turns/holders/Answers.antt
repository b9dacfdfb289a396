use Rattle.mk_run.proofs.Below.Laws.Vocabulary.{arith}
use Rattle.mk_heap_tests.proofs.{JoinedHosts.first_for, LateMarkers.host_may, NewTurns.may_free}
use Rattle.mk_heap_tests.proofs.turns.holders.Goals as goal

pub holder_told-caller_to_caller-requires-clause-first : goal.holder_told-caller_to_caller-requires-clause-first
holder_told-caller_to_caller-requires-clause-first c =
    may_free (first_for c.in_ok-words.ensures.callers.second) (omega (arith, c.in_ok-words.ensures.callers.two))

pub holder_told-caller_to_caller-requires-clause-other : goal.holder_told-caller_to_caller-requires-clause-other
holder_told-caller_to_caller-requires-clause-other c =
    may_free (first_for c.in_ok-words.ensures.callers.first) (omega (arith, c.in_ok-words.ensures.callers.two))

pub holder_told-host_to_caller-requires-clause-first : goal.holder_told-host_to_caller-requires-clause-first
holder_told-host_to_caller-requires-clause-first c = host_may c.in_ok-words-2.ensures.host

pub holder_told-host_to_caller-requires-clause-other : goal.holder_told-host_to_caller-requires-clause-other
holder_told-host_to_caller-requires-clause-other c =
    may_free (first_for c.in_ok-words-2.ensures.callers.first) (omega (arith, c.in_ok-words-2.ensures.callers.two))

pub holder_told-caller_to_host-requires-clause-first : goal.holder_told-caller_to_host-requires-clause-first
holder_told-caller_to_host-requires-clause-first c =
    may_free (first_for c.in_ok-words-3.ensures.callers.second) (omega (arith, c.in_ok-words-3.ensures.callers.two))

pub holder_told-caller_to_host-requires-clause-other : goal.holder_told-caller_to_host-requires-clause-other
holder_told-caller_to_host-requires-clause-other c = host_may c.in_ok-words-3.ensures.host
