use Rattle.mk_heap_tests.proofs.JoinedHosts.{alone_in, two_are_joined}
use Rattle.mk_heap_tests.proofs.beginnings.close.Goals as goal

pub join_caller-requires-clause-alone : goal.join_caller-requires-clause-alone
join_caller-requires-clause-alone c = alone_in c.requires.second

pub join_caller-requires-2-clause-alone : goal.join_caller-requires-2-clause-alone
join_caller-requires-2-clause-alone c = alone_in c.requires.first

pub close-requires-clause-joined : goal.close-requires-clause-joined
close-requires-clause-joined c =
    two_are_joined _ c.join_caller-2.new.self.pass.seen c.requires.host c.requires.second c.requires.first
    c.join_caller.ensures.host c.join_caller-2.ensures.host
