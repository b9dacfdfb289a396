use Rattle.mk_heap_tests.proofs.JoinedHosts.{holds_null, pass_after}
use Rattle.mk_heap_tests.proofs.callers.make_alone.Goals as goal

pub make_rounds-fine-requires-clause-null : goal.make_rounds-fine-requires-clause-null
make_rounds-fine-requires-clause-null c =
    rw c.new-caller.ensures.pass (holds_null c.requires.pass c.requires.exists)

pub returns : goal.returns
returns c =
    pass_after c.requires.pass c.new-caller.ensures c.make_rounds-fine.ensures.stays.is c.finish.ensures.pass
    c.finish.ensures.idle
