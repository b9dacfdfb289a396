use Rattle.mk_caller.proofs.Accessing.{begins, null_ends, null_value}
use Rattle.mk_caller.proofs.accesses.begin_access.Goals as goal

pub returns-then-u-eq0-clause-refused : goal.returns-then-u-eq0-clause-refused
returns-then-u-eq0-clause-refused c = (
  null_ends c.load-u.result c.requires.access c.if-u-eq0.true c.in-Ok.ensures.moves c.load-u.ensures.moves
      c.refuse.ensures,
  null_value c.args.q c.requires.ready c.requires.access c.requires.from c.in-Ok.ensures.moves
      (c.load-u.ensures.null.0 c.if-u-eq0.true),
)

pub returns-else-u-eq0-clause-begun : goal.returns-else-u-eq0-clause-begun
returns-else-u-eq0-clause-begun c = begins c.load-u.result c.requires.access c.if-u-eq0.false c.in-Ok.ensures.moves
    c.load-u.ensures.moves
