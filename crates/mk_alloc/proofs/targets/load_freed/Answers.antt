use Rattle.mk_alloc.proofs.LoadedFrees.{load_admits, load_keeps, load_loads, load_may, load_meets, load_null}
use Rattle.mk_alloc.proofs.targets.load_freed.Goals as goal
use Rattle.mk_alloc.proofs.LoadedFrees.{load_reaches}

pub reg_load-requires-clause-enabled : goal.reg_load-requires-clause-enabled
reg_load-requires-clause-enabled c = load_may c.requires.unloaded c.args.turn.now.in_order

pub reg_load-requires-clause-admitted : goal.reg_load-requires-clause-admitted
reg_load-requires-clause-admitted c = load_admits c.requires.unloaded c.args.turn.now.in_order

pub reg_load-requires-clause-register : goal.reg_load-requires-clause-register
reg_load-requires-clause-register c = load_meets c.requires.unloaded

pub reg_load-requires-clause-loads : goal.reg_load-requires-clause-loads
reg_load-requires-clause-loads c = load_loads c.requires.unloaded

pub returns-clause-loaded : goal.returns-clause-loaded
returns-clause-loaded c =
    load_reaches c.requires.unloaded.small c.args.turn.now.in_order c.requires.unloaded c.reg_load.ensures.acts
    c.reg_load.ensures.own

pub returns-clause-keeps : goal.returns-clause-keeps
returns-clause-keeps c =
    λ some. load_keeps c.requires.unloaded.small c.args.turn.now.in_order c.requires.unloaded c.reg_load.ensures.acts
    c.reg_load.ensures.own some

pub returns-clause-null : goal.returns-clause-null
returns-clause-null c none = load_null c.args.turn.now.in_order c.requires.unloaded c.reg_load.ensures.own none
