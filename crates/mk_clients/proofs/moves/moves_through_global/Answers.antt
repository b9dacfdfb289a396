use Rattle.mk_heap.proofs.Below.Callers.After.{still_caller}
use Rattle.mk_clients.proofs.moves.moves_through_global.Goals as goal
use Rattle.mk_clients.proofs.Sameness.{may_compare, may_get, told_of_global}

pub get_global-requires-clause-admitted : goal.get_global-requires-clause-admitted
get_global-requires-clause-admitted c =
    may_get c.args.d c.args.g c.args.p c.requires.admitted c.requires.register c.in_ok-set_global.ensures.called

pub same-requires-clause-admitted : goal.same-requires-clause-admitted
same-requires-clause-admitted c =
    let ad = c.requires.admitted in
    may_compare c.args.p c.args.d (still_caller c.in_ok-set_global.ensures.called ad.of_a_caller) ad.in_range.1
    c.requires.register c.in_ok-get_global.ensures.called.called

pub returns : goal.returns
returns c =
    told_of_global c.args.caller.now.pass c.set_global.new.self.pass c.get_global.new.self.pass c.same.new.self.pass
    c.same.result c.args.d c.args.g c.args.p c.requires.admitted c.requires.register c.requires.another
    c.in_ok-set_global.ensures.called c.in_ok-get_global.ensures.called c.same.ensures.called c.same.ensures.tells
