use Rattle.mk_clients.proofs.moves.takes_out_of_global.Goals as goal
use Rattle.mk_clients.proofs.Sameness.{may_compare, told_of_other}

pub same-requires-clause-admitted : goal.same-requires-clause-admitted
same-requires-clause-admitted c =
    let ad = c.requires.admitted in
    may_compare c.args.d c.args.x ad.of_a_caller ad.in_range.0 c.requires.register
    c.in_ok-get_global.ensures.called.called

pub returns : goal.returns
returns c =
    told_of_other _ _ _ c.same.result c.args.d c.args.g c.args.x c.requires.admitted c.requires.register
    c.requires.another c.in_ok-get_global.ensures.called c.same.ensures.called c.same.ensures.tells
