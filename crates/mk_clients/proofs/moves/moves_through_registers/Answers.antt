use Rattle.mk_clients.proofs.moves.moves_through_registers.Goals as goal
use Rattle.mk_clients.proofs.Sameness.{may_compare, moved_same, told}

pub same-requires-clause-admitted : goal.same-requires-clause-admitted
same-requires-clause-admitted c =
    let ad = c.requires.admitted in
    may_compare c.args.d c.args.q ad.of_a_caller ad.in_range.0 ad.in_range.1 c.in_ok-move_ptr.ensures.called

pub returns : goal.returns
returns c =
    told c.same.result _ c.same.ensures.tells (moved_same c.args.d c.args.q c.requires.admitted
    c.in_ok-move_ptr.ensures.called)
