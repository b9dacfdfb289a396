use Rattle.mk_clients.proofs.moves.moves_through_memory.Goals as goal
use Rattle.mk_clients.proofs.Loading.{loads_stored, may_load}

pub get_num-requires-clause-admitted : goal.get_num-requires-clause-admitted
get_num-requires-clause-admitted c =
    may_load c.args.q c.args.i c.args.n c.requires.admitted c.in_ok-set_num.ensures.called

pub returns : goal.returns
returns c =
    loads_stored _ c.args.q c.args.i c.args.n c.requires.admitted.in_range c.in_ok-set_num.ensures.called
    c.get_num.result c.get_num.ensures.called
