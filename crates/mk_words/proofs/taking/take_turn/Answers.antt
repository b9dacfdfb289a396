use Rattle.mk_words.proofs.taking.take_turn.Goals as goal
use Rattle.mk_words.proofs.Waiting.{takes_then, waits_more, waits_none}

pub returns-in-Ok-clause-takes : goal.returns-in-Ok-clause-takes
returns-in-Ok-clause-takes g c =
    record { waited = c.args.home; waits = waits_none c.args.home; takes = c.in-Ok.ensures.made }

pub returns-in-Err-clause-takes : goal.returns-in-Err-clause-takes
returns-in-Err-clause-takes g c =
    takes_then
    (waits_more c.args.home c.args.home c.in-Err.back c.args.op (waits_none c.args.home) c.in-Err.ensures.busy.makes)
    c.wait_apart.ensures.takes
