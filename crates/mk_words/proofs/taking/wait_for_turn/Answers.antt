use Rattle.mk_words.proofs.taking.wait_for_turn.Goals as goal
use Rattle.mk_words.proofs.Waiting.{waits_more}

pub waiting-preserved : goal.waiting-preserved
waiting-preserved g c = record {
  enabled = c.in-Err.ensures.again;
  waits = waits_more c.args.home c.waiting.pass c.in-Err.back c.args.op c.waiting.invariant.waits
      c.in-Err.ensures.busy.makes;
}

pub returns-in-Ok-clause-takes : goal.returns-in-Ok-clause-takes
returns-in-Ok-clause-takes g c =
    record { waited = c.waiting.pass; waits = c.waiting.invariant.waits; takes = c.in-Ok.ensures.made }
