use Rattle.mk_words.proofs.Below.Laws.Vocabulary.{subst, sym, ◌<◌}
use Rattle.mk_cycle.proofs.steps_beside.open_gate.Goals as goal
use Rattle.mk_cycle.proofs.BesideSteps.{goes_open, may_open, open_others, opened}
use Rattle.mk_words.specs.States.{WordsState}

pub open_gate-requires-clause-enabled : goal.open_gate-requires-clause-enabled
open_gate-requires-clause-enabled c =
    let may = c.requires.may in
    may_open c.args.turn.now.in_order may.ready c.args.caller (subst
    (λ (w : WordsState). c.args.caller < w.config.callers) (sym may.one_table) may.within) may.another c.requires.held

pub returns : goal.returns
returns c = record {
  on = goes_open c.args.turn.now c.open_gate.new.self c.requires.may.ready c.open_gate.ensures;
  others = open_others c.open_gate.ensures;
  set = opened c.open_gate.ensures;
}
