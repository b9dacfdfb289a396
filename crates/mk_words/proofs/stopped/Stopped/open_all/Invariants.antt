use Rattle.mk_laws.proofs.Vocabulary.{◌-◌, ◌≤◌}
use Rattle.mk_words.proofs.Opening.{AreOpened}
use Rattle.mk_words.specs.Steps.{Opens, OthersMayOpen}
use Rattle.mk_words.proofs.stopped.Stopped.open_all.Given as goal

abbrev pub invariant-loop-caller : goal.invariant-loop-caller
invariant-loop-caller l = record {
  within : l.caller ≤ l.callers;
  opens : Opens l.fn.self.pass l.turn.pass;
  may : OthersMayOpen l.turn.pass l.caller;
  opened : AreOpened l.turn.pass l.caller;
}

abbrev pub decreases-loop-caller : goal.decreases-loop-caller
decreases-loop-caller l = l.callers - l.caller
