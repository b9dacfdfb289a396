use Rattle.mk_jobs.proofs.RunVocabulary.{Clears, IsReady, OwnAreExact}
use Rattle.mk_jobs.proofs.going.forget.Given as goal

abbrev pub invariant-loop-register : goal.invariant-loop-register
invariant-loop-register g l = record {
  ready : IsReady g.O.Object.plan g.E.Engine.made_for l.caller l.engine;
  clears : Clears l.fn.caller.pass l.register l.caller.pass;
  exact : OwnAreExact g.E.Engine.ways.on l.fn.caller.pass → OwnAreExact g.E.Engine.ways.on l.caller.pass;
}
