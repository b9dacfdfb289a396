use Rattle.mk_jobs.proofs.RunVocabulary.{GoesToPoint, HoldsAt, IsReady, OwnAreExact, value_of}
use Rattle.mk_jobs.proofs.going.go.Given as goal

abbrev pub invariant-points : goal.invariant-points
invariant-points g l = record {
  ready : IsReady g.O.Object.plan g.E.Engine.made_for l.caller l.engine;
  goes : GoesToPoint g.O.Object.plan l.fn.caller.pass l.fn.from l.caller.pass l.point;
  holds : HoldsAt g.O.Object.plan (value_of l.caller.pass) l.point;
  exact : OwnAreExact g.E.Engine.ways.on l.fn.caller.pass → OwnAreExact g.E.Engine.ways.on l.caller.pass;
}
