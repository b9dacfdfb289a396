use Rattle.std.proofs.Common.{All}
use Rattle.mk_heap.proofs.Below.Laws.Vocabulary.{length, ◌≡◌}
use Rattle.mk_jobs.proofs.engines.equal_engines.Given as goal

abbrev pub invariant-loop-engine : goal.invariant-loop-engine
invariant-loop-engine g l = record {
  count : length l.engines.items ≡ l._engine;
  made : All (λ engine. g.E.Engine.made_for engine ≡ l.pages) l.engines.items;
}
