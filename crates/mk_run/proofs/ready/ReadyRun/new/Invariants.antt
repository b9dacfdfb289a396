use Rattle.std.proofs.Common.{slice_get}
use Rattle.mk_heap.proofs.Below.Laws.Vocabulary.{Some, length, ◌+◌, ◌≡◌}
use Rattle.mk_run.proofs.Vocabulary.{IsReadyScript}
use Rattle.mk_run.proofs.ready.ReadyRun.new.Given as goal

abbrev pub invariant-loop-script : goal.invariant-loop-script
invariant-loop-script g l = record {
  count : length l.scripts.items ≡ l.script;
  each : (i : _) (ready : _) → slice_get l.scripts.items i ≡ Some ready
      → IsReadyScript g.E.Engine.made_for l.program l.config.pages (0 + i) ready;
}
