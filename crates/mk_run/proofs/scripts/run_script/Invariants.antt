use Rattle.mk_heap.proofs.Below.Laws.Vocabulary.{true, ◌≡◌, ◌≤◌}
use Rattle.mk_check.specs.Feeding.{work_left}
use Rattle.mk_run.{proofs.{ScriptCalls.IsRunning, Vocabulary.PassKeeps}, specs.Running.{script_of}}
use Rattle.mk_run.proofs.scripts.run_script.Given as goal
use Rattle.std.specs.Prelude.{false}

abbrev pub invariant-instructions : goal.invariant-instructions
invariant-instructions g l = record {
  home : l.caller.home ≡ true;
  running : IsRunning g.E.Engine.ways.on l.fn.program l.fn.k l.fn.caller.pass l.caller.pass (script_of l.feed l.counts);
  made_for : g.E.Engine.made_for l.engine ≡ g.E.Engine.made_for l.fn.ready.engine;
  refused : l.counts.refused ≤ l.counts.ops;
  keeps : PassKeeps false g.E.Engine.ways
      l.fn.caller.pass l.caller.pass;
}

abbrev pub decreases-instructions : goal.decreases-instructions
decreases-instructions g l = work_left l.feed
