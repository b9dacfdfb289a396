use Rattle.mk_check.proofs.Vocabulary.{drop, length, script_from, script_names, script_of, ◌+◌, ◌-◌, ◌≡◌, ◌≤◌}
use Rattle.mk_check.proofs.scripts.script_at.Given as goal

abbrev pub invariant-loop-index : goal.invariant-loop-index
invariant-loop-index l = record {
  counted : l.before ≤ l.k;
  all : l.before + length (script_names (drop l.index l.items)) ≡ length (script_names l.items);
  same : script_from (l.index + 1) (l.k - l.before) (drop l.index l.items) ≡ script_of l.items l.k;
}
