use Rattle.std.proofs.Common.{string_bytes}
use Rattle.mk_run.proofs.Below.Laws.Vocabulary.{drop, ◌*◌, ◌++◌, ◌+◌, ◌≡◌, ◌≤◌}
use Rattle.mk_outputs.{proofs.Summaries.all_ops, specs.RunOutputs.lines_from}
use Rattle.mk_outputs.proofs.summing.summary_of.Given as goal

abbrev pub invariant-loop-text : goal.invariant-loop-text
invariant-loop-text l = record {
  number : l.number ≡ l.text-index;
  small : l.total ≤ 750000 * l.text-index;
  lines : lines_from 0 l.texts ≡ string_bytes l.lines ++ lines_from l.text-index (drop l.text-index l.texts);
  total : all_ops l.texts ≡ l.total + all_ops (drop l.text-index l.texts);
}
