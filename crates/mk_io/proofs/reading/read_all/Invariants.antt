use Rattle.std.proofs.Common.{true, vec_len, ◌+◌, ◌-◌, ◌≡◌, ◌≤◌}
use Rattle.mk_io.specs.Bytes.{Takes, longest_input}
use Rattle.mk_io.proofs.reading.read_all.Given as goal

abbrev pub invariant-loop-count : goal.invariant-loop-count
invariant-loop-count g l = record {
  within : vec_len l.bytes ≤ longest_input;
  taken : Takes (g.S.Source.left l.fn.source) (g.S.Source.left l.source) l.bytes.items;
  sound : g.S.Source.never_fails l.fn.source ≡ true → g.S.Source.never_fails l.source ≡ true;
  no_fault : g.S.Source.faults l.source ≡ g.S.Source.faults l.fn.source;
}

abbrev pub decreases-loop-count : goal.decreases-loop-count
decreases-loop-count g l = longest_input + 1 - vec_len l.bytes
