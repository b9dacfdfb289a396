use Rattle.mk_check.{proofs.Vocabulary.{drop, fault_from, take, ◌+◌, ◌≡◌}, specs.Typing.{first_typing_fault}}
use Rattle.mk_check.proofs.checking.check_lines.Given as goal

abbrev pub invariant-loop-place : goal.invariant-loop-place
invariant-loop-place l = record {
  read : l.lookups ≡ record { program = l.items; count = l.place };
  no_fault : first_typing_fault l.items
      ≡ fault_from l.items (l.place + 1) (take l.place l.items) (drop l.place l.items);
}
