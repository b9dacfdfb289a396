use Rattle.mk_check.proofs.Vocabulary.{drop, length, number_of_name, ◌+◌, ◌≡◌, ◌≤◌}
use Rattle.mk_check.proofs.name_table.NameTable.number_of.Given as goal

-- no name before this place is it
abbrev pub invariant-loop-place : goal.invariant-loop-place
invariant-loop-place l =
    (l.place ≤ length l.self) × (l.place + number_of_name l.name (drop l.place l.self) ≡ number_of_name l.name l.self)
