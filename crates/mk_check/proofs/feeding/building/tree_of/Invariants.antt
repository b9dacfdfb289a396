use Rattle.mk_check.proofs.Vocabulary.{drop, parts_in, ◌+◌, ◌≡◌}
use Rattle.mk_check.specs.Building.{IsSoundlyBuilt, parts_before}
use Rattle.mk_check.proofs.feeding.building.tree_of.Given as goal

abbrev pub invariant-loop-index : goal.invariant-loop-index
invariant-loop-index l = record {
  sound : IsSoundlyBuilt l.builder;
  parts : parts_in l.builder ≡ parts_before (l.line + l.index) (drop l.index l.elements);
}
