use Rattle.mk_script.{proofs.Vocabulary.{items_behind, length, lines_of, [], ◌≡◌}, specs.Lines.{IsScopeOf}}
use Rattle.mk_script.proofs.parsing.items.Given as goal

-- the items so far are of the lines so far, and the text that is left decides
abbrev pub invariant-loop-rest : goal.invariant-loop-rest
invariant-loop-rest l = record {
  scope_of : IsScopeOf l.scope l.items.items;
  decides : items_behind (lines_of l.rest) l.items.items ≡ items_behind (lines_of l.fn.text) [];
}

abbrev pub decreases-loop-rest : goal.decreases-loop-rest
decreases-loop-rest l = length l.rest
