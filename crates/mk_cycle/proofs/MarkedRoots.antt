-- All roots are marked in what was seen since.
use Rattle.mk_words.proofs.Below.Laws.Vocabulary.{Word, arith, true, ◌≡◌}
use Rattle.mk_cycle.proofs.Since.{since_is}
use Rattle.mk_cycle.specs.{Beside.{LooksAt, MarksBeside, MarksRoots}, Stops.is_root}
use Rattle.mk_core.specs.Conditions.{is_word}
use Rattle.mk_cycle.specs.BeginCycle.{IsBegun}
use Rattle.mk_words.specs.States.{PassState}

pub marks_roots : {p q : PassState} → MarksBeside p q
    → ((x : Word) → is_root x ≡ true → is_word p.table.config x ≡ true → LooksAt x p q) → IsBegun MarksRoots p q
marks_roots marks looked = grind (arith, since_is)
