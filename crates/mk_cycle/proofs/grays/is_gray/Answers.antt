use Rattle.mk_words.proofs.Below.Laws.Vocabulary.{Bool, arith, false, not, refl, sym, true, ◌∙◌, ◌≡◌}
use Rattle.mk_cycle.proofs.grays.is_gray.Goals as goal
use Rattle.mk_cycle.proofs.NotedCells.{noted_gray}

isnt : (b : Bool) → not b ≡ true → b ≡ false
isnt true e = sym e
isnt false e = refl

pub returns-clause-black : goal.returns-clause-black
returns-clause-black c is = grind arith

pub returns-clause-gray : goal.returns-clause-gray
returns-clause-gray c is =
    noted_gray c.look_at.result
    c.requires.noted c.look_at.ensures.found (sym c.has_cell.ensures ∙ isnt c.has_cell.result is)
