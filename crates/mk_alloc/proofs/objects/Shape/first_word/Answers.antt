use Rattle.std.proofs.Math.Nat.{mul-le-mul}
use Rattle.mk_caller.proofs.Below.Laws.Vocabulary.{arith, ◌*◌, ◌≤◌}
use Rattle.mk_alloc.proofs.objects.Shape.first_word.Goals as goal
use Rattle.mk_alloc.proofs.objects.Shape.first_word.Goals.{After-class_words}
use Rattle.mk_geom.proofs.ClassTable.{class_words_within}

-- a cell begins within the page
within : (c : After-class_words) → c.args.index * c.class_words.result ≤ 64 * 32
within c = grind (arith, class_words_within, mul-le-mul)

pub overflow_mul-result : goal.overflow_mul-result
overflow_mul-result c = let w = within (goal.at.overflow_mul-result c).After-class_words in omega arith

pub returns-then-is_small-clause-few : goal.returns-then-is_small-clause-few
returns-then-is_small-clause-few c = grind (arith, within)
