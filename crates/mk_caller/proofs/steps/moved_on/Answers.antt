use Rattle.mk_words.proofs.Below.Laws.Vocabulary.{arith}
use Rattle.mk_caller.proofs.Stepping.{moved_within}
use Rattle.mk_caller.proofs.steps.moved_on.Goals as goal

pub overflow_mul-result : goal.overflow_mul-result
overflow_mul-result c =
    let r = c.requires in
    let within = moved_within r.underway r.stage r.access r.loaded r.some r.value r.offset in
    omega arith

pub overflow_add-result : goal.overflow_add-result
overflow_add-result c =
    let r = c.requires in
    let within = moved_within r.underway r.stage r.access r.loaded r.some r.value r.offset in
    omega arith

pub returns : goal.returns
returns c =
    let r = c.requires in
    let within = moved_within r.underway r.stage r.access r.loaded r.some r.value r.offset in
    omega arith
