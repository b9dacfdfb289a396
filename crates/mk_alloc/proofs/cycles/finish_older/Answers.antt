use Rattle.mk_alloc.proofs.{Vocabulary.arith, UnsweptTurns.{finish_keeps, kinds_keep, kinds_then}}
use Rattle.mk_alloc.proofs.cycles.finish_older.Goals as goal

pub returns-then-is_cycle_on-clause-keeps : goal.returns-then-is_cycle_on-clause-keeps
returns-then-is_cycle_on-clause-keeps g c =
    let finished = c.finish_cycle-turn.ensures in
    kinds_then (λ x h. grind arith) c.is_cycle_on.ensures.looks.does
    (finish_keeps c.finish_cycle-turn.new.engine c.is_cycle_on.new.turn.in_order finished.law
    c.finish_cycle-turn.result.0.in_order.history finished.reached finished.told)

pub returns-else-is_cycle_on-clause-keeps : goal.returns-else-is_cycle_on-clause-keeps
returns-else-is_cycle_on-clause-keeps g c = kinds_keep (λ x h. grind arith) c.is_cycle_on.ensures.looks.does
