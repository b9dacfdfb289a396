use Rattle.std.proofs.Common.{below_more}
use Rattle.mk_words.proofs.Below.Laws.Vocabulary.{Word, arith}
use Rattle.mk_cycle.proofs.roots_beside.mark_registers.Goals as goal
use Rattle.mk_cycle.proofs.MarksBeside.{gates_at_once, gates_on, goes_nowhere, goes_then, looked_on, on_looked}

pub loop-caller-init : goal.loop-caller-init
loop-caller-init g c = grind (arith, goes_nowhere, gates_at_once)

pub loop-caller-preserved : goal.loop-caller-preserved
loop-caller-preserved g c =
    let v = c.mark_caller.new.turn in
    let before = c.loop-caller.invariant in
    record {
      on = goes_then before.on c.mark_caller.ensures.on;
      gates = gates_on v before.on before.gates c.mark_caller.ensures.gates;
      looked =
          below_more _ _ (λ k lt r few. looked_on (Word.Reg k r) before.on c.mark_caller.ensures.on
          (before.looked k lt r few)) (λ r few. on_looked
          (Word.Reg c.loop-caller.caller r) before.on c.mark_caller.ensures.on (c.mark_caller.ensures.looked r few));
    }
