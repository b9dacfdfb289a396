use Rattle.mk_words.proofs.Below.Laws.Vocabulary.{Word}
use Rattle.mk_cycle.proofs.roots_beside.mark_registers_held.Goals as goal
use Rattle.mk_cycle.proofs.MarksBeside.{goes_then, looked_on, may_on, on_looked}

pub open_gate-requires-clause-may : goal.open_gate-requires-clause-may
open_gate-requires-clause-may g c =
    may_on c.requires.may (goes_then c.hold_beside-was_open.ensures.sets.on c.mark_registers_of.ensures.on)

pub returns-then-was_open-clause-on : goal.returns-then-was_open-clause-on
returns-then-was_open-clause-on g c =
    goes_then (goes_then c.hold_beside-was_open.ensures.sets.on c.mark_registers_of.ensures.on) c.open_gate.ensures.on

pub returns-then-was_open-clause-looked : goal.returns-then-was_open-clause-looked
returns-then-was_open-clause-looked g c r few =
    let x = Word.Reg c.args.caller r in
    let marked = c.mark_registers_of.ensures in
    looked_on x (goes_then c.hold_beside-was_open.ensures.sets.on marked.on) c.open_gate.ensures.on
    (on_looked x c.hold_beside-was_open.ensures.sets.on marked.on (marked.looked r few))

pub returns-else-was_open-clause-on : goal.returns-else-was_open-clause-on
returns-else-was_open-clause-on g c = goes_then c.hold_beside-was_open.ensures.sets.on c.mark_registers_of.ensures.on

pub returns-else-was_open-clause-looked : goal.returns-else-was_open-clause-looked
returns-else-was_open-clause-looked g c r few =
    on_looked (Word.Reg c.args.caller r)
    c.hold_beside-was_open.ensures.sets.on c.mark_registers_of.ensures.on (c.mark_registers_of.ensures.looked r few)
