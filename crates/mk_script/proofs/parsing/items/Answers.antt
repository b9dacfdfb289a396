use Rattle.mk_script.proofs.FirstLine.{from_first, no_line, no_more, shorter, some_byte}
use Rattle.mk_script.proofs.Vocabulary.{arith, at_end, items_of_lines, length, lines_of, subst, sym, ◌<◌, ◌∙◌, ◌≡◌}
use Rattle.mk_script.proofs.{Reading.{ended_badly, ended_well, step, stops_at}, parsing.items.Goals.After-drop-scope-7}
use Rattle.mk_script.proofs.parsing.items.Goals as goal

pub loop-rest-preserved : goal.loop-rest-preserved
loop-rest-preserved c =
    let so_far = c.loop-rest.invariant in
    let left = c.loop-rest.rest.now in
    let some : 0 < length left = some_byte left (sym c.is_empty-in-loop-rest.ensures ∙ c.loop-rest-test.true) in
    let read = c.in-Ok.ensures.line so_far.scope_of in
    record {
      scope_of = read.scope_of;
      decides = step left c.in-Ok.later.now some read c.in-Ok.ensures.later ∙ so_far.decides;
    }

pub loop-rest-smaller : goal.loop-rest-smaller
loop-rest-smaller c =
    let left = c.loop-rest.rest.now in
    let some : 0 < length left = some_byte left (sym c.is_empty-in-loop-rest.ensures ∙ c.loop-rest-test.true) in
    subst (λ later. length later < length left) (sym c.in-Ok.ensures.later) (shorter left some)

pub returns-in-Err-clause-fault : goal.returns-in-Err-clause-fault
returns-in-Err-clause-fault c = grind (arith, from_first, some_byte, stops_at)

ends : (c : After-drop-scope-7) → items_of_lines (lines_of c.args.text.now) ≡ at_end c.loop-rest.items.items
ends c =
    let so_far = c.loop-rest.invariant in
    from_first c.args.text.now (some_byte c.args.text.now (sym c.is_empty.ensures ∙ c.if-is_empty.false))
    ∙ sym so_far.decides
    ∙ no_more c.loop-rest.rest.now c.loop-rest.items.items
    (sym c.is_empty-in-loop-rest.ensures ∙ c.loop-rest-test.false)

pub returns-clause-items : goal.returns-clause-items
returns-clause-items c = ended_well (λ kept. kept.items) c.at_end.result _ (at_end c.loop-rest.items.items) (ends c)
    (c.at_end.ensures c.loop-rest.invariant.scope_of)

pub returns-clause-fault : goal.returns-clause-fault
returns-clause-fault c = ended_badly (λ kept. kept.items) c.at_end.result _ (at_end c.loop-rest.items.items) (ends c)
    (c.at_end.ensures c.loop-rest.invariant.scope_of)

pub returns-then-is_empty-clause-fault : goal.returns-then-is_empty-clause-fault
returns-then-is_empty-clause-fault c = λ _. no_line c.args.text.now (sym c.is_empty.ensures ∙ c.if-is_empty.true)
