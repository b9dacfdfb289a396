use Rattle.mk_laws.proofs.Vocabulary.{◌∙◌}
use Rattle.mk_replay.proofs.Pieces.{ends, glue_first, goes_on, no_end, tested}
use Rattle.mk_replay.proofs.lines.end_of_piece.Goals as goal

pub loop-end-init : goal.loop-end-init
loop-end-init c = glue_first c.args.text.now

pub returns-then-starts_with : goal.returns-then-starts_with
returns-then-starts_with c =
    let text = c.args.text.now in
    ends text c.loop-end.end c.loop-end-test.true (tested text _ _ _ c.as_slice.ensures c.starts_with.ensures.value
    ∙ c.if-starts_with.true) c.loop-end.invariant

pub loop-end-preserved : goal.loop-end-preserved
loop-end-preserved c =
    let text = c.args.text.now in
    goes_on text c.loop-end.end c.loop-end-test.true (tested text _ _ _ c.as_slice.ensures c.starts_with.ensures.value
    ∙ c.if-starts_with.false) c.loop-end.invariant

pub returns : goal.returns
returns c = no_end c.args.text.now c.loop-end.end c.loop-end-test.false c.loop-end.invariant
