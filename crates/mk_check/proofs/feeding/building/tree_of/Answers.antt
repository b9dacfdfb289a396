use Rattle.mk_check.proofs.Vocabulary.{List, ap, arith, with_element, ◌+◌, ◌-◌, ◌∙◌}
use Rattle.mk_check.{proofs.NumberedParts.parts_before_more, specs.Building.StepPart}
use Rattle.mk_check.proofs.feeding.building.tree_of.Goals as goal

pub loop-index-preserved : goal.loop-index-preserved
loop-index-preserved c =
    let i = c.loop-index.index - 1 in
    let e = c.index-elements-index.result in
    record {
      sound = c.in_ok-add.ensures.sound;
      parts = c.in_ok-add.ensures.parts
          ∙ ap (λ (ps : List StepPart). with_element (c.args.line + i) e ps) c.loop-index.invariant.parts
          ∙ parts_before_more c.args.line i c.loop-index.index c.args.elements.now e (omega arith)
          c.index-elements-index.is (omega arith);
    }
