use Rattle.mk_check.proofs.{AsksFirst.left_to_op, TreeNodes.found_at}
use Rattle.mk_check.proofs.feeding.running.Running.resume.Goals as goal

pub returns-in-Done : goal.returns-in-Done
returns-in-Done c =
    let e = c.in-Done.ensures in
    left_to_op _ c.leave.new.self c.leave.result (found_at c.self.view_is e.tree c.requires.within e.value)
    c.requires.first c.leave.ensures.left c.leave.ensures.none
