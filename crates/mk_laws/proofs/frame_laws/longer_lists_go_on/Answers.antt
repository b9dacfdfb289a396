use Rattle.mk_laws.proofs.FramesLongerLists.{longer_lists_go_on}
use Rattle.mk_laws.proofs.frame_laws.longer_lists_go_on.Goals as goal

pub returns : goal.returns
returns c = longer_lists_go_on
