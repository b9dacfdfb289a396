use Rattle.mk_script.proofs.Pushed.{last_turned}
use Rattle.mk_script.proofs.scope.begin_else.Goals as goal

pub returns-in-Some : goal.returns-in-Some
returns-in-Some c = last_turned c.args.blocks.now.items c.args.blocks.now.len c.args.blocks.now.ok.0
