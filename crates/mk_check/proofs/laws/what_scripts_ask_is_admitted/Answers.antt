use Rattle.mk_check.proofs.AdmittedScripts.{scripts_are_admitted}
use Rattle.mk_check.proofs.laws.what_scripts_ask_is_admitted.Goals as goal

pub returns : goal.returns
returns c = scripts_are_admitted
