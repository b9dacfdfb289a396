use Rattle.clap.{proofs.WalkLemmas.{both}, specs.{Faults.is_free_app, Words.{app_of, built, is_simple}}}
use Rattle.mk_outputs.proofs.arguments.found_in.Goals as goal

pub returns-in-Ok : goal.returns-in-Ok
returns-in-Ok c =
    let simple = both (is_simple (app_of c.args.command)) (is_free_app (built (app_of c.args.command))) c.requires in
    (c.in-Ok.ensures.kinds c.requires, (c.in-Ok.ensures.matches simple.0).0)
