use Rattle.mk_run.proofs.Headline as headline
use Rattle.mk_run.proofs.laws.runs_stand_in_one_history.Goals as goal

pub returns : goal.returns
returns _ = headline.runs_stand_in_one_history
