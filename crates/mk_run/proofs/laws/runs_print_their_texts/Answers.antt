use Rattle.mk_run.proofs.Headline as headline
use Rattle.mk_run.proofs.laws.runs_print_their_texts.Goals as goal

pub returns : goal.returns
returns _ = headline.runs_print_their_texts
