use Rattle.mk_run.proofs.Headline as headline
use Rattle.mk_run.proofs.laws.runs_keep_their_promises.Goals as goal

pub returns-clause-promises : goal.returns-clause-promises
returns-clause-promises _ = headline.runs_keep_their_promises

pub returns-clause-none_left : goal.returns-clause-none_left
returns-clause-none_left _ = headline.no_answer_is_left
