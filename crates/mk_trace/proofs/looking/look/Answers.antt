use Rattle.mk_trace.proofs.{Vocabulary.CallerIsHome, ToldWords.{Reports, reports}, OneCaller.told_home}
use Rattle.mk_trace.proofs.looking.look.Goals.{After-tell-found}
use Rattle.mk_trace.proofs.looking.look.Goals as goal

home : (g : _) (c : After-tell-found g) → CallerIsHome c.args.heap.now c.tell-found.new.self
home g c =
    told_home c.tell-found.new.self c.requires.home c.tell-found.ensures.host c.tell-found.ensures.overs
    c.tell-found.ensures.tells.gives.pass.history

pub returns-clause-home : goal.returns-clause-home
returns-clause-home g c = home g (goal.at.returns-clause-home g c).After-tell-found

told : (g : _) (c : After-tell-found g) → Reports c.args.heap.now.config c.args.host.now.pass.seen c.args.word
    c.tell-found.result c.tell-found.new.self.pass.seen
told g c =
    reports c.requires.home c.tell-found.new.self (home g c) c.tell-found.ensures.tells c.tell-found.ensures.reached

pub returns-clause-looks : goal.returns-clause-looks
returns-clause-looks g c = (told g (goal.at.returns-clause-looks g c).After-tell-found).looks

pub returns-clause-tells : goal.returns-clause-tells
returns-clause-tells g c = (told g (goal.at.returns-clause-tells g c).After-tell-found).tells

pub returns-clause-holds : goal.returns-clause-holds
returns-clause-holds g c = (told g (goal.at.returns-clause-holds g c).After-tell-found).holds

pub returns-clause-counts : goal.returns-clause-counts
returns-clause-counts g c =
    let at = (goal.at.returns-clause-counts g c).After-tell-found in
    (told g at).counts (rw (home g at).table at c.is_in_order.ensures.tidy)
