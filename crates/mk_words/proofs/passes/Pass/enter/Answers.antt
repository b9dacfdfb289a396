use Rattle.mk_words.proofs.CallSteps.{enter_goes, enter_held, enter_keeps, enter_waits}
use Rattle.mk_words.proofs.passes.Pass.enter.Goals as goal

pub returns-then-found-eq0-clause-goes : goal.returns-then-found-eq0-clause-goes
returns-then-found-eq0-clause-goes c = enter_goes c.perform-found.ensures.told c.if-found-eq0.true

pub returns-then-found-eq0-clause-registers : goal.returns-then-found-eq0-clause-registers
returns-then-found-eq0-clause-registers c = enter_keeps c.perform-found.ensures.told

pub returns-else-found-eq0-clause-held : goal.returns-else-found-eq0-clause-held
returns-else-found-eq0-clause-held c = enter_held c.perform-found.ensures.told c.if-found-eq0.false

pub returns-else-found-eq0-clause-stays : goal.returns-else-found-eq0-clause-stays
returns-else-found-eq0-clause-stays c = enter_waits c.perform-found.ensures.told c.if-found-eq0.false

pub returns-else-found-eq0-clause-registers : goal.returns-else-found-eq0-clause-registers
returns-else-found-eq0-clause-registers c = enter_keeps c.perform-found.ensures.told
