use Rattle.mk_check.proofs.Vocabulary.{Place, ap}
use Rattle.mk_check.proofs.Sequels.{begins_fits, begins_within, none_at_end, none_at_line, none_at_repeat}
use Rattle.mk_check.proofs.feeding.running.Running.go_on_at_once.Goals as goal

pub begin_to_op-requires-clause-within : goal.begin_to_op-requires-clause-within
begin_to_op-requires-clause-within c =
    begins_within c.args.tree.now c.requires.tree c.requires.may.within _ c.requires.sequels c.in-Begins.is

pub begin_to_op-requires-clause-fits : goal.begin_to_op-requires-clause-fits
begin_to_op-requires-clause-fits c =
    begins_fits c.args.tree.now c.requires.tree c.requires.may.within _ c.requires.sequels c.in-Begins.is
    c.requires.may.fits

pub returns-in-Begins-clause-taken : goal.returns-in-Begins-clause-taken
returns-in-Begins-clause-taken c =
    λ t. none_at_repeat c.args.tree.now c.requires.tree c.requires.may.within _ c.requires.sequels c.args.answer
    c.requires.may.accepted c.in-Begins.is (c.begin_to_op.ensures.begun t)

pub returns-clause-taken : goal.returns-clause-taken
returns-clause-taken c =
    let at = c.args.sequels.now.next in
    λ t. none_at_line c.args.tree.now c.requires.tree c.requires.may.within c.args.sequels.now
    c.requires.sequels c.args.answer _ c.requires.may.accepted c.in-Asks.is
    (ap (λ (q : Place). let x : Place = record q { at = at } in x) c.self.view_is)

pub returns-in-Ends-clause-taken : goal.returns-in-Ends-clause-taken
returns-in-Ends-clause-taken c =
    λ t. none_at_end c.args.tree.now c.requires.tree c.requires.may.within c.args.sequels.now
    c.requires.sequels c.args.answer c.requires.may.accepted c.in-Ends.is (c.leave_to_op.ensures.left t)
