use Rattle.mk_check.proofs.{Vocabulary.{KeptState, Place, ap, with_kept, ◌∙◌}, NextRounds.kept_left}
use Rattle.mk_check.{proofs.Sequels.{number_at_end, number_at_line}, specs.Steps.{with_value}}
use Rattle.mk_check.proofs.feeding.running.Running.take_number_at_once.Goals as goal

pub returns-clause-taken : goal.returns-clause-taken
returns-clause-taken c =
    let at = c.args.sequels.now.next in
    λ t. number_at_line c.args.tree.now c.requires.tree c.requires.within c.args.sequels.now
    c.requires.sequels c.args.value _ c.in-Asks.is
    (ap (λ (q : Place). let x : Place = record q { at = at } in x) (c.self.view_is ∙ c.set-2.ensures))

pub returns-then-left-clause-taken : goal.returns-then-left-clause-taken
returns-then-left-clause-taken c =
    let number = c.args.sequels.now.register in
    let l = c.leave_to_op-left.ensures.left c.if-left.true in
    let q = c.leave_to_op-left.new.self in
    let same = ap (λ (k : KeptState). with_kept q (with_value k number c.args.value)) (kept_left l.leaves) in
    λ t. number_at_end c.args.tree.now c.requires.tree c.requires.within c.args.sequels.now
    c.requires.sequels c.args.value c.set.new.self c.in-Ends.is l (c.set.ensures ∙ same)
