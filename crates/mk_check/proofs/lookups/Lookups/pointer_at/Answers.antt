use Rattle.mk_check.proofs.Vocabulary.{ap, around, pointer_at, ◌∙◌}
use Rattle.mk_check.specs.Typing.{Reading}
use Rattle.mk_check.proofs.lookups.Lookups.pointer_at.Goals as goal

pub returns : goal.returns
returns c =
    c.pointer_at.ensures _ c.self.invariant.2
    ∙ ap (λ (r : Reading). pointer_at c.args.name.now (around r).script) c.self.view_is
