use Rattle.mk_words.proofs.Below.Laws.Vocabulary.{refl}
use Rattle.mk_cycle.proofs.roots.mark_registers_of.Goals as goal
use Rattle.mk_cycle.proofs.{Notes.marks_nothing, RootMarks.{next_root_noted, no_root_noted}}

pub loop-register-init : goal.loop-register-init
loop-register-init c = no_root_noted (marks_nothing c.requires.may.wanted)

pub loop-register-preserved : goal.loop-register-preserved
loop-register-preserved c =
    next_root_noted (λ r. refl) c.loop-register.invariant c.mark_root.ensures.marks c.mark_root.ensures.well
