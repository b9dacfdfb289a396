use Rattle.mk_words.proofs.Below.Laws.Vocabulary.{refl}
use Rattle.mk_cycle.proofs.roots.mark_group.Goals as goal
use Rattle.mk_cycle.proofs.{Notes.looks_alone, RootMarks.{before_well, next_root_noted, no_root_noted}}
use Rattle.mk_cycle.specs.Stops.{still_words}

pub returns-then-are_before_heap-clause-marks : goal.returns-then-are_before_heap-clause-marks
returns-then-are_before_heap-clause-marks c = looks_alone c.are_before_heap.ensures.looks

pub returns-then-are_before_heap-clause-well : goal.returns-then-are_before_heap-clause-well
returns-then-are_before_heap-clause-well c i lt =
    before_well c.args.table.words.now.config.pages (still_words c.are_before_heap.new.stop.pass) _
    (c.are_before_heap.ensures.before c.if-are_before_heap.true i lt)

pub loop-i-init : goal.loop-i-init
loop-i-init c = no_root_noted (looks_alone c.are_before_heap.ensures.looks)

pub loop-i-preserved : goal.loop-i-preserved
loop-i-preserved c = next_root_noted (λ j. refl) c.loop-i.invariant c.mark_root.ensures.marks c.mark_root.ensures.well
