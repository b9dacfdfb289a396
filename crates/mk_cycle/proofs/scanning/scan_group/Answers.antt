use Rattle.mk_words.proofs.Below.Laws.Vocabulary.{ℕ, arith, first_word, slice_index, subst, ◌*◌, ◌+◌, ◌-◌, ◌<◌}
use Rattle.mk_cycle.proofs.scanning.scan_group.Goals as goal
use Rattle.mk_cycle.proofs.{Notes.looks_alone, RootMarks.before_well, ScannedWords.{due_same, none_scanned, scans_then}}
use Rattle.mk_cycle.specs.Stops.{still_words}

pub are_before_heap-requires-clause-part : goal.are_before_heap-requires-clause-part
are_before_heap-requires-clause-part c i lt = let part = c.requires.part in omega arith

pub returns-then-are_before_heap : goal.returns-then-are_before_heap
returns-then-are_before_heap c =
    let look = c.are_before_heap.ensures in
    let w = still_words c.args.stop.now.pass in
    let first : ℕ = 8 * c.args.group in
    record {
      marks = looks_alone look.looks;
      well = λ k le lt. before_well c.args.table.pages (still_words c.are_before_heap.new.stop.pass) _
          (subst (λ i. slice_index w.heap (first_word w c.args.gray.cell + i) < 65536) (omega arith)
          (look.before c.if-are_before_heap.true (k - first) (omega arith)));
    }

pub scan_words-requires-clause-due : goal.scan_words-requires-clause-due
scan_words-requires-clause-due c = due_same c.requires.due c.are_before_heap.ensures.looks.words

pub scan_words-requires-clause-part : goal.scan_words-requires-clause-part
scan_words-requires-clause-part c i lt = let part = c.requires.part in omega arith

pub returns : goal.returns
returns c =
    scans_then {i = 8 * c.args.group} (none_scanned (omega arith) (looks_alone c.are_before_heap.ensures.looks))
    c.scan_words.ensures
