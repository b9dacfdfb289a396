-- Closed marks along two small cycles: open after a `begin` and beside a caller that writes, and closed before a
-- `close`.
use Rattle.mk_core.proofs.Vocabulary.{Step, all_below, false≢true, leb-true, left, left_from, ltb-true, pointed_cell}
use Rattle.mk_core.proofs.{Vocabulary.{refl, [], ◌++◌, ◌∷◌}, SmallCycles.{begun_in_stop, by_host, marked_beside}}
use Rattle.mk_core.proofs.{SmallCycles.{marked_in_stop, small, three_objects, written_beside}, ListTests.numbered_all}
use Rattle.mk_core.{proofs.MarkTests.{marks_closed_by_test}, specs.Cycles.{MarksAreClosed}}

-- closed marks

pub open_behind_begin : MarksAreClosed small (left small (begun_in_stop ++ by_host (Step.Begin ∷ []))) → ⊥
unfolding left_from all_below pointed_cell begun_in_stop three_objects
open_behind_begin closed = false≢true (closed.registers 0)

pub closed_in_stop : MarksAreClosed small (left small (begun_in_stop ++ by_host (Step.Begin ∷ []) ++ marked_in_stop))
unfolding left_from all_below pointed_cell numbered_all begun_in_stop three_objects marked_in_stop
closed_in_stop = marks_closed_by_test small (left small (begun_in_stop ++ by_host (Step.Begin ∷ []) ++ marked_in_stop))
    refl

pub closed_beside : MarksAreClosed small (left small marked_beside)
unfolding left_from all_below pointed_cell numbered_all marked_beside written_beside three_objects
closed_beside = marks_closed_by_test small (left small marked_beside) refl

-- While the caller writes, the black object's word points to an unmarked one, and its words aren't closed.
pub open_beside : MarksAreClosed small (left small written_beside) → ⊥
unfolding left_from all_below pointed_cell written_beside three_objects
open_beside closed = false≢true (closed.words 0 0 refl refl (leb-true 0 0 refl, ltb-true 0 2 refl))
