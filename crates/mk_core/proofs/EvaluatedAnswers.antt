-- What the calls of the schedules are answered, here and by the heap that never reuses storage.
use Rattle.mk_core.proofs.Vocabulary.{Answer, Ptr, all_below, answered, asked, calls, calls_from, left_from}
use Rattle.mk_core.proofs.Vocabulary.{may_turn_black, never_first, pointed_cell, refl, replicate, [], ◌++◌, ◌∷◌, ◌≡◌}
use Rattle.mk_core.proofs.Schedules.{blackened_before_the_move, by, c0, freed_after_begin, host, m0, one_page}
use Rattle.mk_core.proofs.{Schedules.pointer_page, MoreSchedules.{a_quarter_and_all, exchanged, full_then_reused}}
use Rattle.mk_core.{proofs.MoreSchedules.{granted_while_marking, two_pages}, specs.History.{RefinesNever}}
use Rattle.mk_never.specs.{NeverHeap.replies_of, declared.operations.Reply.Reply}

-- Two News, two Frees, two clears and a New, and then the register of the last New isn't null.
pub freed_answers : (replies_of (never_first one_page) (asked (calls one_page freed_after_begin))
    ≡ replicate 7 Reply.Done ++ Reply.Num 0 ∷ []) × RefinesNever one_page freed_after_begin
unfolding by c0 host all_below pointed_cell one_page freed_after_begin calls_from left_from
freed_answers = (refl, refl)

-- The third object is at heap word 4, as each object has 2 words: its address is 65536 + 8 * 4. Both reads of a pointer
-- show it, though it was freed before, and then its number is still 7.
pub blackened_answers : (answered (calls pointer_page blackened_before_the_move)
    ≡ replicate 7 Answer.Done ++ Answer.Word 65568 ∷ replicate 3 Answer.Done ++ Answer.Word 65568 ∷ Answer.Num 7 ∷ [])
    × (replies_of (never_first pointer_page) (asked (calls pointer_page blackened_before_the_move))
    ≡ replicate 7 Reply.Done ++ Reply.Val (Ptr 2 0 0) ∷ replicate 3 Reply.Done ++ Reply.Val (Ptr 2 0 0) ∷ Reply.Num 7
    ∷ []) × RefinesNever pointer_page blackened_before_the_move
unfolding by c0 m0 host all_below pointed_cell may_turn_black pointer_page blackened_before_the_move calls_from
    left_from
blackened_answers = (refl, refl, refl)

-- The third New is refused, and so the heap that never reuses storage is told to refuse it. The fourth isn't.
pub full_answers : (answered (calls one_page full_then_reused)
    ≡ Answer.Done ∷ Answer.Done ∷ Answer.Done ∷ Answer.Full ∷ Answer.Done ∷ Answer.Done ∷ []) ×
    (replies_of (never_first one_page) (asked (calls one_page full_then_reused)) ≡ Reply.Done ∷ Reply.Done ∷ Reply.Done
    ∷ Reply.Full ∷ Reply.Done ∷ Reply.Done ∷ []) × RefinesNever one_page full_then_reused
unfolding by c0 all_below pointed_cell may_turn_black one_page full_then_reused calls_from left_from
full_answers = (refl, refl, refl)

-- The first exchange finds null, as it expects, and the second the address that the first stored.
pub exchanged_answers : (answered (calls pointer_page exchanged) ≡ Answer.Done ∷ Answer.Done ∷ Answer.Num 1
    ∷ Answer.Num 0 ∷ []) × RefinesNever pointer_page exchanged
unfolding by c0 all_below pointed_cell pointer_page exchanged calls_from left_from
exchanged_answers = (refl, refl)

-- News and Frees of what isn't null or freed are done.
pub quarter_answers : (answered (calls two_pages a_quarter_and_all) ≡ replicate 4 Answer.Done)
    × RefinesNever two_pages a_quarter_and_all
unfolding by c0 all_below pointed_cell two_pages a_quarter_and_all calls_from left_from
quarter_answers = (refl, refl)

pub marking_refines : RefinesNever two_pages granted_while_marking
unfolding by c0 all_below pointed_cell two_pages granted_while_marking left_from calls_from
marking_refines = refl
