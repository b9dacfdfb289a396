-- Small schedules, each for one thing: a refusal and what makes room, a free that isn't due, a New while
-- a cycle marks, exchanges, a sweeping mark.
use Rattle.mk_core.proofs.Vocabulary.{Config, Event, List, None, Op, Some, Step, Tally, Word, all_below, false}
use Rattle.mk_core.proofs.Vocabulary.{may_turn_black, pointed_cell, refl, replicate, [], ◌++◌, ◌∷◌, ◌≡◌}
use Rattle.mk_never.specs.declared.types.Kind.TheVariants.{Num}
use Rattle.mk_core.proofs.Schedules.{by, c0, carved, cleared, fault, first_fault, freed, granted, heap_of, host}
use Rattle.mk_core.proofs.Schedules.{one_page, pointer_page}

-- Two objects fill the page. One is freed, but a register still points to it, so a New is refused after a cycle of its
-- own. After a `clear` of that register the next New's cycle releases it, and its cell is taken again.
unfoldable pub full_then_reused : List Event
full_then_reused = carved 0 0 0 125 32 ++ granted 1 3 64 ++ freed 1 0 2 32 ++ by c0 (Step.Take (Some (Op.New 2 0 false))
    ∷ Step.Quar 0 8589934594 ∷ Step.Tally Tally.Fresh 0 ∷ Step.Begin ∷ Step.Look (Word.Reg 0 0) ∷ Step.Mark 0 1 ∷
    Step.Look (Word.Reg 0 1) ∷ Step.Mark 0 2 ∷ Step.Want ∷ Step.Black 0 1 ∷ Step.Black 0 2 ∷ Step.Close ∷ Step.Release ∷
    Step.End ∷ Step.Tally Tally.Cycles 1 ∷ Step.Full ∷ Step.Tally Tally.Full 1 ∷ Step.Give ∷ []) ++ cleared 1 ++ by c0
    (Step.Take (Some (Op.New 2 0 false)) ∷ Step.Clear 0 ∷ Step.Unblack 0 ∷ Step.Begin ∷ Step.Look
    (Word.Reg 0 0) ∷ Step.Mark 0 1 ∷ Step.Want ∷ Step.Black 0 1 ∷ Step.Close ∷ Step.Release ∷ Step.Used 0 1 ∷ Step.Quar
    0 0 ∷ Step.Tally Tally.Held 32 ∷ Step.Tally Tally.Released 1 ∷ Step.End ∷ Step.Tally Tally.Cycles 2 ∷ Step.Used 0 3
    ∷ Step.Grant ∷ Step.Tally Tally.Held 64 ∷ Step.Give ∷ [])

pub no_fault_full : first_fault one_page full_then_reused ≡ None
unfolding first_fault fault by c0 host all_below pointed_cell may_turn_black one_page full_then_reused
no_fault_full = refl

unfoldable pub two_pages : Config
two_pages = heap_of 2 1 (replicate 2 Num ∷ replicate 6 Num ∷ [])

-- An object of 2 words and one of 6 are freed. The first is a quarter of the held words, and both are all of them.
unfoldable pub a_quarter_and_all : List Event
a_quarter_and_all = carved 0 0 0 13 2 ++ carved 1 1 1 45 8 ++ freed 0 0 1 2 ++ freed 1 1 1 8

pub no_fault_quarter : first_fault two_pages a_quarter_and_all ≡ None
unfolding first_fault fault by c0 all_below pointed_cell two_pages a_quarter_and_all
no_fault_quarter = refl

-- A cycle is begun in a Free, and the next New carves a page before the cycle goes on: it marks the page's cells first.
unfoldable pub granted_while_marking : List Event
granted_while_marking = carved 0 0 0 13 2 ++ by c0 (Step.Take (Some (Op.Free 0)) ∷ Step.Reg ∷ Step.Quar 0 1 ∷ Step.Quar
    0 4294967297 ∷ Step.Begin ∷ Step.Give ∷ []) ++ by c0 (Step.Take (Some (Op.New 1 1 false)) ∷ Step.Mark 1 1023 ∷
    Step.Head 1 45 ∷ Step.Used 1 1 ∷ Step.Grant ∷ Step.Tally Tally.Held 8 ∷ Step.Give ∷ [])

pub no_fault_marking : first_fault two_pages granted_while_marking ≡ None
unfolding first_fault fault by c0 all_below pointed_cell two_pages granted_while_marking
no_fault_marking = refl

-- Twice the pointer word of one object is exchanged for null: it is null only the first time.
unfoldable pub exchanged : List Event
exchanged = carved 0 0 0 1 2 ++ granted 1 3 4 ++ by c0 (Step.Enter (Op.CasPtr 0 0 2 1) ∷ Step.Reg ∷ Step.Reg ∷ Step.Reg
    ∷ Step.Probe ∷ Step.Cas ∷ Step.Dirty ∷ Step.Leave ∷ []) ++ by c0 (Step.Enter
    (Op.CasPtr 0 0 2 1) ∷ Step.Reg ∷ Step.Reg ∷ Step.Reg ∷ Step.Probe ∷ Step.Cas ∷ Step.Dirty ∷ Step.Leave ∷ [])

pub no_fault_exchanged : first_fault pointer_page exchanged ≡ None
unfolding first_fault fault by c0 all_below pointed_cell pointer_page exchanged
no_fault_exchanged = refl

-- In the stop the host looks at the pointer word of an object that has no mark, and marks by it.
unfoldable pub before_the_sweep : List Event
before_the_sweep = exchanged
    ++ by host (Step.Take None ∷ Step.Hold 0 ∷ Step.Begin ∷ Step.Want ∷ Step.Look (Word.Heap 0) ∷ [])

unfoldable pub sweeping_mark : Event
sweeping_mark = record { seat = host; step = Step.Mark 0 2 }

pub no_fault_swept : first_fault pointer_page (before_the_sweep ++ sweeping_mark ∷ []) ≡ None
unfolding first_fault fault by c0 host all_below pointed_cell pointer_page exchanged before_the_sweep sweeping_mark
no_fault_swept = refl
