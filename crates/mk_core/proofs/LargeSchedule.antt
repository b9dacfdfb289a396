-- A schedule of an object of two pages: it is freed, so that its pages are unmapped, and its pages are taken again.
use Rattle.mk_core.proofs.Vocabulary.{Config, Event, List, None, Op, Some, Step, Tally, Word, all_below, false}
use Rattle.mk_core.proofs.Vocabulary.{pointed_cell, refl, replicate, [], ◌++◌, ◌∷◌, ◌≡◌}
use Rattle.mk_never.specs.declared.types.Kind.TheVariants.{Num}
use Rattle.mk_core.proofs.Schedules.{by, c0, cleared, fault, first_fault, heap_of}

-- two callers, of which the second makes no call
unfoldable pub three_pages : Config
three_pages = heap_of 3 2 (replicate 65 Num ∷ [])

-- Its last word is written to and is wiped when its pages are unmapped, while the other caller's gate is held. An
-- access to it is then refused, and a second Free told so. The next object has room only after a cycle.
unfoldable pub large_freed : List Event
large_freed = by c0 (Step.Take (Some (Op.New 0 0 false)) ∷ Step.Head 0 46 ∷ Step.Head 1 26 ∷ Step.Used 0 1 ∷ Step.Grant
    ∷ Step.Tally Tally.Held 128 ∷ Step.Give ∷ []) ++ by c0
    (Step.Enter (Op.SetNum 0 64 9) ∷ Step.Reg ∷ Step.Probe ∷ Step.Write ∷ Step.Dirty ∷ Step.Leave ∷ []) ++ by c0
    (Step.Take (Some (Op.Free 0)) ∷ Step.Reg ∷ Step.Hold 1 ∷ Step.Quar 0 1 ∷ Step.Head 0 43 ∷ Step.Head 1 28 ∷ Step.Wipe
    64 ∷ Step.Open 1 ∷ Step.Tally Tally.Held 0 ∷ Step.Give ∷ []) ++ by c0 (Step.Enter (Op.GetNum 0 64) ∷ Step.Reg ∷
    Step.Probe ∷ Step.Leave ∷ []) ++ by c0 (Step.Take (Some (Op.Free 0)) ∷ Step.Reg ∷ Step.Look
    (Word.Quar 0) ∷ Step.Give ∷ []) ++ cleared 0 ++ by c0 (Step.Take (Some (Op.New 1 0 false)) ∷ Step.Quar 0 4294967297
    ∷ Step.Undirty 1 ∷ Step.Begin ∷ Step.Hold 1 ∷ Step.Want ∷ Step.Close ∷ Step.Release ∷ Step.Used 0 0 ∷ Step.Quar 0 0
    ∷ Step.Head 0 0 ∷ Step.Head 1 0 ∷ Step.End ∷ Step.Open 1 ∷ Step.Tally Tally.Released 1 ∷ Step.Tally Tally.Cycles 1 ∷
    Step.Head 0 46 ∷ Step.Head 1 26 ∷ Step.Used 0 1 ∷ Step.Grant ∷ Step.Tally Tally.Held 128 ∷ Step.Give ∷ [])

pub no_fault_large : first_fault three_pages large_freed ≡ None
unfolding first_fault fault by c0 all_below pointed_cell three_pages large_freed
no_fault_large = refl
