-- A seat that makes no sweeping mark, as its pass sees more.
use Rattle.mk_alloc.proofs.Below.Laws.Vocabulary.{Config, Event, List, Seat, arith, subst, sym, [], ◌≡◌}
use Rattle.mk_alloc.specs.Below.Words.States.{Has, PassState}
use Rattle.mk_core.specs.History.{Grows}
use Rattle.mk_heap.specs.Unswept.{SeatSweepsNothing}
use Rattle.mk_alloc.proofs.Below.Words.Sweeping.{others_sweep, sweeps_append}
use Rattle.mk_alloc.specs.Below.Words.Sweeping.{SweepsNothing, SweepsNothingFrom}

-- before the first event

before_all : (c : Config) (s : Seat) → SeatSweepsNothing c s []
unfolding SweepsNothingFrom
before_all c s = tt

pub first_sweeps : (c : Config) (s : Seat) (es : List Event) → es ≡ [] → SeatSweepsNothing c s es
first_sweeps c s es is = subst (λ (l : List Event). SeatSweepsNothing c s l) (sym is) (before_all c s)

-- after more of its own, and after events of others
pub seat_on : (p q : PassState) → SweepsNothing p q → SeatSweepsNothing p.table.config p.seat p.seen
    → SeatSweepsNothing p.table.config p.seat q.seen
seat_on p q more before = grind (arith, sweeps_append)

pub others_on : (c : Config) (s : Seat) (seats : List Seat) (es fs : List Event) → Has seats s → Grows seats es fs
    → SeatSweepsNothing c s es → SeatSweepsNothing c s fs
others_on c s seats es fs has g before = grind (arith, sweeps_append, others_sweep)
