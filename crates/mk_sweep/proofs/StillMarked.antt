-- Where the words but the phase, and the allocations, are left as they are, what is swept stays marked.
use Rattle.mk_sweep.proofs.Vocabulary.{AreOfOthers, Config, Event, IsHistory, PlacedAllocation, TurnState}
use Rattle.mk_sweep.proofs.{Vocabulary.{Words, World, left, placed_at, world_of}, CycleParts.swept_alike}
use Rattle.mk_cycle.{proofs.Below.Laws.Vocabulary.{List, Steady, ap, sym, ◌++◌, ◌∙◌, ◌≡◌}, specs.Stops.{IsWanted}}
use Rattle.mk_cycle.proofs.Below.{Laws.ProtocolFrames.others_leave, Words.Seats.others_own}
use Rattle.mk_cycle.proofs.Stilled.{but_phase, words_left}
use Rattle.mk_core.specs.Cycles.{is_marked_allocation}
use Rattle.mk_sweep.specs.Sweeps.{SweptAreMarked}

pub still_marked : (c : Config) {w v : World} → but_phase v.now.words ≡ but_phase w.now.words
    → v.allocations ≡ w.allocations → SweptAreMarked c w → SweptAreMarked c v
still_marked c {w} {v} words allocations marked i x =
    ap (λ (y : Words). is_marked_allocation c y (placed_at v.allocations i)) words
    ∙ (ap (λ (xs : List PlacedAllocation). is_marked_allocation c w.now.words (placed_at xs i)) allocations
    ∙ marked i (swept_alike w (ap (λ (y : Words). y.registers) (sym words)) (ap (λ (y : Words). y.globals) (sym words))
    (ap (λ (y : Words). y.heap) (sym words)) (sym allocations) x))

-- So others leave it in the stop.
pub others_leave_marked : (u : TurnState) → IsWanted u.pass → SweptAreMarked u.pass.table.config (world_of u.pass)
    → (others : List Event) → AreOfOthers u.pass.seats others
    → IsHistory u.pass.table.config (u.pass.seen ++ others)
    → SweptAreMarked u.pass.table.config (left u.pass.table.config (u.pass.seen ++ others))
others_leave_marked u wanted marked others of_others history =
    let c : Config = u.pass.table.config in
    let x = others_leave c u.pass.seen others u.pass.seat history.within_limits history.enabled
    (others_own u.pass.seats u.pass.seat others u.in_order.own of_others) in
    let turn = (x.turn u.in_order.holds).0 in
    still_marked c (words_left turn (x.stop (u.in_order.holds, wanted.gates)) wanted.phase wanted.none)
    (ap (λ (s : Steady). s.allocations) turn.steady) marked
