-- A whole cycle with one sweep marks what is swept and releases what isn't, where no marker steps.
use Rattle.mk_sweep.proofs.Vocabulary.{AreOfOthers, Cell, Config, Event, Has, Holds, IsHistory, IsSwept}
use Rattle.mk_sweep.proofs.Vocabulary.{PassState, PlacedAllocation, Seat, Step, World, before_release}
use Rattle.mk_sweep.proofs.Vocabulary.{cell_of_allocation, is_marked, is_tracing, left, others_are_held}
use Rattle.mk_sweep.proofs.{Vocabulary.{Untouched, Words, placed_at}, BesideTurn.{IsOf, OthersAreNoMarkers, PartOfTurn}}
use Rattle.mk_sweep.proofs.BesideTurn.{holds_still, leave_first, leave_in_parts, left_unmarked_by, none_marks}
use Rattle.mk_sweep.proofs.BesideTurn.{none_of_kind, others_mark_none, still_holds}
use Rattle.mk_sweep.proofs.SweepParts.{NoneOfMarkers, SweepParts, in_five, own_are_so}
use Rattle.mk_sweep.proofs.CycleParts.{close_apart, close_of_holder, holding_leaves_marks, holding_leaves_turn}
use Rattle.mk_sweep.proofs.CycleParts.{looking_leaves_marks, looking_leaves_turn, no_kind, nothing_leaves_marks}
use Rattle.mk_sweep.proofs.CycleParts.{nothing_leaves_turn, only_looks, release_apart, release_of_holder, swept_alike}
use Rattle.mk_sweep.proofs.{CycleParts.tracing_leaves_turn, UnsweptReleased.unswept_is_released}
use Rattle.mk_sweep.specs.Sweeps.{LeaveUnmarked, OthersLeaveUnmarked}
use Rattle.mk_cycle.proofs.Below.Laws.Vocabulary.{Bool, IsLeft, List, Releasing, ℕ, and_parts, ap, append_assoc, arith}
use Rattle.mk_cycle.proofs.Below.Laws.Vocabulary.{before_close, earlier_part_is_history, enabled_in_parts}
use Rattle.mk_cycle.proofs.Below.Laws.Vocabulary.{enabled_meets, false, false_from_ne_true, is_close, is_release}
use Rattle.mk_cycle.proofs.Below.Laws.Vocabulary.{left_from, left_in_parts, not, not-true, refl, subst, sym, true, []}
use Rattle.mk_cycle.proofs.Below.{Laws.Vocabulary.{◌++◌, ◌∙◌, ◌∷◌, ◌≡◌}, Words.Seats.others_own}
use Rattle.mk_cycle.proofs.Below.Laws.ReadingsKeptPlaces.{StaysPut, keeps_cell, put_step, stays_put}
use Rattle.mk_cycle.proofs.Below.Laws.{CyclePhases.phase_moves, FramesHolders.{acts_as_holder, holds_is}}
use Rattle.mk_cycle.proofs.Below.Laws.{Known.{Known, known_left}, KnownWorlds.known_world}
use Rattle.mk_cycle.proofs.Below.Laws.{LastEvents.{ComesLast, comes_last}, OneStep.precise_begun}
use Rattle.mk_cycle.proofs.Below.Laws.{OrderlyLists.actor_of, OthersMoves.WorldBehind}
use Rattle.mk_cycle.proofs.Below.Laws.{Precise.IsPrecise, ProtocolFrames.others_leave}
use Rattle.mk_cycle.proofs.{Below.Laws.Stretches.{None_of, none_joined}, Parts.{kinds_keep, others_keep}}
use Rattle.mk_cycle.specs.{Below.Laws.Releases.allocation_behind, Tracing.OwnStepsKeep, TurnKeeps.holds_gates}
use Rattle.mk_core.specs.Cycles.{IsInSnapshot}

module _ {p : PassState} {looks : ℕ} {es : List Event} (has : Has p.seats p.seat)
    (history : IsHistory p.table.config es) (k : SweepParts p looks es) (none : NoneOfMarkers k) where
  abbrev c : Config
  c = p.table.config

  abbrev s : Seat
  s = p.seat

  abbrev begin : Event
  begin = record { seat = p.seat; step = Step.Begin }

  abbrev close : Event
  close = record { seat = p.seat; step = Step.Close }

  abbrev release : Event
  release = record { seat = p.seat; step = Step.Release }

  -- after the `begin`
  abbrev start : List Event
  start = k.front ++ begin ∷ []

  -- while the gates were held, and while it swept
  abbrev holding : List Event
  holding = k.holding

  abbrev sweeping : List Event
  sweeping = k.sweeps.traces.does.more

  swept_is : k.swept ≡ k.held ++ sweeping
  swept_is = ap (λ (x : PassState). x.seen) k.sweeps.traces.does.is

  -- while it only looked
  abbrev looking : List Event
  looking = k.looks_on.more

  looked_is : k.looked ≡ k.swept ++ looking
  looked_is = ap (λ (x : PassState). x.seen) k.looks_on.is

  -- before the `close`, and after it
  abbrev closing : List Event
  closing = k.looked ++ k.waited

  abbrev closed : List Event
  closed = closing ++ close ∷ []

  whole : es ≡ closed ++ (k.stopped ++ release ∷ k.rest)
  whole =
      k.is ∙ sym (append_assoc k.looked k.waited (close ∷ (k.stopped ++ release ∷ k.rest)))
      ∙ sym (append_assoc closing (close ∷ []) (k.stopped ++ release ∷ k.rest))

  -- all of them are histories

  closed_history : IsHistory c closed
  closed_history = earlier_part_is_history c closed (k.stopped ++ release ∷ k.rest) (subst (IsHistory c) whole history)

  stopped_history : IsHistory c (closed ++ k.stopped)
  stopped_history =
      earlier_part_is_history c (closed ++ k.stopped) (release ∷ k.rest)
      (subst (IsHistory c) (whole ∙ sym (append_assoc closed k.stopped (release ∷ k.rest))) history)

  closing_history : IsHistory c closing
  closing_history = earlier_part_is_history c closing (close ∷ []) closed_history

  looking_history : IsHistory c (k.swept ++ looking)
  looking_history = subst (IsHistory c) looked_is (earlier_part_is_history c k.looked k.waited closing_history)

  sweeping_history : IsHistory c (k.held ++ sweeping)
  sweeping_history = subst (IsHistory c) swept_is (earlier_part_is_history c k.swept looking looking_history)

  held_history : IsHistory c k.held
  held_history = earlier_part_is_history c k.held sweeping sweeping_history

  holding_history : IsHistory c (start ++ holding)
  holding_history = subst (IsHistory c) k.held_is held_history

  start_history : IsHistory c start
  start_history = earlier_part_is_history c start holding holding_history

  known : {xs : List Event} → IsHistory c xs → Known c (left c xs).now
  known {xs} h = known_left c xs h.within_limits h.enabled

  -- who has the turn

  abbrev first : World
  first = left c k.front

  last_begin : ComesLast c k.front begin
  last_begin = comes_last c k.front begin start_history

  front_holds : Holds c first.now s
  front_holds =
      let there = known last_begin.before in
      holds_is c first.now s there.orderly
      (acts_as_holder c first.now s Step.Begin (actor_of c first.now s Step.Begin there.orderly last_begin.meets) refl)

  start_holds : Holds c (left c start).now s
  start_holds =
      holds_still s first (left c start) (known last_begin.before) (known start_history)
      (ap (λ (w : World). w.now.words.turn) last_begin.leaves) front_holds

  -- the parts of the turn

  part : (kinds : Step → Bool) (xs more : List Event) → IsHistory c (xs ++ more) → Holds c (left c xs).now s
      → OthersAreNoMarkers s more → OwnStepsKeep (IsOf kinds) c s (left c xs) more
      → PartOfTurn kinds c s (left c xs) more
  part kinds xs more h holds unmade own = record {
    none = unmade;
    known = known (earlier_part_is_history c xs more h);
    holds = holds;
    on = ((enabled_in_parts c xs more).0 h.enabled).1;
    own = own;
  }

  holding_part : PartOfTurn holds_gates c s (left c start) holding
  holding_part =
      part holds_gates start holding holding_history start_holds none.holding
      (own_are_so holds_gates c s (left c start) holding k.holds)

  held_world : left c k.held ≡ left_from c (left c start) holding
  held_world = ap (left c) k.held_is ∙ left_in_parts c start holding

  held_holds : Holds c (left c k.held).now s
  held_holds = grind (arith, held_world, still_holds, holding_leaves_turn, holding_part, Holds)

  sweeping_part : PartOfTurn is_tracing c s (left c k.held) sweeping
  sweeping_part =
      part is_tracing k.held sweeping sweeping_history held_holds none.sweeping
      (kinds_keep is_tracing (IsOf is_tracing) c s _ sweeping (λ m x is. is) k.sweeps.traces.does.of_kinds)

  swept_holds : Holds c (left c k.swept).now s
  swept_holds = grind (arith, swept_is, left_in_parts, sweeping, still_holds, tracing_leaves_turn, sweeping_part, Holds)

  looking_part : PartOfTurn only_looks c s (left c k.swept) looking
  looking_part =
      part only_looks k.swept looking looking_history swept_holds none.looking
      (kinds_keep only_looks (IsOf only_looks) c s _ looking (λ m x is. is) k.looks_on.of_kinds)

  looked_world : left c k.looked ≡ left_from c (left c k.swept) looking
  looked_world = ap (left c) looked_is ∙ left_in_parts c k.swept looking

  looked_holds : Holds c (left c k.looked).now s
  looked_holds =
      subst (λ (w : World). Holds c w.now s) (sym looked_world)
      (still_holds only_looks looking_leaves_turn c s looking_part)

  -- a part in which the holder does nothing
  others_part : (xs more : List Event) → IsHistory c (xs ++ more) → Holds c (left c xs).now s
      → AreOfOthers p.seats more → OthersAreNoMarkers s more → PartOfTurn no_kind c s (left c xs) more
  others_part xs more h holds others unmade =
      part no_kind xs more h holds unmade (others_keep (IsOf no_kind) c s p.seats (left c xs) more has others)

  waiting_part : PartOfTurn no_kind c s (left c k.looked) k.waited
  waiting_part = others_part k.looked k.waited closing_history looked_holds k.while_waiting none.waiting

  last_close : ComesLast c closing close
  last_close = comes_last c closing close closed_history

  closed_holds : Holds c (left c closed).now s
  closed_holds =
      holds_still s (left c closing) (left c closed) (known closing_history) (known closed_history)
      (ap (λ (w : World). w.now.words.turn) last_close.leaves)
      (subst (λ (w : World). Holds c w.now s) (sym (left_in_parts c k.looked k.waited))
      (still_holds no_kind nothing_leaves_turn c s waiting_part))

  stopped_part : PartOfTurn no_kind c s (left c closed) k.stopped
  stopped_part = others_part closed k.stopped stopped_history closed_holds k.while_stopped none.stopping

  -- No other cycle's steps are among them.

  abbrev marking : List Event
  marking = holding ++ (sweeping ++ (looking ++ k.waited))

  pub closes_none : None_of is_close marking
  closes_none =
      grind (
        arith,
        none_joined,
        holding,
        sweeping,
        none_of_kind,
        holding_leaves_turn,
        close_of_holder,
        close_apart,
        holding_part,
        tracing_leaves_turn,
        sweeping_part,
        looking,
        looking_leaves_turn,
        looking_part,
        no_kind,
        nothing_leaves_turn,
        waiting_part,
      )

  pub releases_none : None_of is_release k.stopped
  releases_none =
      none_of_kind no_kind nothing_leaves_turn c s is_release release_of_holder (λ x is. cc) stopped_part

  holding_keeps : None_of is_release holding
  holding_keeps =
      none_of_kind holds_gates holding_leaves_turn c s is_release release_of_holder
      (release_apart holds_gates refl) holding_part

  -- the cycle

  closing_is : closing ≡ start ++ marking
  closing_is =
      in_five start holding sweeping looking k.waited k.held k.swept k.looked k.held_is swept_is looked_is

  pub begin_is : es ≡ k.front ++ begin ∷ (marking ++ close ∷ (k.stopped ++ release ∷ k.rest))
  begin_is =
      whole ∙ append_assoc closing (close ∷ []) (k.stopped ++ release ∷ k.rest) ∙ ap (λ (xs : List Event). xs ++ close ∷
      (k.stopped ++ release ∷ k.rest)) closing_is ∙ append_assoc start marking (close ∷ (k.stopped ++ release ∷ k.rest))
      ∙ append_assoc k.front (begin ∷ []) (marking ++ close ∷ (k.stopped ++ release ∷ k.rest))

  abbrev pub cycle : Releasing es
  cycle = record {
    marking = record {
      begin = record {
        before = k.front;
        event = begin;
        behind = marking ++ close ∷ (k.stopped ++ release ∷ k.rest);
        is = begin_is;
        of_kind = refl;
      };
      close = record {
        at = record {
          before = marking;
          event = close;
          behind = k.stopped ++ release ∷ k.rest;
          is = refl;
          of_kind = refl;
        };
        none_before = closes_none;
      };
    };
    release = record {
      at = record { before = k.stopped; event = release; behind = k.rest; is = refl; of_kind = refl };
      none_before = releases_none;
    };
  }

  -- what stands up to the `release`, after the sweep
  abbrev since_sweep : List Event
  since_sweep = looking ++ (k.waited ++ close ∷ k.stopped)

  release_is : before_release cycle ≡ k.swept ++ since_sweep
  release_is =
      ap (λ (xs : List Event). xs ++ close ∷ k.stopped) (sym closing_is)
      ∙ append_assoc k.looked k.waited (close ∷ k.stopped)
      ∙ ap (λ (xs : List Event). xs ++ (k.waited ++ close ∷ k.stopped)) looked_is
      ∙ append_assoc k.swept looking (k.waited ++ close ∷ k.stopped)

  -- Values and allocations are the same at the `close` as when the sweep began.

  gates_held : others_are_held c.callers (left c k.looked).now.words s ≡ true
  gates_held = (enabled_meets c (left c k.looked).now close k.may_close).gates

  waited_leaves : IsLeft c s k.looked closing
  waited_leaves =
      others_leave c k.looked k.waited s closing_history.within_limits closing_history.enabled
      (others_own p.seats s k.waited has k.while_waiting)

  -- What is swept at the `close` was swept when the sweep had ended,
  swept_before : {i : ℕ} → IsSwept c (left c k.swept) i → IsSwept c (left c closing) i
  swept_before x = waiting_keeps (swept_alike (left c k.looked) (ap (λ (y : Words). y.registers) k.still.words)
      (ap (λ (y : Words). y.globals) k.still.words) (ap (λ (y : Words). y.heap) k.still.words)
      k.still.allocations x)
    where
      waiting_keeps : {i : ℕ} → IsSwept c (left c k.looked) i → IsSwept c (left c closing) i
      waiting_keeps x = grind (arith, swept_alike, closing, waited_leaves, looked_holds, gates_held)

  -- and so it was when the sweep began.
  swept_there : {i : ℕ} → IsSwept c (left c k.held) i → IsSwept c (left c k.swept) i
  swept_there x =
      let same = k.sweeps.traces.untouched in
      swept_alike (left c k.swept) (ap (λ (u : Untouched). u.registers) same) (ap (λ (u : Untouched). u.globals) same)
      (ap (λ (u : Untouched). u.heap) same) (ap (λ (u : Untouched). u.steady.allocations) same) x

  -- After the sweep nothing is marked.

  leave_stopped : (cell : Cell) → LeaveUnmarked c cell (left c closing) (close ∷ k.stopped)
  leave_stopped cell =
      leave_first c cell (left c closing) close k.stopped (λ was. was)
      (subst (λ (w : World). LeaveUnmarked c cell w k.stopped) last_close.leaves
      (none_marks no_kind nothing_leaves_turn c s cell nothing_leaves_marks stopped_part))

  leave_waited : (cell : Cell) → LeaveUnmarked c cell (left c k.looked) (k.waited ++ close ∷ k.stopped)
  leave_waited cell =
      leave_in_parts c cell (left c k.looked) k.waited (close ∷ k.stopped)
      (none_marks no_kind nothing_leaves_turn c s cell nothing_leaves_marks waiting_part)
      (subst (λ (w : World). LeaveUnmarked c cell w (close ∷ k.stopped)) (left_in_parts c k.looked k.waited)
      (leave_stopped cell))

  leave_since : (cell : Cell) → LeaveUnmarked c cell (left c k.swept) since_sweep
  leave_since cell =
      leave_in_parts c cell (left c k.swept) looking (k.waited ++ close ∷ k.stopped)
      (none_marks only_looks looking_leaves_turn c s cell looking_leaves_marks looking_part)
      (subst (λ (w : World). LeaveUnmarked c cell w (k.waited ++ close ∷ k.stopped)) looked_world (leave_waited cell))

  -- The allocation is unreleased as the sweep begins, and its cell is unmarked.
  module _ (i : ℕ) (snapshot : IsInSnapshot c cycle.marking i) where
    abbrev at_start : PlacedAllocation
    at_start = placed_at (left c start).allocations i

    abbrev at_sweep : PlacedAllocation
    at_sweep = placed_at (left c k.held).allocations i

    unreleased : at_start.released ≡ false
    unreleased =
        let was = not-true (placed_at first.allocations i).released
        (and_parts (placed_at first.allocations i).freed (not (placed_at first.allocations i).released) snapshot).1 in
        cc (last_begin.leaves, (put_step c first s Step.Begin i refl was).unreleased)

    stays : StaysPut at_start (placed_at (left_from c (left c start) holding).allocations i)
    stays = stays_put c (left c start) holding i holding_keeps unreleased

    unreleased_there : at_sweep.released ≡ false
    unreleased_there =
        subst (λ (w : World). (placed_at w.allocations i).released ≡ false) (sym held_world) stays.unreleased

    abbrev cell : Cell
    cell = cell_of_allocation c at_start

    same_cell : cell_of_allocation c at_sweep ≡ cell
    same_cell =
        cc (held_world, keeps_cell c at_start (placed_at (left_from c (left c start) holding).allocations i) stays)

    unmarked : is_marked (left c start).now.words cell ≡ false
    unmarked =
        false_from_ne_true (is_marked (left c start).now.words cell) (λ is. precise.marked i
        (subst (λ (w : World). (placed_at w.allocations i).released ≡ false) last_begin.leaves unreleased)
        (subst (λ (w : World). is_marked w.now.words (cell_of_allocation c (placed_at w.allocations i)) ≡ true)
        last_begin.leaves is))
      where
        precise : IsPrecise c (WorldBehind c first s Step.Begin) (λ b. ⊥)
        precise = precise_begun c first s (λ b. ⊥)
            (known_world c k.front last_begin.before.within_limits last_begin.before.enabled) last_begin.meets

    unmarked_there : is_marked (left c k.held).now.words cell ≡ false
    unmarked_there =
        subst (λ (w : World). is_marked w.now.words cell ≡ false) (sym held_world)
        (left_unmarked_by c cell (left c start) holding
        (none_marks holds_gates holding_leaves_turn c s cell holding_leaves_marks holding_part) unmarked)

    pub is_released_by_it : (IsSwept c (left c (before_close cycle.marking)) i → ⊥)
        → (allocation_behind c cycle i).released ≡ true
    is_released_by_it out =
        unswept_is_released (record p { seen = k.held }) (record p { seen = k.swept }) looks k.sweeps es cycle
        since_sweep i history held_history release_is k.phase snapshot unreleased_there
        (λ x. out (subst (λ (xs : List Event). IsSwept c (left c xs) i) closing_is (swept_before (swept_there x))))
        (subst (λ (x : Cell). is_marked (left c k.held).now.words x ≡ false)
        (sym same_cell) unmarked_there) (subst (λ (x : Cell). OthersLeaveUnmarked c s x (left c k.held) sweeping)
        (sym same_cell) (others_mark_none is_tracing tracing_leaves_turn c s cell sweeping_part))
        (subst (λ (x : Cell). LeaveUnmarked c x (left c k.swept) since_sweep) (sym same_cell) (leave_since cell))
