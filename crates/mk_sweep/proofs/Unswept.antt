-- A cell that no swept value points into isn't marked by a sweep.
use Rattle.mk_sweep.proofs.Vocabulary.{Cell, Config, Event, Moment, Seat, Step, SweepsBy, World, cell_of_allocation}
use Rattle.mk_sweep.proofs.Vocabulary.{has_bit, is_marked, is_tracing, never_behind, placed_at, world_behind, world_of}
use Rattle.mk_cycle.proofs.Below.Laws.Vocabulary.{List, ℕ, arith, bit_or, cases_Bool, false, false_from_ne_true, inl}
use Rattle.mk_cycle.proofs.Below.Laws.Vocabulary.{inr, left_in_parts, slice_index, slice_set, true, [], ◌∷◌, ◌≡◌}
use Rattle.mk_cycle.{proofs.Below.Laws.InvariantHistories.{histories_keep_the_invariant}, specs.Tracing.{OwnStepsKeep}}
use Rattle.mk_cycle.proofs.{Below.Laws.{KnownWorlds.known_world, Worlds.comes_back}, Parts.kinds_keep}
use Rattle.mk_core.{proofs.WordBits.{bit_of_power, more_bits}, specs.{History.is_same_seat, History.left_from}}
use Rattle.mk_sweep.specs.Sweeps.{IsSweptCell, MarksSwept, OthersLeaveUnmarked, UnsweptStaysUnmarked}

-- an own step is a tracing one
abbrev IsTracing : Config → Moment → Step → Type 0
IsTracing c m s = is_tracing s ≡ true

-- A mark of a swept cell leaves one unmarked that isn't swept.
mark_leaves : {c : Config} {v : World} (marks : List ℕ) {page value : ℕ} (cell : Cell) → MarksSwept c v page value
    → (IsSweptCell c v cell → ⊥) → has_bit (slice_index marks cell.page) cell.index ≡ false
    → has_bit (slice_index (slice_set marks page (bit_or (slice_index marks page) value)) cell.page) cell.index ≡ false
mark_leaves marks cell swept out was = grind (arith, false_from_ne_true, more_bits, bit_of_power)

step_leaves : (c : Config) (v w : World) (seat : Seat) (cell : Cell) (s : Step) → is_tracing s ≡ true
    → SweepsBy v c w.now s → (IsSweptCell c v cell → ⊥) → is_marked w.now.words cell ≡ false
    → is_marked (world_behind c w (record { seat = seat; step = s })).now.words cell ≡ false
step_leaves c v w seat cell x5 kind rule out was = grind (arith, mark_leaves)

list_leaves : (c : Config) (v w : World) (seat : Seat) (cell : Cell) (es : List Event)
    → OwnStepsKeep IsTracing c seat w es → OwnStepsKeep (SweepsBy v) c seat w es
    → OthersLeaveUnmarked c seat cell w es → (IsSweptCell c v cell → ⊥) → is_marked w.now.words cell ≡ false
    → is_marked (left_from c w es).now.words cell ≡ false
unfolding OwnStepsKeep OthersLeaveUnmarked left_from
list_leaves c v w seat cell [] kinds rules others out was = was
list_leaves c v w seat cell (e ∷ es) kinds rules others out was =
    list_leaves c v (world_behind c w e) seat cell es kinds.1 rules.1 others.1 out
    (elim (cases_Bool (is_same_seat seat e.seat)) [
      | inl own ↦ step_leaves c v w e.seat cell e.step (kinds.0 own) (rules.0 own) out was
      | inr other ↦ others.0 other was
    ])

pub unswept_stays_unmarked : UnsweptStaysUnmarked
unswept_stays_unmarked p q n s i history one unreleased out was others =
    let c : Config = p.table.config in
    let w : World = world_of p in
    let d = s.traces.does in
    cc (
      d.is,
      left_in_parts c p.seen d.more,
      list_leaves c w w p.seat (cell_of_allocation c (placed_at w.allocations i)) d.more (kinds_keep is_tracing
          IsTracing c p.seat w d.more (λ m x kind. kind) d.of_kinds) s.traces.keeps others (λ x. out (record {
            value = x.value;
            found = x.found;
            points = (
              unreleased,
              comes_back c w (never_behind c p.seen) (record {
                known = known_world c p.seen history.within_limits history.enabled;
                all = histories_keep_the_invariant c p.seen history;
              }) (inl one) i x.value unreleased x.points,
            );
          })) was,
    )
