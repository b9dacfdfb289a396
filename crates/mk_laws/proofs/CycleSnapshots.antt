-- Along a list without a `begin`, what was freed before the last one stays told by the flags.
use Rattle.std.proofs.Common.{length-append}
use Rattle.mk_laws.proofs.Vocabulary.{At, Bool, Cell, Config, Event, IsQuarantined, LayoutPremisesFrom, LayoutStands}
use Rattle.mk_laws.proofs.Vocabulary.{List, None, Option, PlacedAllocation, Seat, Some, StandsInOrder, Step, World, ℕ}
use Rattle.mk_laws.proofs.Vocabulary.{ap, arith, cell_freed, enabled_meets, false, false_from_ne_true, flight_of}
use Rattle.mk_laws.proofs.Vocabulary.{freed_cell, freed_where_it_stands, get_or_past, granted, has_bit_of, is_begin}
use Rattle.mk_laws.proofs.Vocabulary.{is_quarantined, left, left_from, length, length-map, list_any, map, never_granted}
use Rattle.mk_laws.proofs.Vocabulary.{no_longer_fresh, none_freed, not, or_parts, placed_at, refl, stands_in, subst}
use Rattle.mk_laws.proofs.Vocabulary.{sym, true, true≢false, with_released, world_behind, [], ◌&&◌, ◌++◌, ◌∙◌, ◌∷◌, ◌≡◌}
use Rattle.mk_laws.proofs.{Vocabulary.◌≤◌, Basics.{Before, Meets, WorldBehind, begin_is, freeing_leaves}}
use Rattle.mk_laws.proofs.{Basics.releasing_leaves, LayoutHistories.{in_order_at_first, known_before, order_behind}}
use Rattle.mk_laws.proofs.{Granted.pushed_new, Known.along_enabled, LayoutByKind.fresh_cells}
use Rattle.mk_laws.proofs.{QuarantineByKind.frees_here, QuarantineChanges.{FreesHere, before_change}}
use Rattle.mk_laws.proofs.CycleSnapshotLaws.{SnapshotsAreOfCycles}

-- freed, and not after the last `begin`
abbrev is_freed_before : PlacedAllocation → Bool
is_freed_before a = a.freed && not a.fresh

-- what one event does to the flags of an allocation that is unreleased after it
data FlagsStep (w v : World) (i : ℕ) : Type 0 where
  Stays : (placed_at w.allocations i).released ≡ false
      → is_freed_before (placed_at v.allocations i) ≡ is_freed_before (placed_at w.allocations i) → FlagsStep w v i
  IsNew : length w.allocations ≤ i → is_freed_before (placed_at v.allocations i) ≡ false → FlagsStep w v i

-- `quar` (a): what stands in the cell wasn't freed
freed_flags : {c : Config} {w : World} {cell : Cell} {n : ℕ} (i : ℕ) → FreesHere c w cell n → IsQuarantined c w
    → (placed_at w.allocations i).released ≡ false → (b : Bool) → stands_in w.now.words cell (placed_at w.allocations i)
    ≡ b → is_freed_before (freed_where_it_stands w.now.words (Some cell) (placed_at w.allocations i))
    ≡ is_freed_before (placed_at w.allocations i)
freed_flags i x q u true is = grind (arith, false_from_ne_true, is_freed_before)
freed_flags i x q u false is = grind arith

flags_step : {c : Config} {w : World} (seat : Seat) (x : Step) (i : ℕ) → Before c w → Meets c w.now seat x
    → LayoutStands c w → IsQuarantined c w → is_begin x ≡ false
    → (placed_at (WorldBehind c w seat x).allocations i).released ≡ false → FlagsStep w (WorldBehind c w seat x) i
flags_step {c} {w} seat (Step.Quar p n) i b h laid q out u =
    by (cell_freed c.pages w.now.words (flight_of w.now seat) p n) refl
  where
    by : (cell : Option Cell) → cell_freed c.pages w.now.words (flight_of w.now seat) p n ≡ cell
        → FlagsStep w (WorldBehind c w seat (Step.Quar p n)) i
    by None is =
        let same : (WorldBehind c w seat (Step.Quar p n)).allocations ≡ w.allocations =
        rw is (none_freed w.now.words w.allocations) in
        Stays (rw (← same) u) (rw same)
    by (Some cell) is =
        let same : (WorldBehind c w seat (Step.Quar p n)).allocations
        ≡ map (freed_where_it_stands w.now.words (Some cell)) w.allocations = rw is in
        let frees = frees_here seat b h laid (freed_cell c.pages w.now.words _ p n cell is) in
        let x = before_change c w.allocations i (freeing_leaves w.now.words (Some cell)) (rw (← same) u) in
        Stays x.was (rw same (rw x.now (freed_flags i frees q x.was _ refl)))
flags_step seat Step.Begin i b h laid q out u = absurd (true≢false out)
flags_step seat Step.Grant i b h laid q out u = grind (arith, pushed_new)
flags_step {c} {w} seat Step.Release i b h laid q out u =
    let x = before_change c w.allocations i (releasing_leaves c w.now.words) u in
    Stays x.was (rw x.now)
flags_step seat _ i b h laid q out u = Stays u refl

-- allocations are never lost
longer : (c : Config) (w : World) (seat : Seat) (x : Step)
    → length w.allocations ≤ length (WorldBehind c w seat x).allocations
longer c w seat (Step.Quar p n) = let e = length-map w.allocations
    (freed_where_it_stands w.now.words (cell_freed c.pages w.now.words (flight_of w.now seat) p n)) in omega arith
longer c w seat Step.Begin = let e = length-map w.allocations no_longer_fresh in omega arith
longer c w seat Step.Grant = omega (arith, length-append w.allocations (granted c w.now (flight_of w.now seat) ∷ []))
longer c w seat Step.Release = let e = length-map w.allocations (with_released c w.now.words) in omega arith
longer c w seat _ = omega arith

-- what these allocations had in quarantine, another world's flags say
record Tells (xs : List PlacedAllocation) (w : World) : Type 0 where
  longer : length xs ≤ length w.allocations
  flags : (i : ℕ) → (placed_at w.allocations i).released ≡ false
      → is_freed_before (placed_at w.allocations i) ≡ is_quarantined (placed_at xs i)

tells_behind : {c : Config} {xs : List PlacedAllocation} {w : World} (seat : Seat) (x : Step) → Before c w
    → Meets c w.now seat x → LayoutStands c w → IsQuarantined c w → is_begin x ≡ false
    → Tells xs w → Tells xs (WorldBehind c w seat x)
tells_behind {c} {xs} {w} seat x b h laid q out t = record {
  longer = let l = longer c w seat x in let m = t.longer in omega arith;
  flags = λ i u. by i (flags_step seat x i b h laid q out u);
}
  where
    by : (i : ℕ) → FlagsStep w (WorldBehind c w seat x) i
        → is_freed_before (placed_at (WorldBehind c w seat x).allocations i) ≡ is_quarantined (placed_at xs i)
    by i (Stays was same) = same ∙ t.flags i was
    by i (IsNew past none) = none ∙ sym (rw (get_or_past xs i never_granted (omega arith)))

-- at the `begin`
tells_at_begin : (c : Config) (w : World) (seat : Seat) → Tells w.allocations (WorldBehind c w seat Step.Begin)
tells_at_begin c w seat = record {
  longer = longer c w seat Step.Begin;
  flags = λ i u.
      let x = before_change c w.allocations i fresh_cells u in
      let a : PlacedAllocation = placed_at w.allocations i in
      rw x.now (sym (rw x.was));
}

-- The `begin` is still to come after these events, or what was in quarantine at it is told.
data Stage (c : Config) {es : List Event} (b : At is_begin es) (w : World) (xs : List Event) : Type 0 where
  Waits : (front : List Event) → xs ≡ front ++ b.event ∷ b.behind → left_from c w front ≡ left c b.before
      → Stage c b w xs
  Begun : list_any (λ (e : Event). is_begin e.step) xs ≡ false → Tells (left c b.before).allocations w → Stage c b w xs

stage_behind : (c : Config) {es : List Event} (b : At is_begin es) (w : World) (e : Event) (xs : List Event)
    → list_any (λ (x : Event). is_begin x.step) b.behind ≡ false → Before c w → Meets c w.now e.seat e.step
    → StandsInOrder c w → Stage c b w (e ∷ xs) → Stage c b (world_behind c w e) xs
unfolding left_from
stage_behind c b w e xs none before h order (Waits [] is at) =
    let same : e ≡ b.event = cc in
    let rest : xs ≡ b.behind = cc in
    let begins : is_begin e.step ≡ true = ap (λ (x : Event). is_begin x.step) same ∙ b.of_kind in
    let told : Tells w.allocations (world_behind c w e) = rw (begin_is e.step begins) (tells_at_begin c w e.seat) in
    Begun (rw rest none) (subst (λ (v : World). Tells v.allocations (world_behind c w e)) at told)
stage_behind c b w e xs none before h order (Waits (y ∷ front) is at) =
    let same : e ≡ y = cc in
    let rest : xs ≡ front ++ b.event ∷ b.behind = cc in
    Waits front rest (ap (λ (z : Event). left_from c (world_behind c w z) front) same ∙ at)
stage_behind c b w e xs none before h order (Begun out t) = grind (arith, or_parts, tells_behind, Begun)

pub snapshots_are_of_cycles : SnapshotsAreOfCycles
unfolding LayoutPremisesFrom
snapshots_are_of_cycles c es limits on others begin none cycling i u =
    let all = along_enabled (λ w xs. LayoutPremisesFrom c w xs × StandsInOrder c w × Stage c begin w xs)
    (λ w e xs lengths known here p. (
      p.0.1,
      order_behind e limits lengths known here p.0.0 p.1,
      stage_behind c begin w e xs none (known_before limits lengths known p.0.0 p.1.quarantined)
          (enabled_meets c w.now e here) p.1 p.2,
    )) es limits on (others, in_order_at_first c, Waits begin.before begin.is refl) in
    by all.1 all.2
  where
    by : StandsInOrder c (left c es) → Stage c begin (left c es) [] → has_bit_of c (left c es).now.words.snapshot
        (placed_at (left c es).allocations i) ≡ is_quarantined (placed_at (left c begin.before).allocations i)
    by order (Waits [] is at) = cc
    by order (Waits (y ∷ front) is at) = cc
    by order (Begun out t) = order.snapshot.quarantined cycling i u ∙ t.flags i u
