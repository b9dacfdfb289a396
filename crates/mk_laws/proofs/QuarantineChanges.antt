-- The quarantine after the steps that change allocations: `release`, `quar` (a), `grant`, `begin`.
use Rattle.std.proofs.{Common.pow-suc, Math.Pow.pow_mono, lemmas.Nat.or_lt}
use Rattle.mk_laws.proofs.Vocabulary.{Bool, Cell, Config, Granted, Ground, HasQuarantine, IsFreedCell, IsSized}
use Rattle.mk_laws.proofs.Vocabulary.{IsWithinLimits, List, Object, Option, PlacedAllocation, Placing, RunPages, Some}
use Rattle.mk_laws.proofs.Vocabulary.{Words, World, ℕ, ap, arith, cases_Bool, cell_ends, cell_of_allocation, cells_made}
use Rattle.mk_laws.proofs.Vocabulary.{changed_at, class_known, class_made, class_words_of, cond-true, false}
use Rattle.mk_laws.proofs.Vocabulary.{freed_released, freed_where_it_stands, ground_of, has_bit, has_place}
use Rattle.mk_laws.proofs.Vocabulary.{if◌then◌else◌, inl, inr, is_released_in, is_small_object, large_cells, length}
use Rattle.mk_laws.proofs.Vocabulary.{map, mul-le, no_longer_fresh, placed_at, quarantine_word, slice_index, slice_set}
use Rattle.mk_laws.proofs.Vocabulary.{small, small_cells, stands_in, suc, sym, true, true≢false, with_released, [], ◌%◌}
use Rattle.mk_laws.proofs.Vocabulary.{◌*◌, ◌++◌, ◌+◌, ◌/◌, ◌<◌, ◌^◌, ◌∙◌, ◌∷◌, ◌≡◌, ◌≤◌, ◌⊎◌}
use Rattle.mk_laws.proofs.Basics.{IsStanding, LeavesCells, bit_cases, freeing_leaves, releasing_leaves, same_cell}
use Rattle.mk_laws.proofs.{Granted.{pushed_at, still_at}, LayoutByKind.fresh_cells, QuarantineSteps.least_set}
use Rattle.mk_laws.proofs.{Released.left_is, Terrain.IsCellOf}
use Rattle.mk_geom.proofs.ClassTable.{class_words_within}
use Rattle.mk_core.proofs.WordBits.{added_here, added_other, sum_is_or}

-- A freed cell after a change that leaves its allocation unreleased, and freed.
pub freed_behind : {c : Config} {g : PlacedAllocation → PlacedAllocation} {xs : List PlacedAllocation} {p k : ℕ}
    → LeavesCells g → (o : IsFreedCell c xs p k) → (g (placed_at xs o.number)).released ≡ false
    → (g (placed_at xs o.number)).freed ≡ true → IsFreedCell c (map g xs) p k
freed_behind leaves o u f = grind (arith, changed_at, same_cell)

-- An unreleased allocation after a change, at its number before it.
pub record BeforeChange (c : Config) (g : PlacedAllocation
    → PlacedAllocation) (xs : List PlacedAllocation) (i : ℕ) : Type 0 where
  pub now : placed_at (map g xs) i ≡ g (placed_at xs i)
  pub unreleased : (g (placed_at xs i)).released ≡ false
  pub was : (placed_at xs i).released ≡ false
  pub cell : cell_of_allocation c (placed_at (map g xs) i) ≡ cell_of_allocation c (placed_at xs i)

pub before_change : (c : Config) {g : PlacedAllocation → PlacedAllocation} (xs : List PlacedAllocation) (i : ℕ)
    → LeavesCells g → (placed_at (map g xs) i).released ≡ false → BeforeChange c g xs i
before_change c xs i leaves u = grind (arith, changed_at, same_cell)

-- `release`: what stays isn't released, and what goes is
pub release_kept : {c : Config} (w : World) → IsWithinLimits c
    → ((i : ℕ) → (placed_at w.allocations i).released ≡ false → IsStanding c w.now.words (placed_at w.allocations i))
    → HasQuarantine c false w.now.words.marks (ground_of w) → HasQuarantine c true w.now.words.marks
    (record (ground_of w) { allocations = map (with_released c w.now.words) w.allocations })
release_kept {c} w limits stand q = record {
  small = q.small;
  within = q.within;
  owned = λ p k h. owned p k (q.owned p k h);
  shown = λ i u f. grind (arith, before_change);
  taken = q.taken;
  kept = grind (arith, before_change, left_is);
}
  where
    leaves : LeavesCells (with_released c w.now.words)
    leaves = releasing_leaves c w.now.words

    owned : (p k : ℕ) → IsFreedCell c w.allocations p k ⊎ (is_released_in false w.now.words.snapshot w.now.words.marks p
        k ≡ true) → IsFreedCell c (map (with_released c w.now.words) w.allocations) p k ⊎
        (is_released_in true w.now.words.snapshot w.now.words.marks p k ≡ true)
    owned p k (inr r) = absurd (true≢false (sym r))
    owned p k (inl o) = elim (cases_Bool (with_released c w.now.words (placed_at w.allocations o.number)).released) [
      | inr u ↦ inl (freed_behind leaves o u o.freed)
      | inl r ↦ grind (arith, left_is)
    ]

-- `begin`
pub begin_kept : {c : Config} {releasing : Bool} {marks : List ℕ} {t : Ground} → HasQuarantine c releasing marks t
    → HasQuarantine c releasing marks (record t { allocations = map no_longer_fresh t.allocations })
begin_kept {c} {t} q = record {
  small = q.small;
  within = q.within;
  owned = λ p k h. elim (q.owned p k h) [
    | inl o ↦ inl (freed_behind fresh_cells o o.unreleased o.freed)
    | inr r ↦ inr r
  ];
  shown = λ i u f. grind (arith, before_change, fresh_cells);
  taken = q.taken;
  kept = λ on i u. grind (arith, before_change, fresh_cells);
}

-- `grant`
pub grant_kept : (c : Config) (marks : List ℕ) (t : Ground) (a : PlacedAllocation) → a.freed ≡ false
    → HasQuarantine c false marks t
    → HasQuarantine c false marks (record t { placing = Granted; allocations = t.allocations ++ a ∷ [] })
grant_kept c marks t a unfreed q = grind (arith, small, still_at, pushed_at)

-- a page has at most 32 cells
pub index_small : (o : Object) (k : ℕ) → IsSized o → k < cells_made o → k < 32
index_small o k sized lt = elim (cases_Bool (is_small_object o)) [
  | inl small ↦
      let cells = small_cells o small in
      let range = class_words_within (class_made o) (class_known o sized small).0 in
      let ends = cell_ends k (class_words_of (class_made o)) (omega arith) in
      let m = mul-le k 2 k (class_words_of (class_made o)) (omega arith) range.0 in
      omega arith
  | inr large ↦ let one = large_cells o large in omega arith
]

pub freed_stays : (w : Words) (cell : Cell) (a : PlacedAllocation) → a.freed ≡ true
    → (freed_where_it_stands w (Some cell) a).freed ≡ true
freed_stays w cell a f = grind arith

freed_by : (b : Bool) (a : PlacedAllocation) → (if b then record a { freed = true; fresh = true } else a).freed ≡ true
    → (b ≡ true) ⊎ (a.freed ≡ true)
freed_by b a f = grind arith

-- what the step finds
pub record FreesHere (c : Config) (w : World) (cell : Cell) (n : ℕ) : Type 0 where
  pub page : cell.page < length w.now.words.freed
  pub in_snapshot : cell.page < length w.now.words.snapshot
  pub index : cell.index < 32
  pub own : IsCellOf c w.allocations cell
  pub stands : stands_in w.now.words cell (placed_at w.allocations own.number) ≡ true
  pub others : (i : ℕ) → (placed_at w.allocations i).released ≡ false
      → stands_in w.now.words cell (placed_at w.allocations i) ≡ true
      → cell_of_allocation c (placed_at w.allocations i) ≡ cell
  pub unset : has_bit (slice_index w.now.words.freed cell.page) cell.index ≡ false
  pub value : n ≡ quarantine_word (slice_index w.now.words.freed cell.page + 2 ^ cell.index)
      (slice_index w.now.words.snapshot cell.page)
  pub unplaced : has_place w.now.seats.holding.placing ≡ false

-- the halves of the value that it stores
pub free_halves : {c : Config} {w : World} {cell : Cell} {n : ℕ} → FreesHere c w cell n
    → HasQuarantine c false w.now.words.marks (ground_of w) → (n % 2 ^ 32 ≡ slice_index w.now.words.freed cell.page + 2
    ^ cell.index) × (n / 2 ^ 32 ≡ slice_index w.now.words.snapshot cell.page)
free_halves {w} {cell} x q = let e = x.value in let s = sum in (omega arith, omega arith)
  where
    sum : slice_index w.now.words.freed cell.page + 2 ^ cell.index < 2 ^ 32
    sum =
        let a = (q.small cell.page).0 in
        let lt = x.index in
        let more : 2 * 2 ^ cell.index ≤ 2 ^ 32 = (let le : suc cell.index ≤ 32 = omega arith in let p : 2 ^ suc
        cell.index ≤ 2 ^ 32 = pow_mono le in let s = pow-suc 2 cell.index in omega arith) in
        let some : 1 ≤ 2 ^ cell.index =
        (let z : 0 ≤ cell.index = omega arith in let p : 2 ^ 0 ≤ 2 ^ cell.index = pow_mono z in omega arith) in
        let b = or_lt 32 _ (2 ^ cell.index) a (omega arith) in
        let e = sum_is_or _ cell.index x.unset in
        omega arith

pub free_kept : {c : Config} {w : World} {cell : Cell} (run : Option RunPages) {n : ℕ} → FreesHere c w cell n
    → HasQuarantine c false w.now.words.marks (ground_of w) → HasQuarantine c false w.now.words.marks (record (ground_of
    w) {
      freed = slice_set w.now.words.freed cell.page (n % 2 ^ 32);
      snapshot = slice_set w.now.words.snapshot cell.page
          (n / 2 ^ 32);
      run = run;
      allocations = map (freed_where_it_stands w.now.words (Some cell)) w.allocations;
    })
free_kept {c} {w} {cell} run {n = n} x q = record {
  small = λ i. (
    least_set w.now.words.freed cell.page (n % 2 ^ 32) i x.page (omega arith) (q.small i).0,
    least_set w.now.words.snapshot cell.page (n / 2 ^ 32) i x.in_snapshot
        (let h = high in let s = (q.small cell.page).1 in omega arith) (q.small i).1,
  );
  within = λ i k h. grown i k (q.within i k (grind (arith, bit_cases, high)));
  owned = owned;
  shown = λ i u f.
      let b = before_change c w.allocations i leaves u in
      let a : PlacedAllocation = placed_at w.allocations i in
      ap (λ (y : Cell). has_bit (slice_index (slice_set w.now.words.freed cell.page (n % 2 ^ 32)) y.page) y.index)
      b.cell ∙ elim (freed_by (stands_in w.now.words cell a) a (rw (← b.now) f)) [
        | inl here ↦
            cc (x.others i b.was here, set_here)
        | inr old ↦ grown (cell_of_allocation c a).page (cell_of_allocation c a).index (q.shown i b.was old)
      ];
  taken = λ place used. absurd (true≢false (ap (λ (p : Placing). has_place p) (sym used) ∙ x.unplaced));
  kept = λ on. absurd (true≢false (sym on));
}
  where
    leaves : LeavesCells (freed_where_it_stands w.now.words (Some cell))
    leaves = freeing_leaves w.now.words (Some cell)

    low : n % 2 ^ 32 ≡ slice_index w.now.words.freed cell.page + 2 ^ cell.index
    low = (free_halves x q).0

    high : n / 2 ^ 32 ≡ slice_index w.now.words.snapshot cell.page
    high = (free_halves x q).1

    set_here : has_bit (slice_index (slice_set w.now.words.freed cell.page (n % 2 ^ 32)) cell.page) cell.index ≡ true
    set_here = grind (arith, bit_cases, low, added_here)

    grown : (i k : ℕ) → has_bit (slice_index w.now.words.freed i) k ≡ true
        → has_bit (slice_index (slice_set w.now.words.freed cell.page (n % 2 ^ 32)) i) k ≡ true
    grown i k h = elim (bit_cases w.now.words.freed cell.page (n % 2 ^ 32) i k x.page) [
      | inr other ↦ other.1 ∙ h
      | inl here ↦ grind (arith, low, added_here, added_other)
    ]

    still : (i k : ℕ) → IsFreedCell c w.allocations i k
        → IsFreedCell c (map (freed_where_it_stands w.now.words (Some cell)) w.allocations) i k
    still i k o = freed_behind leaves o
        (grind (arith, freed_released)) (freed_stays w.now.words cell (placed_at w.allocations o.number) o.freed)

    was : (i k : ℕ) → has_bit (slice_index w.now.words.freed i) k ≡ true
        → IsFreedCell c (map (freed_where_it_stands w.now.words (Some cell)) w.allocations) i k
    was i k h = elim (q.owned i k h) [ inl o ↦ still i k o | inr r ↦ absurd (true≢false (sym r)) ]

    owned : (i k : ℕ) → has_bit (slice_index (slice_set w.now.words.freed cell.page (n % 2 ^ 32)) i) k ≡ true
        → IsFreedCell c (map (freed_where_it_stands w.now.words (Some cell)) w.allocations) i k
        ⊎ (is_released_in false (slice_set w.now.words.snapshot cell.page (n / 2 ^ 32)) w.now.words.marks i k ≡ true)
    owned i k h = grind (arith, bit_cases, was, added_other, low, changed_at, leaves, cond-true)
