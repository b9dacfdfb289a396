-- The words of the pages after a `release` say what it released.
use Rattle.mk_words.proofs.Below.Laws.Vocabulary.{Bool, Cell, Config, Event, IsHistory, List, PlacedAllocation, Steady}
use Rattle.mk_words.proofs.Below.Laws.Vocabulary.{Step, Words, World, ℕ, and_from, and_parts, ap, arith}
use Rattle.mk_words.proofs.Below.Laws.Vocabulary.{cell_of_allocation, cells_begin, cond, false, fresh_words_of, has_bit}
use Rattle.mk_words.proofs.Below.Laws.Vocabulary.{has_bit_of, has_bit_without, header_in, is_cycling, is_large}
use Rattle.mk_words.proofs.Below.Laws.Vocabulary.{is_mapped, is_quarantined, kinds_of, left, length, map, never_granted}
use Rattle.mk_words.proofs.Below.Laws.Vocabulary.{not, not-true, phase_of, placed_at, refl, released_where_left}
use Rattle.mk_words.proofs.Below.Laws.Vocabulary.{slice_index, storage_words, sym, true, true≢false, with_released}
use Rattle.mk_words.proofs.Below.Laws.Vocabulary.{words_under, ◌&&◌, ◌++◌, ◌+◌, ◌||◌, ◌∙◌, ◌≡◌, ◌≢◌}
use Rattle.mk_cycle.proofs.Vocabulary.{Acts, HasReleased, IsAtPhase, IsTurn, PassState, Released, allocations_stand}
use Rattle.mk_cycle.proofs.Vocabulary.{and_le_l, cells_unmarked, count_by, left_unmarked, made, newly_released, now_of}
use Rattle.mk_cycle.proofs.Vocabulary.{released_below, stands, sum_below, sum_by, words_unmarked, world_at, world_of}
use Rattle.mk_cycle.proofs.CellCounts.{AreTheirBits, cells_are_as_many, cells_weigh_as_much}
use Rattle.mk_cycle.proofs.NewlyReleased.{is_new, left_filtered, newly_counted, newly_weighed, parts_at_each}
use Rattle.mk_cycle.proofs.{NewlyReleased.same_at_each, CellBits.has_bit_and}
use Rattle.mk_cycle.specs.{FinishCycle.is_in_snapshot_of_cycle, Freeing.cells_marked}
use Rattle.std.specs.Prelude.{bit_and}

-- a history whose next event may be a `release`
module _ {c : Config} {es : List Event} (h : IsHistory c es) (at : phase_of (left c es).now.words ≡ 3) where
  abbrev w : Words
  w = (left c es).now.words

  abbrev xs : List PlacedAllocation
  xs = (left c es).allocations

  abbrev f : PlacedAllocation → PlacedAllocation
  f = with_released c (left c es).now.words

  pub quiet : phase_of w ≢ 4
  quiet four = absurd (omega arith)

  cycling : is_cycling (phase_of w) ≡ true
  cycling = ap is_cycling at

  -- its snapshot bit, its mark, and whether it is left unmarked

  in_snapshot : (i : ℕ) → (placed_at xs i).released ≡ false
      → has_bit_of c w.snapshot (placed_at xs i) ≡ ((placed_at xs i).freed && not (placed_at xs i).fresh)
  in_snapshot i u = (stands c es h).all.order.snapshot.quarantined cycling i u

  left_where : (i : ℕ) → (placed_at xs i).released ≡ false → (f (placed_at xs i)).released ≡ has_bit
      (left_unmarked w (cell_of_allocation c (placed_at xs i)).page) (cell_of_allocation c (placed_at xs i)).index
  left_where i u = grind (arith, allocations_stand, released_where_left, xs)

  left_parts : (p k : ℕ) → has_bit (left_unmarked w p) k ≡ true → has_bit (slice_index w.snapshot p) k ≡ true
  left_parts p k has = grind (arith, and_parts, has_bit_without)

  within_freed : (p k : ℕ) → has_bit (slice_index w.snapshot p) k ≡ true → has_bit (slice_index w.freed p) k ≡ true
  within_freed = (stands c es h).all.order.quarantined.within

  -- what is released anew was in the snapshot
  new_is_in_snapshot : (i : ℕ) → is_new f (placed_at xs i) ≡ true → is_in_snapshot_of_cycle (placed_at xs i) ≡ true
  new_is_in_snapshot i new =
      let a : PlacedAllocation = placed_at xs i in
      let parts = and_parts (not a.released) (f a).released new in
      let u = not-true a.released parts.0 in
      let cell : Cell = cell_of_allocation c a in
      let bit = left_parts cell.page cell.index (sym (left_where i u) ∙ parts.1) in
      let both = and_parts a.freed (not a.fresh) (sym (in_snapshot i u) ∙ bit) in
      and_from (is_quarantined a) (not a.fresh) (and_from a.freed (not a.released) both.0 parts.0) both.1

  pub unmarked_are : AreTheirBits c es (is_new f) (left_unmarked w)
  unmarked_are = record {
    none = refl;
    small = λ p.
        let least = ((stands c es h).all.order.quarantined.small p).1 in
        omega arith;
    within = λ p k has. within_freed p k (left_parts p k has);
    quarantined = λ i new.
        let a : PlacedAllocation = placed_at xs i in
        let both = and_parts (is_quarantined a) (not a.fresh) (new_is_in_snapshot i new) in
        let parts = and_parts a.freed (not a.released) both.0 in
        (not-true a.released parts.1, parts.0);
    same = λ i u freed. ap (λ b. not b && (f (placed_at xs i)).released) u ∙ left_where i u;
  }

  abbrev is_kept : PlacedAllocation → Bool
  is_kept a = is_in_snapshot_of_cycle a && not (f a).released

  -- what is in the snapshot and marked, by what is released
  rest_is : (a : PlacedAllocation) (b m : Bool) → a.released ≡ false → a.freed ≡ true
      → b ≡ (a.freed && not a.fresh) → (f a).released ≡ (b && not m) → is_kept a ≡ (b && m)
  rest_is a b m u freed snapshot gone = grind arith

  marked_are : AreTheirBits c es is_kept (λ p. bit_and (slice_index w.snapshot p) (slice_index w.marks p))
  marked_are = record {
    none = refl;
    small = λ p.
        let least = ((stands c es h).all.order.quarantined.small p).1 in
        let fewer = and_le_l (slice_index w.snapshot p) (slice_index w.marks p) in
        omega arith;
    within = λ p k has. within_freed p k (and_parts (has_bit (slice_index w.snapshot p) k) (has_bit
        (slice_index w.marks p) k) (sym (has_bit_and (slice_index w.snapshot p) (slice_index w.marks p) k) ∙ has)).0;
    quarantined = λ i kept.
        let a : PlacedAllocation = placed_at xs i in
        let in_it = (and_parts (is_in_snapshot_of_cycle a) (not (f a).released) kept).0 in
        let both = (and_parts (is_quarantined a) (not a.fresh) in_it).0 in
        let parts = and_parts a.freed (not a.released) both in
        (not-true a.released parts.1, parts.0);
    same = λ i u freed.
        let a : PlacedAllocation = placed_at xs i in
        let cell : Cell = cell_of_allocation c a in
        let s : ℕ = slice_index w.snapshot cell.page in
        let m : ℕ = slice_index w.marks cell.page in
        rest_is a _ _ u freed (in_snapshot i u) (left_where i u ∙ has_bit_without s m cell.index) ∙ sym
        (has_bit_and s m cell.index);
  }

  storage_is : (i : ℕ) → cond (is_new f (placed_at xs i))
      (words_under (header_in w (cell_of_allocation c (placed_at xs i)).page)) 0
      ≡ cond (is_new f (placed_at xs i)) (storage_words c (placed_at xs i)) 0
  storage_is i = by (is_new f (placed_at xs i)) refl
    where
      by : (b : Bool) → is_new f (placed_at xs i) ≡ b → cond b (words_under
          (header_in w (cell_of_allocation c (placed_at xs i)).page)) 0 ≡ cond b (storage_words c (placed_at xs i)) 0
      by true new =
          let u = (unmarked_are.quarantined i new).0 in
          let st = allocations_stand c es h i u in
          (cells_begin c w (placed_at xs i) h.within_limits st.stands st.headers).1
      by false new = refl

  parts : (a : PlacedAllocation) → (is_new f a ≡ true → is_in_snapshot_of_cycle a ≡ true)
      → cond {A = ℕ} (is_in_snapshot_of_cycle a) 1 0 ≡ cond (is_kept a) 1 0 + cond (is_new f a) 1 0
  parts a new = grind arith

  pub count_told : sum_below c.pages (cells_unmarked w) ≡ length (newly_released xs (map f xs))
  count_told = cells_are_as_many c es h quiet (is_new f) (left_unmarked w) unmarked_are ∙ sym (newly_counted f xs)

  pub words_told : sum_below c.pages (words_unmarked w) ≡ sum_by (storage_words c) (newly_released xs (map f xs))
  words_told =
      cells_weigh_as_much c es h quiet (is_new f) _ unmarked_are (λ p. words_under (header_in w p)) ∙ same_at_each
      never_granted (λ a. cond (is_new f a) (words_under (header_in w (cell_of_allocation c a).page)) 0)
      (λ a. cond (is_new f a) (storage_words c a) 0) xs storage_is ∙ sym (newly_weighed f _ (λ a. refl) xs)

  pub kept_told : count_by is_in_snapshot_of_cycle xs
      ≡ sum_below c.pages (cells_marked w) + sum_below c.pages (cells_unmarked w)
  kept_told =
      let all = parts_at_each never_granted (λ a. cond {A = ℕ} (is_in_snapshot_of_cycle a) 1 0) (λ a. cond
      (is_kept a) 1 0) (λ a. cond (is_new f a) 1 0) xs (λ i. parts (placed_at xs i) (new_is_in_snapshot i)) in
      let marked = cells_are_as_many c es h quiet is_kept _ marked_are in
      let unmarked = cells_are_as_many c es h quiet (is_new f) (left_unmarked w) unmarked_are in
      omega arith

  abbrev is_counted_fresh : PlacedAllocation → Bool
  is_counted_fresh a = is_mapped c a && a.fresh

  -- What is fresh isn't released.
  fresh_is_left : (i : ℕ) → (placed_at xs i).fresh ≡ true → f (placed_at xs i) ≡ placed_at xs i
  fresh_is_left i fresh =
      let a : PlacedAllocation = placed_at xs i in
      ap (λ b. record a { released = b }) (by (f a).released refl ∙ sym u)
    where
      u : (placed_at xs i).released ≡ false
      u = ((stands c es h).all.order.snapshot.fresh i fresh).1

      by : (b : Bool) → (f (placed_at xs i)).released ≡ b → (f (placed_at xs i)).released ≡ false
      by false is = is
      by true is =
          let a : PlacedAllocation = placed_at xs i in
          let new : is_new f a ≡ true = and_from (not a.released) (f a).released (ap not u) is in
          let stale = (and_parts (is_quarantined a) (not a.fresh) (new_is_in_snapshot i new)).1 in
          absurd (true≢false (sym fresh ∙ not-true a.fresh stale))

  pub fresh_stays : fresh_words_of c (map f xs) ≡ fresh_words_of c xs
  fresh_stays =
      ap (λ (ys : List PlacedAllocation). sum_by (storage_words c) ys)
      (left_filtered f is_counted_fresh never_granted xs (λ i is. fresh_is_left i
      (and_parts (is_mapped c (placed_at xs i)) (placed_at xs i).fresh is).1) (λ i isnt. none (placed_at xs i) isnt))
    where
      by : (was gone mapped fresh : Bool) → ((not was && mapped) && fresh) ≡ false
          → ((not (was || gone) && mapped) && fresh) ≡ false
      by x0 gone mapped fresh isnt = grind arith

      none : (a : PlacedAllocation) → is_counted_fresh a ≡ false → is_counted_fresh (f a) ≡ false
      none a isnt = by a.released _ (not (a.freed && is_large (kinds_of c.types a.ty))) a.fresh isnt

-- A pass that made the `release` knows it so.
module _ {d q : PassState} (t : IsTurn d) (u : IsTurn q) (at : IsAtPhase d 3) (a : Acts d Step.Release q) where
  there : IsHistory d.table.config (d.seen ++ a.makes.others)
  there = (made d Step.Release q a.makes).history

  pub phase_there : phase_of (world_at a.makes).now.words ≡ 3
  phase_there = ap (λ (s : Steady). s.phase) a.turn.steady ∙ at

  pub same_before : (world_at a.makes).allocations ≡ (world_of d).allocations
  same_before = ap (λ (s : Steady). s.allocations) a.turn.steady

  behind : (world_of q).allocations
      ≡ map (with_released d.table.config (world_at a.makes).now.words) (world_at a.makes).allocations
  behind = ap (λ (x : World). x.allocations) a.world

  newly : newly_released (world_of d).allocations (world_of q).allocations
      ≡ newly_released (world_at a.makes).allocations
      (map (with_released d.table.config (world_at a.makes).now.words) (world_at a.makes).allocations)
  newly = grind (arith, xs, same_before, behind)

  pub release_tells : HasReleased d q (released_below (now_of q).words d.table.config.pages)
  release_tells =
      let c : Config = d.table.config in
      let es : List Event = d.seen ++ a.makes.others in
      let words : released_below (now_of q).words c.pages ≡ released_below (world_at a.makes).now.words c.pages =
      ap (λ (x : World). released_below x.now.words c.pages) a.world in
      record {
        count = cc (words, count_told there phase_there, newly);
        words = cc (words, words_told there phase_there, newly);
        kept = cc (same_before, kept_told there phase_there, words);
      }

  pub fresh_words_stay : fresh_words_of d.table.config (world_of q).allocations
      ≡ fresh_words_of d.table.config (world_of d).allocations
  fresh_words_stay = grind (arith, xs, behind, fresh_stays, there, phase_there, same_before)

-- What is said of one pass is said of another that knows the same allocations before, and of one that does after.
pub told_from : (p : PassState) {d q : PassState} {r : Released} → d.table.config ≡ p.table.config
    → (world_of d).allocations ≡ (world_of p).allocations → HasReleased d q r → HasReleased p q r
told_from p table same told = grind arith

pub told_to : {p d : PassState} (q : PassState) {r : Released} → (world_of q).allocations ≡ (world_of d).allocations
    → HasReleased p d r → HasReleased p q r
told_to q same told = grind arith
