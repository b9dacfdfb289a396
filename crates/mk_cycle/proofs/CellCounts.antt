-- Bits of the pages' cells are as many as the allocations in these cells, and weigh as much.
use Rattle.std.proofs.Common.{count_ones, nat_eq}
use Rattle.std.proofs.lemmas.{List.FromFn.get_or-map-range_with_len, Nat.{and_mask, Bits.bit_at_above}}
use Rattle.mk_words.proofs.Below.Laws.Vocabulary.{Bool, Cell, Config, Event, IsHistory, List, PlacedAllocation, ℕ}
use Rattle.mk_words.proofs.Below.Laws.Vocabulary.{and_from, and_parts, ap, arith, bit_at, cases_lt, cell_of_allocation}
use Rattle.mk_words.proofs.Below.Laws.Vocabulary.{cond, eq-eqb, eqb-true, false, get_or, get_or_past, has_bit}
use Rattle.mk_words.proofs.Below.Laws.Vocabulary.{histories_keep_lengths, inl, inr, left, never_behind, never_granted}
use Rattle.mk_words.proofs.Below.Laws.Vocabulary.{phase_of, placed_at, slice_index, subst, sym, true, ◌%◌, ◌&&◌, ◌*◌}
use Rattle.mk_words.proofs.Below.Laws.Vocabulary.{◌<◌, ◌==◌, ◌^◌, ◌∙◌, ◌≡◌, ◌≢◌, ◌≤◌, ◌⊎◌}
use Rattle.mk_words.proofs.Below.Laws.InvariantHistories.{histories_keep_the_invariant}
use Rattle.mk_words.proofs.Below.Laws.{KnownWorlds.known_world, ReadingsStands.freed_cell}
use Rattle.mk_words.proofs.Below.Laws.Settled.{unreleased_are_apart}
use Rattle.mk_cycle.proofs.Vocabulary.{count_by, sum_below, sum_by}
use Rattle.mk_geom.specs.PageUses.{bits_of}
use Rattle.mk_core.proofs.Below.Books.UsedBitLemmas.{count_ones-masked, length-bits_of}
use Rattle.mk_cycle.proofs.SumsBelow.{counted_by_key, counted_by_place, one_if_any, sum_same, weighed_by_key}

-- the bits of a word that fits the low half
ones_below : (word : ℕ) → word < 2 ^ 32 → count_ones word ≡ sum_below 32 (λ k. cond (has_bit word k) 1 0)
ones_below word small =
    let whole : word % 2 ^ 32 ≡ word = omega arith in
    ap count_ones (sym whole ∙ sym (and_mask word 32)) ∙ count_ones-masked 32 word
    ∙ counted_by_place false (λ b. b) (bits_of 32 word)
    ∙ ap (λ (n : ℕ). sum_below n (λ k. cond (get_or (bits_of 32 word) k false) 1 0)) (length-bits_of 32 word)
    ∙ sum_same 32 (λ k. cond (get_or (bits_of 32 word) k false) 1 0) (λ k. cond (has_bit word k) 1 0)
    (λ k lt. ap (λ (b : Bool). cond {A = ℕ} b 1 0)
    (get_or-map-range_with_len (λ k. nat_eq (bit_at word k) 1) 0 32 k k false lt (omega arith)))

succ_not_zero : ◌≡◌ {A = ℕ} 1 0 → ⊥
succ_not_zero e = omega arith

-- The chosen allocations are freed and unreleased, and the bits are those of their cells.
pub record AreTheirBits (c : Config) (es : List Event) (chosen : PlacedAllocation → Bool) (bits : ℕ → ℕ) : Type 0 where
  pub none : chosen never_granted ≡ false
  pub small : (p : ℕ) → bits p < 2 ^ 32
  pub within : (p k : ℕ) → has_bit (bits p) k ≡ true → has_bit (slice_index (left c es).now.words.freed p) k ≡ true
  pub quarantined : (i : ℕ) → chosen (placed_at (left c es).allocations i) ≡ true
      → ((placed_at (left c es).allocations i).released ≡ false) × ((placed_at (left c es).allocations i).freed ≡ true)
  pub same : (i : ℕ) → (placed_at (left c es).allocations i).released ≡ false
      → (placed_at (left c es).allocations i).freed ≡ true
      → chosen (placed_at (left c es).allocations i)
      ≡ has_bit (bits (cell_of_allocation c (placed_at (left c es).allocations i)).page)
      (cell_of_allocation c (placed_at (left c es).allocations i)).index

module _ (c : Config) (es : List Event) (h : IsHistory c es) (quiet : phase_of (left c es).now.words ≢ 4)
    (chosen : PlacedAllocation → Bool) (bits : ℕ → ℕ) (are : AreTheirBits c es chosen bits) where
  abbrev xs : List PlacedAllocation
  xs = (left c es).allocations

  -- the chosen allocations on a page, and those in a cell of it

  on_page : ℕ → PlacedAllocation → Bool
  on_page p a = chosen a && ((cell_of_allocation c a).page == p)

  in_cell : ℕ → ℕ → PlacedAllocation → Bool
  in_cell p k a = on_page p a && ((cell_of_allocation c a).index == k)

  chosen_cell : (p k : ℕ) (a : PlacedAllocation) → in_cell p k a ≡ true
      → (chosen a ≡ true) × (cell_of_allocation c a ≡ record { page = p; index = k })
  unfolding in_cell on_page
  chosen_cell p k a is = grind (arith, and_parts, on_page, eqb-true)

  cell_chosen : (p k : ℕ) (a : PlacedAllocation) → chosen a ≡ true
      → cell_of_allocation c a ≡ record { page = p; index = k } → in_cell p k a ≡ true
  unfolding in_cell on_page
  cell_chosen p k a is cell = grind (arith, and_from, on_page, eq-eqb)

  bit_of : (i : ℕ) → chosen (placed_at xs i) ≡ true
      → has_bit (bits (cell_of_allocation c (placed_at xs i)).page) (cell_of_allocation c (placed_at xs i)).index ≡ true
  bit_of i is = let q = are.quarantined i is in sym (are.same i q.0 q.1) ∙ is

  counted_in_cell : (p k : ℕ) → count_by (in_cell p k) xs ≡ cond (has_bit (bits p) k) 1 0
  unfolding in_cell on_page
  counted_in_cell p k =
      let all = histories_keep_the_invariant c es h in
      let known = known_world c es h.within_limits h.enabled in
      one_if_any never_granted (in_cell p k) (has_bit (bits p) k) xs (ap (λ b. b && ((cell_of_allocation c
      never_granted).page == p) && ((cell_of_allocation c never_granted).index == k)) are.none) (λ bit.
      let o = freed_cell c (left c es) (never_behind c es) known all quiet (record { page = p; index = k })
      (are.within p k bit) in (
        o.number,
        cell_chosen p k (placed_at xs o.number) (are.same o.number o.unreleased o.freed ∙ ap
            (λ (y : Cell). has_bit (bits y.page) y.index) o.cell ∙ bit) o.cell,
      )) (λ i there.
      let x = chosen_cell p k (placed_at xs i) there in
      subst (λ (y : Cell). has_bit (bits y.page) y.index ≡ true) x.1 (bit_of i x.0)) (λ i j a b.
      let x = chosen_cell p k (placed_at xs i) a in
      let y = chosen_cell p k (placed_at xs j) b in
      unreleased_are_apart c es all.order.laid i j (are.quarantined i x.0).0 (are.quarantined j y.0).0 (x.1 ∙ sym y.1))

  -- a cell with a bit is one of 32 of a page
  in_range : (p k : ℕ) → has_bit (bits p) k ≡ true → (p < c.pages) × (k < 32)
  in_range p k bit = (by (cases_lt p c.pages), there (cases_lt k 32))
    where
      by : (p < c.pages) ⊎ (c.pages ≤ p) → p < c.pages
      by (inl lt) = lt
      by (inr past) =
          let none : slice_index (left c es).now.words.freed p ≡ 0 = get_or_past (left c es).now.words.freed p 0
          (subst (λ (n : ℕ). n ≤ p) (sym (histories_keep_lengths c es).freed) past) in
          let one : bit_at (slice_index (left c es).now.words.freed p) k ≡ 1 = eqb-true _ 1 (are.within p k bit) in
          let zero : bit_at 0 k ≡ 0 = bit_at_above 0 0 k (omega arith) (omega arith) in
          absurd (succ_not_zero (sym one ∙ ap (λ (n : ℕ). bit_at n k) none ∙ zero))

      there : (k < 32) ⊎ (32 ≤ k) → k < 32
      there (inl lt) = lt
      there (inr past) =
          let one : bit_at (bits p) k ≡ 1 = eqb-true _ 1 bit in
          absurd (succ_not_zero (sym one ∙ bit_at_above (bits p) 32 k (are.small p) past))

  allocation_in_range : (i : ℕ) → chosen (placed_at xs i) ≡ true
      → ((cell_of_allocation c (placed_at xs i)).page < c.pages) × ((cell_of_allocation c (placed_at xs i)).index < 32)
  allocation_in_range i is = grind (arith, in_range, xs, bit_of)

  counted_on_page : (p : ℕ) → count_by (on_page p) xs ≡ count_ones (bits p)
  unfolding in_cell on_page
  counted_on_page p =
      counted_by_key never_granted (on_page p) (λ a. (cell_of_allocation c a).index) 32 xs
      (λ i lt here. (allocation_in_range i
      (and_parts (chosen (placed_at xs i)) ((cell_of_allocation c (placed_at xs i)).page == p) here).0).1)
      ∙ sum_same 32 (λ k. count_by (in_cell p k) xs) (λ k. cond (has_bit (bits p) k) 1 0) (λ k lt. counted_in_cell p k)
      ∙ sym (ones_below (bits p) (are.small p))

  -- by a weight that goes by the page
  pub cells_weigh_as_much : (weight : ℕ → ℕ) → sum_below c.pages (λ p. count_ones (bits p) * weight p)
      ≡ sum_by (λ a. cond (chosen a) (weight (cell_of_allocation c a).page) 0) xs
  unfolding on_page
  cells_weigh_as_much weight =
      sym (weighed_by_key never_granted chosen (λ a. (cell_of_allocation c a).page) weight _ xs
      (λ i lt here. (allocation_in_range i here).0) ∙ sum_same _ (λ p. count_by (on_page p) xs * weight p)
      (λ p. count_ones (bits p) * weight p) (λ p lt. ap (λ (n : ℕ). n * weight p) (counted_on_page p)))

  pub cells_are_as_many : sum_below c.pages (λ p. count_ones (bits p)) ≡ count_by chosen xs
  unfolding on_page
  cells_are_as_many =
      sym (counted_by_key never_granted chosen (λ a. (cell_of_allocation c a).page) c.pages xs
      (λ i lt here. (allocation_in_range i here).0)
      ∙ sum_same c.pages (λ p. count_by (on_page p) xs) (λ p. count_ones (bits p)) (λ p lt. counted_on_page p))
