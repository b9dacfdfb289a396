-- After a `release` the released cells have no word of a mapped allocation.
use Rattle.std.proofs.Math.Bool.{and-false}
use Rattle.mk_cycle.proofs.Vocabulary.{Acts, AreFreeCells, HasFreeCells, IsAtPhase, IsGone, IsOccupied, IsTurn}
use Rattle.mk_cycle.proofs.Vocabulary.{PassState, allocations_stand, holder_finds, left_unmarked, made, now_of, stands}
use Rattle.mk_cycle.{proofs.Vocabulary.{world_at}, specs.Freeing.{is_occupied_page}}
use Rattle.mk_words.proofs.Below.Laws.Vocabulary.{Bool, Config, Event, Header, InPlot, IsFreedCell, IsHistory, IsWordOf}
use Rattle.mk_words.proofs.Below.Laws.Vocabulary.{IsWordOfMapped, List, Object, Option, PlacedAllocation, Placing}
use Rattle.mk_words.proofs.Below.Laws.Vocabulary.{ShowsPart, Steady, Step, World, ℕ, and_parts, ap, arith, cases_eq}
use Rattle.mk_words.proofs.Below.Laws.Vocabulary.{cells_begin, changed_at, eq-eqb, false, has_bit, has_bit_without}
use Rattle.mk_words.proofs.Below.Laws.Vocabulary.{has_place, head_page, header_at, header_in, header_shows, inl, inr}
use Rattle.mk_words.proofs.Below.Laws.Vocabulary.{is_large, is_mapped, is_phase, is_run_gone, is_small_object}
use Rattle.mk_words.proofs.Below.Laws.Vocabulary.{is_unmapped_header, kinds_of, large_is_not_small, map, ne_eqb, not}
use Rattle.mk_words.proofs.Below.Laws.Vocabulary.{object_placed, or_right, pages_made, pages_some, phase_of, placed_at}
use Rattle.mk_words.proofs.Below.Laws.Vocabulary.{plot_of, refl, released_where_left, slice_index, storage_of, subst}
use Rattle.mk_words.proofs.Below.Laws.Vocabulary.{sym, true, true≢false, typed_size, used_at, with_released}
use Rattle.mk_words.proofs.Below.Laws.Vocabulary.{words_under, ◌&&◌, ◌*◌, ◌++◌, ◌+◌, ◌/◌, ◌<◌, ◌==◌, ◌||◌, ◌∙◌, ◌≡◌}
use Rattle.mk_words.proofs.Below.Laws.FreeWords.{unmapped_words_are_zero}
use Rattle.mk_words.proofs.Below.Laws.{InvariantHistories.allocations_are_disjoint, MappedWords.mapped_stays}
use Rattle.mk_words.specs.Below.Laws.WordLaws.{IsOfNoneMapped}
use Rattle.mk_core.proofs.StandingAllocations.{placed_cell}

pub plus_zero : (n : ℕ) → n + 0 ≡ n
plus_zero n = omega arith

-- What shows an unmapped run shows a large object.
pub unmapped_is_large : {o : Object} {x : Option Header} → ShowsPart o 0 x → is_unmapped_header x ≡ true
    → is_small_object o ≡ false
unmapped_is_large x0 h = grind arith

module _ {d q : PassState} (t : IsTurn d) (u : IsTurn q) (at : IsAtPhase d 3) (a : Acts d Step.Release q) where
  abbrev c : Config
  c = d.table.config

  abbrev w : World
  w = world_at a.makes

  abbrev es : List Event
  es = d.seen ++ a.makes.others

  same_table : q.table.config ≡ c
  same_table = ap (λ (x : PassState). x.table.config) a.makes.is

  not_releasing : is_phase w.now.words 4 ≡ false
  not_releasing = ap (λ (s : Steady). s.phase == 4) a.turn.steady ∙ ap (λ (n : ℕ). n == 4) at

  -- the freed allocation of a released cell, before the release
  owner : (page k : ℕ) → has_bit (left_unmarked w.now.words page) k ≡ true → IsFreedCell c w.allocations page k
  owner page k has =
      let order = (stands c es (made d Step.Release q a.makes).history).all.order in
      let in_snapshot = (and_parts (has_bit (slice_index w.now.words.snapshot page) k)
      (not (has_bit (slice_index w.now.words.marks page) k))
      (sym (has_bit_without (slice_index w.now.words.snapshot page) (slice_index w.now.words.marks page) k) ∙ has)).0 in
      elim (order.quarantined.owned page k (order.quarantined.within page k in_snapshot)) [
        | inl f ↦ f
        | inr r ↦ grind (arith, not_releasing)
      ]

  -- no allocation that is still mapped has one of its words
  none_mapped : {page k : ℕ} (n : ℕ) (f : IsFreedCell c w.allocations page k)
      → has_bit (left_unmarked w.now.words page) k ≡ true → IsWordOf (storage_of c (placed_at w.allocations f.number)) n
      → IsWordOfMapped c (map (with_released c w.now.words) w.allocations) n → ⊥
  none_mapped n f has word m =
      let history = (made d Step.Release q a.makes).history in
      let x : PlacedAllocation = placed_at w.allocations m.number in
      let y : PlacedAllocation = placed_at w.allocations f.number in
      let same : placed_at (map (with_released c w.now.words) w.allocations) m.number ≡ with_released c w.now.words x =
      changed_at (with_released c w.now.words) w.allocations m.number refl in
      let mapped : is_mapped c (with_released c w.now.words x) ≡ true = grind arith in
      let kept : (with_released c w.now.words x).released ≡ false = grind (arith, and_parts) in
      let unreleased : x.released ≡ false = grind arith in
      let there : IsWordOf (storage_of c x) n = grind arith in
      let number : m.number ≡ f.number =
      allocations_are_disjoint c es history m.number f.number n unreleased f.unreleased there word in
      let st = allocations_stand c es history f.number f.unreleased in
      let gone : (with_released c w.now.words y).released ≡ true = grind (arith, released_where_left) in
      true≢false (sym gone
      ∙ ap (λ (i : ℕ). (with_released c w.now.words (placed_at w.allocations i)).released) (sym number) ∙ kept)

  -- The allocation of a cell whose header is that of an unmapped run isn't mapped,
  unmapped_owner : {page k : ℕ} (f : IsFreedCell c w.allocations page k)
      → is_unmapped_header (header_in w.now.words page) ≡ true → is_mapped c (placed_at w.allocations f.number) ≡ false
  unmapped_owner {page} f gone =
      let history = (made d Step.Release q a.makes).history in
      let y : PlacedAllocation = placed_at w.allocations f.number in
      let o : Object = object_placed c y in
      let st = allocations_stand c es history f.number f.unreleased in
      let sized = typed_size c y history.within_limits st.stands.typed in
      let here : y.base / 64 + 0 ≡ page = grind (arith, plus_zero, placed_cell) in
      let some : 0 < pages_made o = pages_some o sized in
      let shows : ShowsPart o 0 (header_in w.now.words page) = grind (arith, header_shows) in
      ap (λ (b : Bool). not y.released && not (b && is_large (kinds_of c.types y.ty))) f.freed
      ∙ ap (λ (b : Bool). not y.released && not b)
      (large_is_not_small (kinds_of c.types y.ty) ∙ ap not (unmapped_is_large shows gone)) ∙ and-false (not y.released)

  pub gone_there : IsGone d → is_run_gone w.now.words w.now.seats.holding.freed ≡ true
  gone_there gone = grind (arith, made, holder_finds)

  -- so its words are 0 by then.
  unmapped_is_zero : IsGone d → {page k : ℕ} (n : ℕ) (f : IsFreedCell c w.allocations page k)
      → is_unmapped_header (header_in w.now.words page) ≡ true
      → IsWordOf (storage_of c (placed_at w.allocations f.number)) n → slice_index w.now.words.heap n ≡ 0
  unmapped_is_zero gone {page = page} {k = k} n f unmapped word =
      let history = (made d Step.Release q a.makes).history in
      let three : phase_of w.now.words ≡ 3 = ap (λ (s : Steady). s.phase) a.turn.steady ∙ at in
      unmapped_words_are_zero c es history (λ four. absurd (omega arith)) (gone_there gone) n none
    where
      none : IsOfNoneMapped c w.allocations n
      none i mapped there =
          let history = (made d Step.Release q a.makes).history in
          let number : i ≡ f.number = allocations_are_disjoint c es history i f.number n
          (mapped_stays c (placed_at w.allocations i) mapped) f.unreleased there word in
          true≢false (sym (subst (λ (j : ℕ). is_mapped c (placed_at w.allocations j) ≡ true) number mapped)
          ∙ unmapped_owner f unmapped)

  -- A word of a released cell is one of its allocation.

  abbrev size : ℕ → ℕ
  size page = words_under (header_in w.now.words page)

  abbrev word_of : ℕ → ℕ → ℕ → ℕ
  word_of page k i = 64 * page + k * size page + i

  owned_word : {page k : ℕ} (i : ℕ) → has_bit (left_unmarked w.now.words page) k ≡ true → i < size page
      → (f : IsFreedCell c w.allocations page k) → (word_of page k i < 64 * c.pages) × IsWordOf
      (storage_of c (placed_at w.allocations f.number)) (word_of page k i)
  owned_word i has small f = grind (arith, made, allocations_stand, es, cells_begin)

  pub cells_are_free : IsGone d → (page : ℕ) → HasFreeCells q page
  cells_are_free gone page =
      subst (λ (x : World). AreFreeCells q page (header_at x.now.words page) (left_unmarked x.now.words page)) (sym
      a.world) (record {
        unmapped = λ k i has small.
            let f = owner page k has in
            let n : ℕ = word_of page k i in
            let own = owned_word i has small f in
            record {
              within = subst (λ (e : Config). n < 64 * e.pages) (sym same_table) own.0;
              unmapped = λ m. none_mapped n f has own.1
                  (subst (λ (e : Config). IsWordOfMapped e (map (with_released c w.now.words) w.allocations) n)
                  same_table (subst (λ (xs : List PlacedAllocation). IsWordOfMapped q.table.config xs n)
                  (ap (λ (x : World). x.allocations) a.world) m));
            };
        wiped = λ unmapped k i. λ has small.
            let f = owner page k has in
            ap (λ (x : World). slice_index x.now.words.heap (word_of page k i)) a.world
            ∙ unmapped_is_zero gone (word_of page k i) f unmapped (owned_word i has small f).1;
      })

  -- A page with a header has a used cell, a run's at its head: no New has a place.
  pub pages_are_occupied : has_place (now_of d).seats.holding.placing ≡ false → (page : ℕ) → IsOccupied q page
  pages_are_occupied none page = ap (λ (x : World). is_occupied_page x.now.words page) a.world ∙ there
    where
      history : IsHistory c es
      history = (made d Step.Release q a.makes).history

      unplaced : has_place w.now.seats.holding.placing ≡ false
      unplaced = grind (arith, holder_finds, history, made)

      no_plot : (o : Object) (placing : Placing) → has_place placing ≡ false → InPlot (plot_of o placing) page → ⊥
      no_plot o x1 h within = grind arith

      there : is_occupied_page w.now.words page ≡ true
      there = elim (cases_eq (header_at w.now.words page) 0) [
        | inl bare ↦ ap (λ (b : Bool). b || not (used_at w.now.words (head_page w.now.words page) == 0))
            (eq-eqb (header_at w.now.words page) 0 bare)
        | inr some ↦ elim (cases_eq (used_at w.now.words (head_page w.now.words page)) 0) [
          | inl unused ↦ elim ((stands c es history).all.order.laid.scene.occupied page some unused) [
            | inl releasing ↦ absurd (true≢false (sym releasing ∙ not_releasing))
            | inr within ↦ absurd (no_plot _ w.now.seats.holding.placing unplaced within)
          ]
          | inr used ↦ or_right _ _ (ap not (ne_eqb (used_at w.now.words (head_page w.now.words page)) 0 used))
        ]
      ]
