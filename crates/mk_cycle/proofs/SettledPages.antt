-- Pages are settled one after the other.
use Rattle.mk_cycle.proofs.Vocabulary.{AreFreeCells, Frees, FreesPage, GivesNothingBack, HasFreeCells, IsAtPhase}
use Rattle.mk_cycle.proofs.Vocabulary.{IsOccupied, IsSettledPage, IsTurn, PassState, SamePage, allocations_stand}
use Rattle.mk_cycle.proofs.Vocabulary.{left_unmarked, now_of, page_state, stands, world_of}
use Rattle.mk_cycle.proofs.PageSteps.{page_at_once, page_then, same_header, same_left, same_used}
use Rattle.mk_cycle.proofs.{CleaningSteps.halves, GivingSteps.still_unmapped_word}
use Rattle.mk_words.proofs.Below.Laws.Vocabulary.{Bool, Header, IsFreedCell, Option, Some, Words, ℕ, and_from}
use Rattle.mk_words.proofs.Below.Laws.Vocabulary.{and_parts, ap, arith, empties, eq-eqb, eqb-false, eqb-true, false}
use Rattle.mk_words.proofs.Below.Laws.Vocabulary.{false_from_ne_true, has_bit, has_bit_without, head_page}
use Rattle.mk_words.proofs.Below.Laws.Vocabulary.{head_page_under, header_at, header_in, header_of, inl, inr, is_phase}
use Rattle.mk_words.proofs.Below.Laws.Vocabulary.{is_released_in, ne_eqb, no_bit, not, not-true, or_cases}
use Rattle.mk_words.proofs.Below.Laws.Vocabulary.{quarantine_word, refl, run_count, slice_index, subst, sym, true}
use Rattle.mk_words.proofs.Below.Laws.Vocabulary.{true≢false, used_at, without, ◌&&◌, ◌+◌, ◌-◌, ◌/◌, ◌<◌, ◌==◌, ◌^◌}
use Rattle.mk_words.proofs.Below.Laws.Vocabulary.{◌||◌, ◌∙◌, ◌≡◌, ◌≢◌, ◌≤◌, ◌⊎◌}
use Rattle.mk_words.proofs.Below.Laws.FreePages.{free_pages_have_nothing}
use Rattle.mk_core.proofs.WordBits.{zero_from_bits}
use Rattle.mk_core.specs.MarkingConditions.{has_settled_page}
use Rattle.mk_cycle.specs.Freeing.{GivesBack, is_occupied_page}

-- Free cells stay so, those of a page whose words are the same, and some of them.

pub still_free : {p q : PassState} {page header cells : ℕ} → Frees p q → AreFreeCells p page header cells
    → AreFreeCells q page header cells
still_free k free = record {
  unmapped = λ x i has lt. still_unmapped_word k (free.unmapped x i has lt);
  wiped = λ gone x i has lt. k.zeros _ (free.unmapped x i has lt).unmapped (free.wiped gone x i has lt);
}

pub free_cells_stay : {p q : PassState} (page : ℕ) → Frees p q → SamePage p q page → HasFreeCells p page
    → HasFreeCells q page
free_cells_stay page k same free = grind (arith, same_header, same_left, still_free)

pub some_free : {p : PassState} {page header all : ℕ} (some : ℕ) → AreFreeCells p page header all
    → ((k : ℕ) → has_bit some k ≡ true → has_bit all k ≡ true) → AreFreeCells p page header some
some_free some free among = record {
  unmapped = λ k i has lt. free.unmapped k i (among k has) lt;
  wiped = λ gone k i has lt. free.wiped gone k i (among k has) lt;
}

pub gives_then : {page : ℕ} {p b q : PassState} → GivesNothingBack p b → GivesBack page b q → GivesBack page p q
gives_then {page} {p} {b} {q} k g = record {
  frees = page_then (page_at_once page k) g.frees;
  header = g.header ∙ same_header p b page (k.same page);
  none_left = g.none_left;
}

pub gives_none : (page : ℕ) {p b : PassState} → GivesNothingBack p b → left_unmarked (now_of b).words page ≡ 0
    → GivesBack page p b
gives_none page {p = p} {b = b} k none =
    record { frees = page_at_once page k; header = same_header p b page (k.same page); none_left = none }

-- Where no cell is used and none is released, none is freed.
unused_freed : {p : PassState} → IsTurn p → IsAtPhase p 4 → (h : ℕ) → used_at (now_of p).words h ≡ 0
    → left_unmarked (now_of p).words h ≡ 0 → (k : ℕ) → has_bit (slice_index (now_of p).words.freed h) k ≡ false
unused_freed {p} t at h unused none k =
    false_from_ne_true (has_bit (slice_index (now_of p).words.freed h) k)
    (λ has. by ((stands p.table.config p.seen t.history).all.order.quarantined.owned h k has))
  where
    by : IsFreedCell p.table.config (world_of p).allocations h k
        ⊎ (is_released_in (is_phase (now_of p).words 4) (now_of p).words.snapshot (now_of p).words.marks h k ≡ true) → ⊥
    by (inl f) = grind (arith, allocations_stand, no_bit)
    by (inr r) =
        let parts = and_parts (is_phase (now_of p).words 4 && has_bit (slice_index (now_of p).words.snapshot h) k)
        (not (has_bit (slice_index (now_of p).words.marks h) k)) r in
        let first = and_parts (is_phase (now_of p).words 4) (has_bit (slice_index (now_of p).words.snapshot h) k)
        parts.0 in
        true≢false (sym (has_bit_without _ _ k ∙ and_from _ _ first.1 parts.1) ∙ no_bit _ k none)

pub empties_here : {p : PassState} → IsTurn p → IsAtPhase p 4 → (page h : ℕ) → h ≡ head_page (now_of p).words page
    → used_at (now_of p).words h ≡ 0 → left_unmarked (now_of p).words h ≡ 0 → empties (now_of p).words page 0 ≡ true
empties_here {p} t at page h is unused none =
    let w : Words = (now_of p).words in
    let freed : slice_index w.freed h ≡ 0 = zero_from_bits (slice_index w.freed h) (unused_freed t at h unused none) in
    let snapshot : slice_index w.snapshot h ≡ 0 = zero_from_bits _
    (λ k. false_from_ne_true (has_bit (slice_index w.snapshot h) k) (λ has. true≢false (sym ((stands p.table.config
    p.seen t.history).all.order.quarantined.within h k has) ∙ unused_freed t at h unused none k))) in
    subst (λ (n : ℕ). ((0 == 0) && (used_at w n == 0) && (slice_index w.freed n == 0)
    && (slice_index w.snapshot n == 0)) ≡ true) is
    (and_from _ _ (and_from _ _ (and_from _ _ refl (eq-eqb _ 0 unused)) (eq-eqb _ 0 freed)) (eq-eqb _ 0 snapshot))

-- A page without freed cells has none in its snapshot.
pub no_snapshot : {p : PassState} → IsTurn p → (page : ℕ) → slice_index (now_of p).words.freed page ≡ 0
    → slice_index (now_of p).words.snapshot page ≡ 0
no_snapshot {p} t page none =
    let w : Words = (now_of p).words in
    let order = (stands p.table.config p.seen t.history).all.order in
    zero_from_bits _ (λ k. false_from_ne_true (has_bit (slice_index w.snapshot page) k)
    (λ has. true≢false (sym (order.quarantined.within page k has) ∙ no_bit (slice_index w.freed page) k none)))

pub no_cells : (f : ℕ) → not (f == 0) ≡ false → f ≡ 0
no_cells f h = grind (arith, ne_eqb)

pub none_left : (p : PassState) (page : ℕ) → slice_index (now_of p).words.snapshot page ≡ 0
    → left_unmarked (now_of p).words page ≡ 0
none_left p page none = grind arith

-- what settles a page

or_left : (a b : Bool) → a ≡ true → (a || b) ≡ true
or_left a b h = ap (λ (x : Bool). x || b) h

-- The head of a page's run isn't after it.
pub head_before : (x : Option Header) (page : ℕ) → head_page_under x page ≤ page
head_before x0 page = grind arith

-- A page stays as it is in this while it and its head do.
pub same_occupied : (p q : PassState) (r : ℕ) → SamePage p q r → SamePage p q (head_page (now_of p).words r)
    → is_occupied_page (now_of q).words r ≡ is_occupied_page (now_of p).words r
same_occupied p q r same head_same = grind (arith, same_header, same_used)

pub same_settled : (p q : PassState) (r : ℕ) → SamePage p q r → SamePage p q (head_page (now_of p).words r)
    → (now_of q).words.marks ≡ (now_of p).words.marks
    → has_settled_page (now_of q).words r ≡ has_settled_page (now_of p).words r
same_settled p q r same head_same marks = grind (arith, same_left, same_occupied)

-- A later page of a run isn't past it.
pub head_elsewhere : {q : PassState} → IsTurn q → (n r : ℕ) → n < r
    → n + run_count (header_in (now_of q).words n) ≤ r → IsOccupied q r → head_page (now_of q).words r ≢ n
head_elsewhere {q} t n r after past occupied = by (header_in (now_of q).words r) refl
  where
    w : Words
    w = (now_of q).words

    bare : header_at w n ≡ 0 → head_page w r ≡ n → header_at w r ≡ 0
    bare none there = grind (arith, or_cases, eqb-true, free_pages_have_nothing, eqb-false, not-true)

    by : (x : Option Header) → header_in w r ≡ x → head_page_under x r ≢ n
    by (Some (Header.Later distance mapped)) is there =
        let head = (stands q.table.config q.seen t.history).all.order.laid.scene.later r distance mapped is in
        let n_is : r - distance ≡ n = there in
        elim head.1 [
          | inl near ↦
              let few = subst (λ (m : ℕ). distance < run_count (header_in w m)) n_is near in
              let le = head.0 in
              absurd (omega (arith, few, le, n_is, past))
          | inr gone ↦
              let none = bare (subst (λ (m : ℕ). header_at w m ≡ 0) n_is gone.1)
              (ap (λ (y : Option Header). head_page_under y r) is ∙ there) in
              let free : header_of 0 ≡ Some (Header.Later distance mapped) = sym (ap header_of none) ∙ is in
              cc
        ]
    by _ is there = absurd (omega (arith, after, there))

-- Settled pages stay so while a later one changes.
pub still_settled : {p q : PassState} {page : ℕ} (r : ℕ) → FreesPage page p q → r < page → IsSettledPage p r
    → IsSettledPage q r
still_settled r k lt h = grind (arith, same_left, same_occupied, head_before)

-- what two looks say of the released cells
pub marked_gone : {a b : PassState} (page quarantine marks : ℕ) → IsTurn a → GivesNothingBack a b
    → quarantine ≡ quarantine_word (slice_index (now_of a).words.freed page)
    (slice_index (now_of a).words.snapshot page)
    → marks ≡ slice_index (now_of b).words.marks page
    → without (quarantine / 2 ^ 32) marks ≡ left_unmarked (now_of b).words page
marked_gone page quarantine marks t k word is = grind (arith, halves)

-- where the snapshot is empty
pub none_left_on : {a : PassState} (page quarantine : ℕ) → IsTurn a → quarantine ≡ quarantine_word
    (slice_index (now_of a).words.freed page) (slice_index (now_of a).words.snapshot page) → quarantine / 2 ^ 32 ≡ 0
    → left_unmarked (now_of a).words page ≡ 0
none_left_on page quarantine t word none = grind (arith, none_left, halves)

-- No cell is released at the head of the page's run: it is the page itself, or one that is settled.
pub none_at : {p q : PassState} {page : ℕ} (h : ℕ) → GivesBack page p q → h ≤ page
    → ((r : ℕ) → r < page → IsSettledPage p r) → left_unmarked (now_of q).words h ≡ 0
none_at h g le settled = grind (arith, same_left, eqb-true, and_parts)

pub freed_settles : {a q : PassState} {page : ℕ} (used : ℕ) → FreesPage page a q
    → page_state q page ≡ record (page_state a page) { page = record { header = 0; used = used } }
    → left_unmarked (now_of a).words page ≡ 0 → IsSettledPage q page
freed_settles used k state none = grind (arith, and_from, eq-eqb, or_left)
