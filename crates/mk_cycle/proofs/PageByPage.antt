-- Pages are settled one by one, and pages without freed cells are passed over: what is known of those before, and of
-- those still to come, goes on.
use Rattle.std.proofs.Common.{le-ltb, ltb-false}
use Rattle.mk_words.proofs.Below.Laws.Vocabulary.{Free, Header, Option, Some, Words, ℕ, and_from, ap, arith, cases_lt}
use Rattle.mk_words.proofs.Below.Laws.Vocabulary.{Bool, eq-eqb, false, head_page, header_at, header_in, header_of, inl}
use Rattle.mk_words.proofs.Below.Laws.Vocabulary.{inr, lt-ltb, not}
use Rattle.mk_words.proofs.Below.Laws.Vocabulary.{or_parts, refl, run_count, slice_index, subst, sym, true, use_under}
use Rattle.mk_words.proofs.Below.Laws.Vocabulary.{used_at}
use Rattle.mk_words.proofs.Below.Laws.Vocabulary.{◌+◌}
use Rattle.mk_words.proofs.Below.Laws.Vocabulary.{◌<◌, ◌∙◌, ◌≡◌, ◌≤◌}
use Rattle.mk_core.specs.Below.Books.KnownPages.{IsNext, has_freed_cells, is_in_use}
use Rattle.mk_cycle.proofs.Vocabulary.{Frees, FreesPage, HasFreeCells, IsOccupied, IsSettledPage, IsTurn, PassState}
use Rattle.mk_cycle.proofs.Vocabulary.{Released, SamePage, below_more, held_below, held_unmarked, now_of}
use Rattle.mk_cycle.proofs.{Vocabulary.{released_below, released_on}, CountedPages.{counted_more, held_more, held_same}}
use Rattle.mk_cycle.proofs.{CountedPages.{none_held, nothing_on, same_released, told_same}, SumsBelow.sum_past}
use Rattle.mk_cycle.proofs.SettledPages.{free_cells_stay, head_before, head_elsewhere, no_cells, no_snapshot}
use Rattle.mk_cycle.proofs.{SettledPages.{none_left, same_occupied, same_settled, still_settled}}
use Rattle.mk_cycle.proofs.FreeingSteps.{frees_nothing, frees_then}
use Rattle.mk_geom.{proofs.HeaderLemmas.{word_of-header_of}, specs.PageUses.{is_free_page}}
use Rattle.mk_cycle.specs.Freeing.{FreesRest, may_be_unsettled}

-- The pages below this one are settled and counted, and the others are as they were; those that also aren't before the
-- end of a run are occupied.
pub record AreSettledBelow (p q : PassState) (pages n end : ℕ) (all : Released) (held : ℕ) : Type 0 where
  pub frees : Frees p q
  pub settled : (r : ℕ) → r < n → IsSettledPage q r
  pub cells : (r : ℕ) → n ≤ r → r < pages → HasFreeCells q r
  pub same : (r : ℕ) → n ≤ r → SamePage p q r
  pub occupied : (r : ℕ) → n ≤ r → end ≤ r → r < pages → IsOccupied q r
  pub counted : all ≡ released_below (now_of p).words n
  pub holds : held ≡ held_below (now_of p).words n

pub settled_none : (p : PassState) (pages : ℕ) → ((r : ℕ) → r < pages → HasFreeCells p r) → ((r : ℕ) → IsOccupied p r)
    → AreSettledBelow p p pages 0 0 (record { count = 0; words = 0; kept = 0 }) 0
settled_none p pages cells occupied = record {
  frees = frees_nothing p;
  settled = λ r lt. absurd (omega arith);
  cells = λ r le lt. cells r lt;
  same = λ r le. refl;
  occupied = λ r le past lt. occupied r;
  counted = refl;
  holds = refl;
}

-- one page more
module _ (p : PassState) {q r : PassState} {n : ℕ} (pages : ℕ) (page : FreesPage n q r) where
  settled_on : ((s : ℕ) → s < n → IsSettledPage q s) → IsSettledPage r n → (s : ℕ) → s < n + 1 → IsSettledPage r s
  settled_on before here = below_more _ _ (λ s lt. still_settled s page lt (before s lt)) here

  cells_on : ((s : ℕ) → n ≤ s → s < pages → HasFreeCells q s) → (s : ℕ) → n + 1 ≤ s → s < pages → HasFreeCells r s
  cells_on before s le lt =
      free_cells_stay s page.frees (page.others s (λ e. absurd (omega (arith, e, le))))
      (before s (omega (arith, le)) lt)

  same_on : ((s : ℕ) → n ≤ s → SamePage p q s) → (s : ℕ) → n + 1 ≤ s → SamePage p r s
  same_on before s le = page.others s (λ e. absurd (omega (arith, e, le))) ∙ before s (omega (arith, le))

  -- A page past the run that is headed there has its head elsewhere, so it stays occupied.
  occupied_on : IsTurn q → (end now : ℕ) → end ≤ now → ((s : ℕ) → now ≤ s → n < s → s < pages
      → n + run_count (header_in (now_of q).words n) ≤ s) → ((s : ℕ) → n ≤ s → end ≤ s → s < pages → IsOccupied q s)
      → (s : ℕ) → n + 1 ≤ s → now ≤ s → s < pages → IsOccupied r s
  occupied_on t end now le past before s after far few =
      let was = before s (omega (arith, after)) (omega (arith, le, far)) few in
      let lt : n < s = omega (arith, after) in
      same_occupied q r s (page.others s (λ e. absurd (omega (arith, e, after))))
      (page.others _ (head_elsewhere t n s lt (past s far lt few) was)) ∙ was

  pub settled_more : IsTurn q → {end : ℕ} (now : ℕ) → end ≤ now → ((s : ℕ) → now ≤ s → n < s → s < pages
      → n + run_count (header_in (now_of q).words n) ≤ s) → {all : Released} (here : Released) {held : ℕ} (more : ℕ)
      → AreSettledBelow p q pages n end all held → IsSettledPage r n → here ≡ released_on (now_of q).words n
      → more ≡ held_unmarked (now_of q).words n → AreSettledBelow p r pages (n + 1) now (record
      { count = all.count + here.count; words = all.words + here.words; kept = all.kept + here.kept }) (held + more)
  settled_more t {end = end} now le past {all = all} here {held = held} more before settled counted is_held = record {
    frees = frees_then before.frees page.frees;
    settled = settled_on before.settled settled;
    cells = cells_on before.cells;
    same = same_on before.same;
    occupied = occupied_on t end now le past before.occupied;
    counted = counted_more (now_of p).words n all here before.counted
        (counted ∙ told_same p q n before.frees.marks (before.same n (omega arith)));
    holds = held_more (now_of p).words n held more before.holds
        (is_held ∙ held_same p q n before.frees.marks (before.same n (omega arith)));
  }

-- A page that isn't in use has no header.

free_header : (h : ℕ) (x : Option Header) (u : ℕ) → header_of h ≡ x → not (is_free_page (use_under x u)) ≡ false → h ≡ 0
free_header h (Some Free) u is free = sym (word_of-header_of h Free is).1
free_header h _ u is free = cc

pub no_header : (w : Words) (n : ℕ) → is_in_use w.pages n ≡ false → header_at w n ≡ 0
no_header w n free = free_header (header_at w n) (header_of (header_at w n)) (used_at w n) refl free

-- A page without freed cells that is occupied is settled, and nothing was released on it.
module _ {q : PassState} (t : IsTurn q) (n : ℕ) (bare : has_freed_cells (now_of q).words.freed n ≡ false) where
  snapshot_none : slice_index (now_of q).words.snapshot n ≡ 0
  snapshot_none = no_snapshot t n (no_cells (slice_index (now_of q).words.freed n) bare)

  bare_is_settled : IsOccupied q n → IsSettledPage q n
  bare_is_settled occupied = grind (arith, and_from, eq-eqb, none_left, snapshot_none)

  nothing_released : (p : PassState) → SamePage p q n
      → ◌≡◌ {A = Released} (record { count = 0; words = 0; kept = 0 }) (released_on (now_of p).words n)
  nothing_released p same = grind (arith, nothing_on, snapshot_none)

-- What was released below pages without freed cells is what was released below and on them.
module _ (p : PassState) {q : PassState} (t : IsTurn q) (n m : ℕ) (le : n ≤ m) (bare : (r : ℕ) → n ≤ r → r < m
    → has_freed_cells (now_of q).words.freed r ≡ false) (same : (r : ℕ) → n ≤ r → SamePage p q r) where
  nothing_there : (r : ℕ) → n ≤ r → r < m → ◌≡◌ {A = Released} (record { count = 0; words = 0; kept = 0 })
      (released_on (now_of p).words r)
  nothing_there r after lt = nothing_released t r (bare r after lt) p (same r after)

  pub counted_past : released_below (now_of p).words n ≡ released_below (now_of p).words m
  counted_past = same_released _ _
      (sym (sum_past n m _ le (λ r after lt. sym (ap (λ (x : Released). x.count) (nothing_there r after lt)))))
      (sym (sum_past n m _ le (λ r after lt. sym (ap (λ (x : Released). x.words) (nothing_there r after lt)))))
      (sym (sum_past n m _ le (λ r after lt. sym (ap (λ (x : Released). x.kept) (nothing_there r after lt)))))

  pub held_past : held_below (now_of p).words n ≡ held_below (now_of p).words m
  held_past = sym (sum_past n m _ le (λ r after lt. sym (none_held (now_of p).words r (nothing_there r after lt))))

-- Pages that aren't unsettled are passed over.
module _ (p : PassState) {q : PassState} (t : IsTurn q) (n m end pages : ℕ) (le : n ≤ m) (few : m ≤ pages)
    (out : (r : ℕ) → n ≤ r → r < m → may_be_unsettled (now_of q).words end r ≡ false) where
  bare_there : (r : ℕ) → n ≤ r → r < m → has_freed_cells (now_of q).words.freed r ≡ false
  bare_there r after lt = (or_parts _ _ (out r after lt)).1

  pub settled_to : {all : Released} {held : ℕ} → AreSettledBelow p q pages n end all held
      → AreSettledBelow p q pages m end all held
  settled_to before = record {
    frees = before.frees;
    settled = λ r lt.
        elim (cases_lt r n) [
          | inl below ↦ before.settled r below
          | inr above ↦ bare_is_settled t r (bare_there r above lt)
              (before.occupied r above (ltb-false r end (or_parts _ _ (out r above lt)).0) (omega (arith, lt, few)))
        ];
    cells = λ r after lt. before.cells r (omega (arith, le, after)) lt;
    same = λ r after. before.same r (omega (arith, le, after));
    occupied = λ r after far lt. before.occupied r (omega (arith, le, after)) far lt;
    counted = before.counted ∙ counted_past p t n m le bare_there before.same;
    holds = before.holds ∙ held_past p t n m le bare_there before.same;
  }

-- The later pages of a run were freed.

-- A page before them is as settled as it was.
settled_before : {q r : PassState} {n m : ℕ} (s : ℕ) → FreesRest n m q r → s < n → IsSettledPage q s → IsSettledPage r s
settled_before {q} {r} {n} s rest lt settled =
    let head_le = head_before (header_in (now_of q).words s) s in
    let here : SamePage q r s = rest.others s (λ le below. omega (arith, lt, le)) in
    let there : SamePage q r (head_page (now_of q).words s) =
    rest.others _ (λ le below. omega (arith, lt, le, head_le)) in
    subst (λ (b : Bool). b ≡ true) (sym (same_settled q r s here there rest.frees.marks)) settled

pub settled_rest : (p : PassState) {q r : PassState} → IsTurn q → (n m : ℕ) {end pages : ℕ} {all : Released} {held : ℕ}
    → n ≤ m → FreesRest n m q r → AreSettledBelow p q pages n end all held → AreSettledBelow p r pages m end all held
settled_rest p {q} {r} t n m le rest before = record {
  frees = frees_then before.frees rest.frees;
  settled = λ s lt. elim (cases_lt s n) [
    | inl below ↦ settled_before s rest below (before.settled s below)
    | inr above ↦ rest.settled s above lt
  ];
  cells = λ s after few. free_cells_stay s rest.frees (past s after) (before.cells s (omega (arith, le, after)) few);
  same = λ s after. past s after ∙ before.same s (omega (arith, le, after));
  occupied = λ s after far few.
      let was = before.occupied s (omega (arith, le, after)) far few in
      same_occupied q r s (past s after) (rest.others _ (λ low high. head_elsewhere t _ s (omega (arith, high, after))
      (omega (arith, high, after, rest.later _ low high)) was refl)) ∙ was;
  counted = before.counted ∙ counted_past p t n m le rest.bare before.same;
  holds = before.holds ∙ held_past p t n m le rest.bare before.same;
}
  where
    past : (s : ℕ) → m ≤ s → SamePage q r s
    past s after = rest.others s (λ low high. omega (arith, high, after))

-- the next page that may be unsettled: the first, up to the end of a run, and after it the next that has freed cells

pub next_in_run : (w : Words) (from end count : ℕ) → from < end → from < count
    → IsNext (may_be_unsettled w end) from count (Some from)
next_in_run w from end count here within = grind (arith, lt-ltb)

pub next_past : (w : Words) (from end count : ℕ) (next : Option ℕ) → (from < end → count ≤ from)
    → IsNext (has_freed_cells w.freed) from count next → IsNext (may_be_unsettled w end) from count next
next_past w from end count next past is = grind (arith, cases_lt, le-ltb)
