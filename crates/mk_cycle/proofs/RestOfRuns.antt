-- A run in which no cell is used is freed: its head, and then its later pages one after the other.
use Rattle.mk_words.proofs.Below.Laws.Vocabulary.{Bool, Header, None, Option, Some, Step, ℕ, ap, arith, cases_lt, false}
use Rattle.mk_words.proofs.Below.Laws.Vocabulary.{head_page_under, header_in, header_of, inl, inr, refl, run_count}
use Rattle.mk_words.proofs.Below.Laws.Vocabulary.{List, not, slice_index, subst, suc, sym, true, used_at, without, zero}
use Rattle.mk_words.proofs.Below.Laws.Vocabulary.{◌+◌, ◌-◌, ◌<◌, ◌==◌, ◌∙◌, ◌≡◌, ◌≤◌}
use Rattle.mk_cycle.proofs.Vocabulary.{Acts, FreesPage, IsEnabledTo, IsSettledPage, IsTurn, IsTurnAt, PageState}
use Rattle.mk_cycle.proofs.Vocabulary.{PassState, SamePage, WordsState, left_unmarked, now_of}
use Rattle.mk_cycle.proofs.{FreeingSteps.{freed_turn, frees_nothing, frees_then}}
use Rattle.mk_cycle.proofs.{GivingSteps.{head_allowed, head_frees, head_state}, PageSteps.{same_header, same_left}}
use Rattle.mk_cycle.proofs.{PageSteps.same_used, SettledPages.{empties_here, freed_settles, no_cells, no_snapshot}}
use Rattle.mk_cycle.proofs.SettledPages.{none_left, still_settled}
use Rattle.mk_cycle.specs.Freeing.{FreesRest, FreesRun, heads_unmapped_pages}
use Rattle.mk_words.{proofs.StoredHeads.{heads_keep_turn, heads_leave}, specs.TurnSteps.{MayStoreHeads, StoresHeads}}
use Rattle.mk_words.proofs.TurnSteps.{still_turn}
use Rattle.mk_core.specs.Below.Books.KnownPages.{IsNext, has_freed_cells, page_at, StandsOn}
use Rattle.mk_geom.specs.PageUses.{PartOfRun, use_of_page, use_under}
use Rattle.std.specs.Option.{unwrap_or}

-- The later pages of a run, from one on and below another, may be freed: no cell is used at its head or released there,
-- and none of them has freed cells.
record MayFreeRest (head from to : ℕ) (p : PassState) : Type 0 where
  after : head < from
  unused : used_at (now_of p).words head ≡ 0
  none_left : left_unmarked (now_of p).words head ≡ 0
  bare : (r : ℕ) → from ≤ r → r < to → has_freed_cells (now_of p).words.freed r ≡ false

rest_none : (from : ℕ) (p : PassState) → FreesRest from from p p
rest_none from p = record {
  frees = frees_nothing p;
  others = λ r out. refl;
  settled = λ r le lt. absurd (omega (arith, le, lt));
  bare = λ r le lt. absurd (omega (arith, le, lt));
  later = λ r le lt. absurd (omega (arith, le, lt));
}

-- the head of a later page
later_head : (x : Option Header) (page head : ℕ) → x ≡ Some (Header.Later (page - head) false) → head < page
    → head ≡ head_page_under x page
later_head x page head is after = rw is (omega (arith, after))

later_count : (x : Option Header) (distance : ℕ) → x ≡ Some (Header.Later distance false) → run_count x ≡ 0
later_count x distance is = ap run_count is

module _ {p q : PassState} {y : WordsState} {head from to page : ℕ} (t : IsTurn q) (turn : IsTurnAt 4 y p)
    (may : MayFreeRest head from to p) (freed : FreesRest from page p q) (begun : from ≤ page) (near : page < to)
    (within : page < y.config.pages)
    (later : header_in (now_of q).words page ≡ Some (Header.Later (page - head) false)) where
  same_head : SamePage p q head
  same_head = freed.others head (λ le lt. let after = may.after in omega (arith, le, after))

  same_page : SamePage p q page
  same_page = freed.others page (λ le lt. omega (arith, lt))

  turn_there : IsTurnAt 4 y q
  turn_there = freed_turn freed.frees turn

  rest_may : IsEnabledTo q (Step.Head page 0)
  rest_may =
      let after = may.after in
      head_allowed t turn_there page within (empties_here t turn_there.phase page head
      (later_head _ page head later (omega (arith, after, begun)))
      (same_used p q head same_head ∙ may.unused)
      (same_left p q head same_head freed.frees.marks ∙ may.none_left))

  bare_here : slice_index (now_of q).words.freed page ≡ 0
  bare_here = ap (λ (x : PageState). x.freed) same_page
      ∙ no_cells (slice_index (now_of p).words.freed page) (may.bare page begun near)

  rest_on : {r : PassState} → Acts q (Step.Head page 0) r → FreesRest from (page + 1) p r
  rest_on {r} a =
      let one : FreesPage page q r = head_frees turn_there within a in
      record {
        frees = frees_then freed.frees one.frees;
        others = λ s out. one.others s (λ e. out (omega (arith, e, begun)) (omega (arith, e)))
            ∙ freed.others s (λ le lt. out le (omega (arith, lt)));
        settled = λ s le lt. elim (cases_lt s page) [
          | inl below ↦ still_settled s one below (freed.settled s le below)
          | inr above ↦ let is : page ≡ s = omega (arith, above, lt) in
              subst (λ (n : ℕ). IsSettledPage r n) is (freed_settles _ one (head_state turn_there within a)
              (none_left q page (no_snapshot t page bare_here)))
        ];
        bare = λ s le lt. may.bare s le (omega (arith, lt, near));
        later = λ s le lt. elim (cases_lt s page) [
          | inl below ↦ freed.later s le below
          | inr above ↦ let is : page ≡ s = omega (arith, above, lt) in
              subst (λ (n : ℕ). run_count (header_in (now_of p).words n) ≡ 0) is
              (ap (λ (n : ℕ). run_count (header_of n)) (sym (same_header p q page same_page))
              ∙ later_count _ (page - head) later)
        ];
      }

-- What the words of the pages say before it, and how far the run's later pages without freed cells reach.
pub record MayFreeRun (head to : ℕ) (p : PassState) : Type 0 where
  pub heads : heads_unmapped_pages (header_in (now_of p).words head) ≡ true
  pub unused : used_at (now_of p).words head ≡ 0
  pub none_left : left_unmarked (now_of p).words head ≡ 0
  pub later : (r : ℕ) → head < r → r < to → header_in (now_of p).words r ≡ Some (Header.Later (r - head) false)
  pub bare : (r : ℕ) → head < r → r < to → has_freed_cells (now_of p).words.freed r ≡ false

own_head : (x : Option Header) (page : ℕ) → heads_unmapped_pages x ≡ true → page ≡ head_page_under x page
own_head x0 page heads = grind arith

unmapped_head : (x : Option Header) (used : ℕ) → heads_unmapped_pages x ≡ true → use_under x used ≡ PartOfRun false
unmapped_head x0 used heads = grind arith

-- Its pages are those of an unmapped run.
pub run_stands : (p : PassState) (head count : ℕ) → MayFreeRun head (head + count) p
    → StandsOn (PartOfRun false) (now_of p).words.pages head count
run_stands p head count may zero less =
    subst (λ (n : ℕ). use_of_page (page_at (now_of p).words.pages n) ≡ PartOfRun false) (omega arith)
    (unmapped_head (header_in (now_of p).words head) (used_at (now_of p).words head) may.heads)
run_stands p head count may (suc distance) less =
    ap (λ (x : Option Header). use_under x (page_at (now_of p).words.pages (head + suc distance)).used)
    (may.later (head + suc distance) (omega arith) (omega (arith, less)))

-- After the first so many of its pages were freed the head is free, and the others are.
abbrev FreedTo : ℕ → PassState → ℕ → PassState → Type 0
FreedTo head p zero q = p ≡ q
FreedTo head p (suc n) q =
    (b : PassState) × Acts p (Step.Head head 0) b × FreesRest (head + 1) (head + suc n) b q

module _ {p : PassState} {y : WordsState} {head count : ℕ} (t : IsTurn p) (turn : IsTurnAt 4 y p)
    (may : MayFreeRun head (head + count) p) (within : head + count ≤ y.config.pages) where
  head_may : 0 < count → IsEnabledTo p (Step.Head head 0)
  head_may some =
      head_allowed t turn head (omega (arith, within, some))
      (empties_here t turn.phase head head (own_head _ head may.heads) may.unused may.none_left)

  -- after its head
  module _ (some : 0 < count) {b : PassState} (a : Acts p (Step.Head head 0) b) where
    head_in : head < y.config.pages
    head_in = omega (arith, within, some)

    frees_first : FreesPage head p b
    frees_first = head_frees turn head_in a

    turn_after : IsTurn b
    turn_after = still_turn p (Step.Head head 0) b a.makes refl t

    at_after : IsTurnAt 4 y b
    at_after = freed_turn frees_first.frees turn

    same_after : (r : ℕ) → head < r → SamePage p b r
    same_after r after = frees_first.others r (λ e. absurd (omega (arith, e, after)))

    may_after : MayFreeRest head (head + 1) (head + count) b
    may_after =
        let state = head_state turn head_in a in
        record {
          after = omega arith;
          unused = ap (λ (x : PageState). x.page.used) state ∙ may.unused;
          none_left = ap (λ (x : PageState). without x.snapshot (slice_index (now_of b).words.marks head)) state
              ∙ ap (λ (ms : List ℕ). without (slice_index (now_of p).words.snapshot head) (slice_index ms head))
              frees_first.frees.marks ∙ may.none_left;
          bare = λ r after lt.
              ap (λ (x : PageState). not (x.freed == 0)) (same_after r (omega (arith, after)))
              ∙ may.bare r (omega (arith, after)) lt;
        }

    -- a page that isn't freed yet is one of its later pages still
    still_later : {q : PassState} (n : ℕ) → head < n → n < head + count → FreesRest (head + 1) n b q
        → header_in (now_of q).words n ≡ Some (Header.Later (n - head) false)
    still_later {q} n after lt freed =
        ap header_of (same_header b q n (freed.others n (λ low high. omega (arith, high))))
        ∙ ap header_of (same_header p b n (same_after n after)) ∙ may.later n after lt

  freed_more : (n : ℕ) (q r : PassState) → n < count → StoresHeads p head n (λ _. 0) q → FreedTo head p n q
      → Acts q (Step.Head (head + n) 0) r → FreedTo head p (suc n) r
  freed_more zero q r less stores same acts =
      let first : head + 0 ≡ head = omega arith in
      let from_p : Acts p (Step.Head (head + 0) 0) r =
      subst (λ (s : PassState). Acts s (Step.Head (head + 0) 0) r) (sym same) acts in (
        r,
        subst (λ (i : ℕ). Acts p (Step.Head i 0) r) first from_p,
        subst (λ (i : ℕ). FreesRest (head + 1) i r r) (omega arith) (rest_none (head + 1) r),
      )
  freed_more (suc n) q r less stores (b, a, freed) acts =
      let some : 0 < count = omega (arith, less) in (
        b,
        a,
        subst (λ (i : ℕ). FreesRest (head + 1) i b r) (omega arith)
            (rest_on (heads_keep_turn p head (suc n) (λ _. 0) q stores t) (at_after some a) (may_after some a) freed
            (omega arith) (omega (arith, less)) (omega (arith, less, within))
            (still_later some a (head + suc n) (omega arith) (omega (arith, less)) freed) acts),
      )

  freed_to : (n : ℕ) (q : PassState) → n ≤ count → StoresHeads p head n (λ _. 0) q → FreedTo head p n q
  freed_to = heads_leave head count (λ _. 0) (FreedTo head p) refl freed_more

  -- each may be freed after those before it
  allowed_after : (n : ℕ) (q : PassState) → n < count → StoresHeads p head n (λ _. 0) q → FreedTo head p n q
      → IsEnabledTo q (Step.Head (head + n) 0)
  allowed_after zero q less stores same =
      subst (λ (s : PassState). IsEnabledTo s (Step.Head (head + 0) 0)) same
      (subst (λ (i : ℕ). IsEnabledTo p (Step.Head i 0)) (omega arith) (head_may less))
  allowed_after (suc n) q less stores (b, a, freed) =
      let some : 0 < count = omega (arith, less) in
      rest_may (heads_keep_turn p head (suc n) (λ _. 0) q stores t) (at_after some a) (may_after some a) freed
      (omega arith) (omega (arith, less)) (omega (arith, less, within))
      (still_later some a (head + suc n) (omega arith) (omega (arith, less)) freed)

  pub run_allowed : MayStoreHeads p head count (λ _. 0)
  run_allowed n q less stores = allowed_after n q less stores (freed_to n q (omega (arith, less)) stores)

  freed_run : (n : ℕ) {q : PassState} → 0 < n → 0 < count → FreedTo head p n q → FreesRun head (head + n) p q
  freed_run zero less some freed = absurd (omega (arith, less))
  freed_run (suc n) less some (b, a, freed) = record {
    between = b;
    turn = turn_after some a;
    frees_head = frees_first some a;
    settled = freed_settles _ (frees_first some a) (head_state turn (head_in some a) a) may.none_left;
    frees_rest = freed;
  }

  pub run_stored : {q : PassState} → 0 < count → StoresHeads p head count (λ _. 0) q
      → FreesRun head (head + count) p q
  run_stored {q} some stores = freed_run count some some (freed_to count q (omega arith) stores)

-- A page was freed, or stays in use, and no page after it was freed.
pub run_of_one : (page : ℕ) {p q : PassState} → IsTurn q → FreesPage page p q → IsSettledPage q page
    → FreesRun page (page + 1) p q
run_of_one page {q = q} t frees settled = record {
  between = q;
  turn = t;
  frees_head = frees;
  settled = settled;
  frees_rest = rest_none (page + 1) q;
}

-- No page before the next that has freed cells has any.
pub next_from : (passes : ℕ → Bool) (from count : ℕ) (next : Option ℕ) → IsNext passes from count next → from ≤ count
    → from ≤ unwrap_or next count
next_from passes from count (Some n) is few = is.0
next_from passes from count None is few = few

pub next_within : (passes : ℕ → Bool) (from count : ℕ) (next : Option ℕ) → IsNext passes from count next
    → unwrap_or next count ≤ count
next_within passes from count (Some n) is = let lt = is.1 in omega (arith, lt)
next_within passes from count None is = omega arith

pub bare_to : (passes : ℕ → Bool) (from count : ℕ) (next : Option ℕ) (r : ℕ) → IsNext passes from count next → from ≤ r
    → r < unwrap_or next count → passes r ≡ false
bare_to passes from count (Some n) r is after lt = is.3 r after lt
bare_to passes from count None r is after lt = is r after lt
