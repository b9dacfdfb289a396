-- What a `release` releases is held no longer: of that, the small allocations were held.
use Rattle.std.proofs.Math.Bool.{and-false}
use Rattle.mk_words.proofs.Below.Laws.Vocabulary.{Bool, Config, Event, Header, IsHistory, List, Object, Option}
use Rattle.mk_words.proofs.Below.Laws.Vocabulary.{PlacedAllocation, ShowsPart, Step, Storage, Words, ℕ, address_of, ap}
use Rattle.mk_words.proofs.Below.Laws.Vocabulary.{append-nil, arith, cases_Bool, cell_of_allocation, cells_begin, cond}
use Rattle.mk_words.proofs.Below.Laws.Vocabulary.{false, false_from_ne_true, get_or, header_at, header_in, header_shows}
use Rattle.mk_words.proofs.Below.Laws.Vocabulary.{if◌then◌else◌, inl, inr, is_large, is_left_unmarked, is_mapped}
use Rattle.mk_words.proofs.Below.Laws.Vocabulary.{is_resident_page, is_run_gone, is_small_object, is_some_and}
use Rattle.mk_words.proofs.Below.Laws.Vocabulary.{is_unmapped_header, kinds_of, left, map, never_granted, not}
use Rattle.mk_words.proofs.Below.Laws.Vocabulary.{object_placed, pages_some, phase_of, placed_at, pointed_cell, refl}
use Rattle.mk_words.proofs.Below.Laws.Vocabulary.{run_begins, storage_of, storage_words, subst, suc, sym, true}
use Rattle.mk_words.proofs.Below.Laws.Vocabulary.{true≢false, typed_size, use_under, used_at, with_released}
use Rattle.mk_words.proofs.Below.Laws.Vocabulary.{words_under, words_within, zero, [], ◌&&◌, ◌*◌, ◌+◌, ◌/◌, ◌||◌, ◌∙◌}
use Rattle.mk_words.proofs.Below.Laws.{Vocabulary.{◌∷◌, ◌≡◌}, Settled.{gone_is_unmapped, unmapped_run}}
use Rattle.mk_words.proofs.Below.Laws.{ForImages.gone_is, UnmappedRuns.unmapped_runs_take_no_memory}
use Rattle.mk_cycle.proofs.Vocabulary.{Acts, HoldsFewer, IsAtPhase, IsGone, IsTurn, PassState, allocations_stand}
use Rattle.mk_cycle.proofs.Vocabulary.{cells_unmarked, held_below, held_by_allocations, left_unmarked, made, now_of}
use Rattle.mk_cycle.proofs.Vocabulary.{sum_below, sum_by, sum_by-cons, world_of}
use Rattle.mk_cycle.proofs.ReleasedCells.{gone_there, plus_zero, unmapped_is_large}
use Rattle.mk_cycle.proofs.ReleasedCounts.{phase_there, quiet, same_before, unmarked_are}
use Rattle.mk_cycle.proofs.{CellCounts.cells_weigh_as_much, NewlyReleased.is_new, SumsBelow.sum_same}
use Rattle.mk_geom.specs.Storages.{held_by_storages}
use Rattle.mk_core.{proofs.StandingAllocations.{placed_cell}, specs.Allocations.{unreleased_storage}}

-- what one allocation holds
abbrev held_part : Config → PlacedAllocation → ℕ
held_part c a = if is_mapped c a then storage_words c a else 0

abbrev words_mapped : Storage → ℕ
words_mapped s = if s.mapped then s.words else 0

held_first : (c : Config) (a : PlacedAllocation) (xs : List PlacedAllocation) (b : Bool) → a.released ≡ b
    → held_by_storages (if b then unreleased_storage c xs else storage_of c a ∷ unreleased_storage c xs)
    ≡ held_part c a + held_by_allocations c xs
held_first c a xs true is = grind (arith, held_part)
held_first c a xs false is = sum_by-cons words_mapped (storage_of c a) (unreleased_storage c xs)

held_cons : (c : Config) (a : PlacedAllocation) (xs : List PlacedAllocation)
    → held_by_allocations c (a ∷ xs) ≡ held_part c a + held_by_allocations c xs
unfolding unreleased_storage
held_cons c a xs = held_first c a xs a.released refl

-- where each of a list holds what it does after a change and, if the change releases it, this weight
held_then : (c : Config) (f : PlacedAllocation → PlacedAllocation) (d : PlacedAllocation)
    (weight : PlacedAllocation → ℕ) (xs : List PlacedAllocation) → ((i : ℕ) → held_part c (get_or xs i d)
    ≡ held_part c (f (get_or xs i d)) + cond (is_new f (get_or xs i d)) (weight (get_or xs i d)) 0)
    → held_by_allocations c xs ≡ held_by_allocations c (map f xs) + sum_by (λ a. cond (is_new f a) (weight a) 0) xs
unfolding unreleased_storage
held_then c f d weight [] parts = refl
held_then c f d weight (a ∷ ys) parts =
    let before = held_cons c a ys in
    let behind = held_cons c (f a) (map f ys) in
    let sum = sum_by-cons (λ x. cond (is_new f x) (weight x) 0) a ys in
    let here = parts zero in
    let rest = held_then c f d weight ys (λ i. parts (suc i)) in
    omega arith

-- by whether it was released, and whether it is now
held_split : (was gone mapped : Bool) (n weight : ℕ) → ((not was && (was || gone)) ≡ true
    → weight ≡ (if not was && mapped then n else 0)) → (if not was && mapped then n else 0)
    ≡ (if not (was || gone) && mapped then n else 0) + cond (not was && (was || gone)) weight 0
held_split x0 gone mapped n weight is = grind (arith, plus_zero)

if_mapped : (mapped : Bool) (n : ℕ) → (if not mapped then 0 else n) ≡ (if mapped then n else 0)
if_mapped x0 n = grind arith

-- A run that isn't resident is unmapped.
not_resident : {o : Object} {x : Option Header} (used : ℕ) → ShowsPart o 0 x → is_small_object o ≡ false
    → is_resident_page (use_under x used) ≡ false → is_unmapped_header x ≡ true
not_resident used x1 large out = grind arith

weigh : (unmapped : Bool) (cells words : ℕ)
    → (if unmapped then 0 else cells * words) ≡ cells * (if unmapped then 0 else words)
weigh x0 cells words = grind arith

-- a history whose next event may be a `release`
module _ (c : Config) (es : List Event) (h : IsHistory c es) (at : phase_of (left c es).now.words ≡ 3)
    (gone : is_run_gone (left c es).now.words (left c es).now.seats.holding.freed ≡ true) where
  abbrev w : Words
  w = (left c es).now.words

  abbrev xs : List PlacedAllocation
  xs = (left c es).allocations

  abbrev f : PlacedAllocation → PlacedAllocation
  f = with_released c (left c es).now.words

  abbrev page_of_cell : ℕ → ℕ
  page_of_cell i = (cell_of_allocation c (placed_at xs i)).page

  page_is : (i : ℕ) → (placed_at xs i).released ≡ false → page_of_cell i ≡ (placed_at xs i).base / 64
  page_is i u = grind (arith, xs, allocations_stand, placed_cell, typed_size)

  -- The header of its page shows it.
  shows_there : (i : ℕ) → (placed_at xs i).released ≡ false
      → ShowsPart (object_placed c (placed_at xs i)) 0 (header_in w (page_of_cell i))
  shows_there i u =
      let a : PlacedAllocation = placed_at xs i in
      let o : Object = object_placed c a in
      let st = allocations_stand c es h i u in
      let sized = typed_size c a h.within_limits st.stands.typed in
      let some = pages_some o sized in
      subst (λ (n : ℕ). ShowsPart o 0 (header_in w n)) (plus_zero _ ∙ sym (page_is i u))
      (header_shows o 0 (header_at w (a.base / 64 + 0)) sized some (st.headers 0 some))

  -- so the header of a freed one is that of an unmapped run exactly where it isn't mapped.
  unmapped_where : (i : ℕ) → (placed_at xs i).released ≡ false → (placed_at xs i).freed ≡ true
      → is_unmapped_header (header_in w (page_of_cell i)) ≡ not (is_mapped c (placed_at xs i))
  unmapped_where i u freed =
      let a : PlacedAllocation = placed_at xs i in
      let o : Object = object_placed c a in
      elim (cases_Bool (is_small_object o)) [
        | inl small ↦
            let mapped : is_mapped c a ≡ true = grind (arith, gone_is, and-false) in
            false_from_ne_true _ (λ un. true≢false (sym small ∙ unmapped_is_large (shows_there i u) un))
            ∙ sym (ap not mapped)
        | inr large ↦
            let unmapped : is_mapped c a ≡ false = grind (arith, gone_is) in
            not_resident (used_at w (page_of_cell i)) (shows_there i u) large (
            let a : PlacedAllocation = placed_at xs i in
            let o : Object = object_placed c a in
            let st = allocations_stand c es h i u in
            let sized = typed_size c a h.within_limits st.stands.typed in
            let aligned = (run_begins o a.base large st.stands.begins).1 in
            let some = (words_within o sized).0 in
            let page = page_is i u in
            unmapped_runs_take_no_memory c es h es [] (page_of_cell i) (sym (append-nil es)) (record {
              number = i;
              unreleased = u;
              freed = unmapped;
              page = (omega (arith, aligned, page), omega (arith, aligned, page, some));
              unmapped = λ run is there. unmapped_run (left c es) (gone_is_unmapped w _ gone) run is;
            }) refl)
            ∙ sym (ap not unmapped)
      ]

  -- what the released cells of a page hold, each
  abbrev weight : ℕ → ℕ
  weight p = if is_unmapped_header (header_in w p) then 0 else words_under (header_in w p)

  weight_is : (i : ℕ) → is_new f (placed_at xs i) ≡ true → weight (page_of_cell i) ≡ held_part c (placed_at xs i)
  weight_is i new =
      let a : PlacedAllocation = placed_at xs i in
      let known = (unmarked_are h at).quarantined i new in
      let st = allocations_stand c es h i known.0 in
      ap (λ n. if is_unmapped_header (header_in w (page_of_cell i)) then 0 else n) (cells_begin c w a h.within_limits
      st.stands st.headers).1 ∙ ap (λ b. if b then 0 else storage_words c a) (unmapped_where i known.0 known.1)
      ∙ if_mapped (is_mapped c a) (storage_words c a)

  pub held_told : held_by_allocations c xs ≡ held_by_allocations c (map f xs) + held_below w c.pages
  held_told =
      let split = held_then c f never_granted (λ a. weight (cell_of_allocation c a).page) xs (λ i.
      let a : PlacedAllocation = placed_at xs i in
      held_split a.released (is_some_and (is_left_unmarked w) (pointed_cell c.pages w.pages (address_of a.base)))
      (not (a.freed && is_large (kinds_of c.types a.ty))) (storage_words c a) (weight (page_of_cell i))
      (λ new. weight_is i new)) in
      let weighed = cells_weigh_as_much c es h (quiet h at) (is_new f) (left_unmarked w) (unmarked_are h at) weight in
      let same : held_below w c.pages ≡ sum_below c.pages (λ p. cells_unmarked w p * weight p) =
      grind (arith, sum_same, weight, weigh) in
      omega (arith, split, weighed, same)

-- Passes that know the same allocations know the same words to be held.
pub held_alike : (p q : PassState) → q.table.config ≡ p.table.config
    → (world_of q).allocations ≡ (world_of p).allocations → held_by_allocations q.table.config (world_of q).allocations
    ≡ held_by_allocations p.table.config (world_of p).allocations
held_alike p q table same = grind arith

-- A pass that made the `release` knows it so.
module _ {d q : PassState} (t : IsTurn d) (u : IsTurn q) (at : IsAtPhase d 3) (a : Acts d Step.Release q) where
  pub release_holds : IsGone d → HoldsFewer d q (held_below (now_of q).words d.table.config.pages)
  release_holds gone = grind (arith, held_told, made, phase_there, gone_there, same_before)
