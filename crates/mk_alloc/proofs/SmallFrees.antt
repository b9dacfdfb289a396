-- A small object is freed and counted.
use Rattle.mk_caller.proofs.Below.Laws.Vocabulary.{Bool, Cell, Header, List, None, Option, PlacedAllocation, Some}
use Rattle.mk_caller.proofs.Below.Laws.Vocabulary.{Steady, Tally, ℕ, all_below-at, ap, arith, false, fresh_words_of}
use Rattle.mk_caller.proofs.Below.Laws.Vocabulary.{header_in, heads_run, if◌then◌else◌, in_a_word, is_held, not}
use Rattle.mk_caller.proofs.Below.Laws.Vocabulary.{not-true, run_headed, subst, sym, true, words_under, ◌*◌, ◌+◌, ◌-◌}
use Rattle.mk_caller.proofs.{Below.Laws.Vocabulary.{◌<◌, ◌^◌, ◌↔◌, ◌∙◌, ◌≡◌}, Below.Laws.Tallies.fresh_is_told}
use Rattle.mk_alloc.proofs.ObjectVocabulary.{Changes, Does, FreesCell, FreesOnce, HasFreed, IsAsLeft, IsFreedAt, IsTrue}
use Rattle.mk_alloc.proofs.ObjectVocabulary.{IsTurn, MayFree, OnlyLooks, PassState, SetsTally, StaysSo, does_then}
use Rattle.mk_alloc.proofs.ObjectVocabulary.{held_by_allocations, is_following, is_freeing_small, min, none_is_held}
use Rattle.mk_alloc.proofs.ObjectVocabulary.{now_of, steady_of, with_tally, words_freed, world_of}
use Rattle.mk_alloc.proofs.{FreedOnce.once_before, ClearedRuns.{IsGoneIn, still_gone}}
use Rattle.mk_alloc.proofs.DecidedFrees.{Stays, decides_before, freed_decides, fresh_stays, stays_now}
use Rattle.mk_alloc.proofs.JoinedLooks.{reached_table, reached_world, reaches_after, reaches_wider}
use Rattle.mk_alloc.proofs.FreedObjects.{object_at, small_held}
use Rattle.mk_core.specs.Counts.{TalliesAreExact}

-- After a `quar` the call is decided.
pub freed_now : {p q : PassState} {cell : Cell} → HasFreed p cell q
    → IsFreedAt p.table.config p.seat cell (world_of p) (world_of q)
freed_now a = reached_world a

-- the tallies after it

-- The count of fresh words is as it was, and as much more as is freed.
pub fresh_told_by : {p q : PassState} (cell : Cell) → IsTurn p → IsTurn q → p.table ≡ q.table
    → TalliesAreExact p.table.config p.seen
    → (now_of q).fresh_words ≡ min ((now_of p).fresh_words + words_freed (now_of p).words (Some cell)) (2 ^ 64 - 1)
    → min ((now_of p).words.fresh + words_freed (now_of p).words (Some cell)) (2 ^ 64 - 1)
    ≡ in_a_word (fresh_words_of p.table.config (world_of q).allocations)
fresh_told_by cell turn behind table exact is = grind (arith, fresh_is_told)

-- The tallies are exact by what is known from the pass before.
pub exact_from : (p q : PassState) → p.table ≡ q.table
    → (now_of q).words.held ≡ held_by_allocations p.table.config (world_of q).allocations → (now_of q).words.fresh
    ≡ in_a_word (fresh_words_of p.table.config (world_of q).allocations) → TalliesAreExact q.table.config q.seen
exact_from p q table held fresh = grind arith

pub exact_still : (p q : PassState) → p.table ≡ q.table → steady_of (world_of q) ≡ steady_of (world_of p)
    → TalliesAreExact p.table.config p.seen → TalliesAreExact q.table.config q.seen
exact_still p q table steady exact = grind (arith, exact_from)

small_words : (p : PassState) (cell : Cell) → heads_run (header_in (now_of p).words cell.page) ≡ false
    → words_freed (now_of p).words (Some cell) ≡ words_under (header_in (now_of p).words cell.page)
small_words p cell small = ap (λ b. if b then 0 else words_under (header_in (now_of p).words cell.page)) small

no_run : (x : Option Header) (page : ℕ) → heads_run x ≡ false → run_headed x page ≡ None
no_run x0 page h = grind arith

-- no gate was held
pub none_held : (p : PassState) → none_is_held p.table.config.callers (now_of p).words ≡ true → (j : ℕ)
    → j < p.table.config.callers → is_held (now_of p).words j ≡ false
none_held p none j lt = not-true _ (all_below-at _ j (λ i. not (is_held (now_of p).words i)) none lt)

-- The tally is set, between looks.
pub tally_between : {p a b q : PassState} (t : Tally) (n : ℕ) → OnlyLooks p a → SetsTally a t n b → OnlyLooks b q
    → SetsTally p t n q
tally_between t n before sets behind =
    reaches_after (λ x h. grind arith) (λ x h. h) (λ x. Changes x.seat (with_tally t n) (world_of x)) before
    (reaches_after (λ x h. h) (λ x h. grind arith) (λ x. IsAsLeft x.seat (world_of x)) sets behind
    (λ v one two. record {
      call = two.call ∙ one.call;
      holding = two.holding ∙ one.holding;
      steady = two.steady ∙ one.steady;
      gates = λ j. two.gates j ∙ one.gates j;
    })) (λ v one two. record {
      call = two.call ∙ one.call;
      holding = two.holding ∙ one.holding;
      steady = two.steady ∙ ap (with_tally t n) one.steady;
      gates = λ j. two.gates j ∙ one.gates j;
    })

-- The object is freed and counted, once its `quar` and what follows that are done.
pub frees_counted : {p q r : PassState} {cell : Cell} {held fresh : ℕ} (due : Bool) → HasFreed p cell q
    → Stays is_following q r → FreesOnce p q → IsTurn q → IsTurn r → IsGoneIn (world_of r)
    → ((j : ℕ) → j < p.table.config.callers → is_held (now_of r).words j ≡ false)
    → held ≡ (now_of r).words.held → fresh ≡ (now_of r).words.fresh → held ≡ held_by_allocations p.table.config
    (world_of r).allocations → fresh ≡ in_a_word (fresh_words_of p.table.config (world_of r).allocations)
    → held < 2 ^ 64 → IsTrue due ↔ (held < 4 * fresh)
    → (heads_run (header_in (now_of p).words cell.page) ≡ false → Does is_freeing_small p r) → FreesCell p cell due r
frees_counted {p} {q} {r} due freed follows once turn behind gone gates held fresh held_exact fresh_exact fits is_due
    small =
    let table : p.table ≡ q.table = sym (reached_table freed) in
    let stays = stays_now follows in
    record {
      reaches = decides_before (freed_decides freed) follows;
      allocations = stays.allocations ∙ ap (λ (x : Steady). x.allocations) (freed_now freed).steady;
      small = small;
      once = once_before (λ x h. grind arith) once table follows.does turn behind stays.allocations;
      gone = gone;
      gates = gates;
      exact = exact_from p r (table ∙ sym (reached_table follows)) (sym held ∙ held_exact) (sym fresh ∙ fresh_exact);
      exactly = grind arith;
    }

module _ {p q a b r : PassState} {reg u : ℕ} {cell : Cell} {n : ℕ} (may : MayFree p reg u cell) (turn : IsTurn p)
    (freed : HasFreed p cell q) (looks : OnlyLooks q a) (tallied : SetsTally a Tally.Fresh n b)
    (looks_again : OnlyLooks b r) (gates : none_is_held p.table.config.callers (now_of p).words ≡ true) where
  sets : SetsTally q Tally.Fresh n r
  sets = tally_between Tally.Fresh _ looks tallied looks_again

  follows : Stays is_following q r
  follows = reaches_wider (λ x h. grind arith) (fresh_stays sets)

  freed_there : IsFreedAt p.table.config p.seat cell (world_of p) (world_of q)
  freed_there = freed_now freed

  stays : StaysSo q.seat (world_of q) (world_of r)
  stays = stays_now follows

  changed : Changes q.seat (with_tally Tally.Fresh n) (world_of q) (world_of r)
  changed = reached_world sets

  none_held_now : (j : ℕ) → j < p.table.config.callers → is_held (now_of r).words j ≡ false
  none_held_now j lt = changed.gates j ∙ freed_there.gates j ∙ none_held p gates j lt

  module _ (small : heads_run (header_in (now_of p).words cell.page) ≡ false) where
    module _ (due : Bool) {found held : ℕ} (once : FreesOnce p q) (behind : IsTurn q) (last : IsTurn r)
        (is_found : found ≡ (now_of p).words.fresh)
        (is : n ≡ min (found + words_under (header_in (now_of p).words cell.page)) (2 ^ 64 - 1))
        (found_held : held ≡ (now_of r).words.held) (fits : held < 2 ^ 64) (is_due : IsTrue due ↔ (held < 4 * n)) where
      fresh_exact : n ≡ in_a_word (fresh_words_of p.table.config (world_of r).allocations)
      fresh_exact = grind (arith, small_words, fresh_told_by, reached_table, follows, stays, freed_there)

      held_exact : (now_of r).words.held ≡ held_by_allocations p.table.config (world_of r).allocations
      held_exact =
          (ap (λ (x : Steady). x.held) changed.steady ∙ ap (λ (x : Steady). x.held) freed_there.steady) ∙ may.exact.held
          ∙ sym (small_held turn (object_at u cell turn may.free may.some may.target) small)
          ∙ ap (λ (xs : List PlacedAllocation). held_by_allocations p.table.config xs)
          (sym (stays.allocations ∙ ap (λ (x : Steady). x.allocations) freed_there.steady))

      pub frees_small : FreesCell p cell due r
      frees_small =
          frees_counted due freed follows once behind last (subst (λ (x : PassState). IsGoneIn (world_of x)) (sym
          sets.same) (still_gone (reaches_wider (λ x h. grind arith) sets).does behind last
          (grind (arith, freed_there, no_run)))) none_held_now found_held
          (sym (ap (λ (x : Steady). x.fresh) changed.steady)) (found_held ∙ held_exact) fresh_exact fits is_due
          (λ no_run. does_then is_freeing_small p q r freed.does
          (reaches_wider (λ x h. grind arith) (fresh_stays sets)).does)
