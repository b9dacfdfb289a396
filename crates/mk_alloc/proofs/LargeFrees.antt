-- A large object is freed and counted, while all others are stopped.
use Rattle.mk_caller.proofs.Below.Laws.Vocabulary.{Bool, Cell, Header, List, None, Option, Page, RunPages, Some, Steady}
use Rattle.mk_caller.proofs.Below.Laws.Vocabulary.{Tally, ℕ, ap, arith, false, freed_where_it_stands, fresh_words_of}
use Rattle.mk_caller.proofs.Below.Laws.Vocabulary.{header_in, heads_run, if◌then◌else◌, in_a_word, is_held, map}
use Rattle.mk_caller.proofs.Below.Laws.Vocabulary.{run_headed, subst, sym, true, true≢false, words_under, ◌*◌, ◌+◌, ◌<◌}
use Rattle.mk_caller.proofs.Below.Laws.Vocabulary.{◌^◌, ◌↔◌, ◌∙◌, ◌≡◌}
use Rattle.mk_alloc.proofs.ObjectVocabulary.{Changes, FreesCell, FreesOnce, HasFreed, IsFreedAt, IsTrue, IsTurn}
use Rattle.mk_alloc.proofs.ObjectVocabulary.{MayFree, OnlyLooks, PassState, SetsTally, StaysSo, held_by_allocations}
use Rattle.mk_alloc.proofs.ObjectVocabulary.{is_following, now_of, with_tally, world_of}
use Rattle.mk_alloc.proofs.{DecidedFrees.{Stays, held_stays, stays_now, stays_then}, FreedObjects.{HasRun, IsObjectAt}}
use Rattle.mk_alloc.proofs.FreedObjects.{its_freed, its_run, large_held, object_at, own}
use Rattle.mk_alloc.proofs.JoinedLooks.{reached_table, reached_world, reaches_wider}
use Rattle.mk_alloc.proofs.SmallFrees.{freed_now, frees_counted, fresh_told_by, tally_between}
use Rattle.mk_alloc.proofs.{ClearedRuns.{IsGoneIn, still_gone}, Serves.out_of_stop}
use Rattle.mk_alloc.specs.FreeParts.{ClearsRun, MayUnmap}
use Rattle.mk_core.specs.Below.Books.KnownPages.{StandsOn}
use Rattle.mk_geom.specs.PageUses.{PartOfRun}

-- what heads a run
pub record HeadsRun (x : Option Header) (count : ℕ) : Type 0 where
  pub heads : heads_run x ≡ true
  pub words : words_under x ≡ 64 * count

same_count : (page n count : ℕ) → ◌≡◌ {A = Option RunPages} (Some (record { page = page; count = n }))
    (Some (record { page = page; count = count })) → n ≡ count
same_count page n count is = grind arith

pub heads_some : (x : Option Header) (page : ℕ) (run : RunPages) → run_headed x page ≡ Some run → heads_run x ≡ true
heads_some x0 page run is = grind arith

-- and what heads none
pub heads_none : (x : Option Header) (page : ℕ) → run_headed x page ≡ None → heads_run x ≡ false
heads_none x0 page is = grind arith

module _ {p : PassState} {reg u : ℕ} {cell : Cell} (count : ℕ) (may : MayFree p reg u cell) (turn : IsTurn p)
    (run : run_headed (header_in (now_of p).words cell.page) cell.page
    ≡ Some (record { page = cell.page; count = count })) where
  abbrev pub object : IsObjectAt p reg cell
  object = object_at u cell turn may.free may.some may.target

  heads : HeadsRun (header_in (now_of p).words cell.page) count
  heads = grind (arith, same_count)

  live : (own turn object).freed ≡ false
  live = sym (its_freed turn object may.phase) ∙ may.live

  run_is : HasRun turn object count
  run_is = its_run turn object count heads.heads live (sym heads.words)

  pub held_then : held_by_allocations p.table.config (map (freed_where_it_stands (now_of p).words (Some cell))
      (world_of p).allocations) + 64 * count ≡ (now_of p).words.held
  held_then =
      let sum = large_held turn object heads.heads live in
      let words = heads.words in
      let exact = may.exact.held in
      omega arith

  module _ {q : PassState} (freed : HasFreed p cell q) where
    now : IsFreedAt p.table.config p.seat cell (world_of p) (world_of q)
    now = freed_now freed

    run_freed : (now_of q).seats.holding.freed ≡ Some (record { page = cell.page; count = count })
    run_freed = grind (arith, now)

    run_mapped : StandsOn (PartOfRun true) (now_of q).words.pages cell.page count
    run_mapped = subst (λ (ps : List Page). StandsOn (PartOfRun true) ps cell.page count)
        (sym (ap (λ (x : Steady). x.pages) now.steady)) run_is.mapped

    pub run_may : MayUnmap q (record { page = cell.page; count = count })
    run_may = grind (arith, run_is, run_freed, run_mapped, now, out_of_stop, reached_table)

    module _ {a b d r : PassState} {n : ℕ} (clears : ClearsRun q a) (looks : OnlyLooks a b)
        (tallied : SetsTally b Tally.Held n d) (looks_again : OnlyLooks d r) where
      sets : SetsTally a Tally.Held n r
      sets = tally_between Tally.Held _ looks tallied looks_again

      follows : Stays is_following q r
      follows = stays_then (λ x h. h) (λ x h. grind arith) clears.stays (held_stays sets)

      stays : StaysSo q.seat (world_of q) (world_of r)
      stays = stays_now follows

      changed : Changes a.seat (with_tally Tally.Held n) (world_of a) (world_of r)
      changed = reached_world sets

      none_held_now : (j : ℕ) → j < p.table.config.callers → is_held (now_of r).words j ≡ false
      none_held_now j lt = grind (arith, changed, reached_table)

      module _ (due : Bool) {fresh : ℕ} (once : FreesOnce p q) (behind : IsTurn q) (cleared : IsTurn a)
          (last : IsTurn r) (is : n + 64 * count ≡ (now_of p).words.held)
          (found : fresh ≡ (now_of r).words.fresh) (fits : n < 2 ^ 64) (is_due : IsTrue due ↔ (n < 4 * fresh)) where
        held_exact : n ≡ held_by_allocations p.table.config (world_of r).allocations
        held_exact = grind (arith, held_then, stays, now)

        fresh_exact : (now_of r).words.fresh ≡ in_a_word (fresh_words_of p.table.config (world_of r).allocations)
        fresh_exact =
            let told = fresh_told_by cell turn last (sym (reached_table freed) ∙ sym (reached_table follows))
            may.exact (stays.fresh_words ∙ now.fresh) in
            let none = ap (λ b. if b then 0 else words_under (header_in (now_of p).words cell.page)) heads.heads in
            let was : (now_of r).words.fresh ≡ (now_of p).words.fresh =
            ap (λ (x : Steady). x.fresh) changed.steady ∙ clears.fresh ∙ ap (λ (x : Steady). x.fresh) now.steady in
            let exact = may.exact.fresh in
            omega arith

        pub frees_large : FreesCell p cell due r
        frees_large =
            frees_counted due freed follows once behind last (subst (λ (x : PassState). IsGoneIn (world_of x))
            (sym sets.same)
            (still_gone (reaches_wider (λ x h. grind arith) sets).does cleared last clears.gone)) none_held_now
            (sym (ap (λ (x : Steady). x.held) changed.steady)) found held_exact (found ∙ fresh_exact) fits is_due
            (λ no_run. absurd (true≢false (sym heads.heads ∙ no_run)))
