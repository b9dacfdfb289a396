-- A stop in which the marks are closed, and what they leave unmarked is released.
use Rattle.mk_words.proofs.Below.Laws.Vocabulary.{Config, Steady, Step, ℕ, ap, refl, subst, sym, ◌∙◌, ◌≡◌}
use Rattle.mk_cycle.proofs.Vocabulary.{Acts, HasFreeCells, HasReleased, HoldsFewer, IsAtPhase, IsFreeForCycle}
use Rattle.mk_cycle.proofs.Vocabulary.{IsOccupied, IsTurn, LeavesTurn, PassState, WordsState, held_below, now_of}
use Rattle.mk_cycle.proofs.Vocabulary.{released_below, world_of}
use Rattle.mk_cycle.proofs.HeldReleased.{held_alike, release_holds}
use Rattle.mk_cycle.proofs.{Allowed.in_turn_after, KeptInParts.{free_then, same_config}}
use Rattle.mk_cycle.proofs.{ReleaseSteps.{close_leaves, releases_unmarked}, ReleasedCells.cells_are_free}
use Rattle.mk_cycle.proofs.{ReleasedCells.pages_are_occupied, ReleasedCounts.{release_tells, told_from}}
use Rattle.mk_cycle.specs.{EngineLaw.ClosesMarks, FinishCycle.ReleasesUnmarked, TurnKeeps.but_phase}

-- The engine closes the marks, and the turn's holder makes the `close` and the `release`.
pub record StopReleases (p b d q : PassState) : Type 0 where
  pub begun : IsTurn p
  pub free : IsFreeForCycle p
  pub marks : ClosesMarks p b
  pub marked : IsTurn b
  pub close : Acts b Step.Close d
  pub closed : IsTurn d
  pub release : Acts d Step.Release q

module _ {p b d q : PassState} (s : StopReleases p b d q) where
  free_marked : IsFreeForCycle b
  free_marked = free_then p b s.marks.keeps.call s.free

  closes : LeavesTurn but_phase b d × IsAtPhase d 3
  closes = close_leaves s.marked free_marked s.marks.phase s.close s.closed

  free_closed : IsFreeForCycle d
  free_closed = free_then b d closes.0.call free_marked

  released : IsTurn q
  released = in_turn_after s.release refl

  same : d.table.config ≡ p.table.config
  same = same_config b d closes.0.call.pass ∙ same_config p b s.marks.keeps.call.pass

  allocations : (world_of d).allocations ≡ (world_of p).allocations
  allocations = ap (λ (y : Steady). y.allocations) closes.0.steady ∙ ap (λ (y : Steady). y.allocations)
      s.marks.keeps.steady

  pub stop_releases : ReleasesUnmarked p q
  stop_releases = releases_unmarked s.begun s.free s.marks s.marked s.close s.closed s.release released

  pub stop_leaves_cells : (page : ℕ) → HasFreeCells q page
  stop_leaves_cells = cells_are_free s.closed released closes.1 s.release free_closed.gone

  pub stop_leaves_occupied : (page : ℕ) → IsOccupied q page
  stop_leaves_occupied = pages_are_occupied s.closed released closes.1 s.release free_closed.unplaced

  module _ {w : WordsState} (table : p.table ≡ w) where
    pages : d.table.config.pages ≡ w.config.pages
    pages = ap (λ (x : Config). x.pages) same ∙ ap (λ (x : WordsState). x.config.pages) table

    pub stop_tells : HasReleased p q (released_below (now_of q).words w.config.pages)
    stop_tells =
        subst (λ (n : ℕ). HasReleased p q (released_below (now_of q).words n)) pages
        (told_from p same allocations (release_tells s.closed released closes.1 s.release))

    pub stop_holds : HoldsFewer p q (held_below (now_of q).words w.config.pages)
    stop_holds =
        subst (λ (n : ℕ). HoldsFewer p q (held_below (now_of q).words n)) pages
        (sym (held_alike p d same allocations) ∙ release_holds s.closed released closes.1 s.release free_closed.gone)
