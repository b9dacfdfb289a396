-- What a sweep doesn't mark is released by its cycle.
use Rattle.mk_sweep.proofs.Vocabulary.{Config, Event, PassState, PlacedAllocation, Untouched, WordsState, World}
use Rattle.mk_sweep.proofs.Vocabulary.{before_release, cell_of_allocation, flight_of, is_marked, left, placed_at}
use Rattle.mk_sweep.proofs.{Vocabulary.{world_behind, world_of}, Unswept.unswept_stays_unmarked}
use Rattle.mk_cycle.proofs.Below.Laws.Vocabulary.{List, ℕ, ap, cases_Bool, false, inl, inr, left_in_parts, length, refl}
use Rattle.mk_cycle.proofs.Below.Laws.Vocabulary.{subst, sym, true≢false, [], ◌++◌, ◌<◌, ◌∙◌, ◌∷◌, ◌≡◌}
use Rattle.mk_cycle.proofs.Below.Laws.Ground.{AreOfOne, allocation_step, goes_on, is_there, of_one_joined}
use Rattle.mk_cycle.proofs.Below.Laws.{OlderAllocations.{AreOlder, older_behind}, Marking.{More, one_more}}
use Rattle.mk_cycle.proofs.Below.Laws.PrecisionStepKinds.{is_grant, release_is}
use Rattle.mk_cycle.proofs.Below.Laws.{Releases.releases_are_exact, Stretches.{at_release, history_through}}
use Rattle.mk_cycle.specs.Below.Laws.Releases.{allocation_before, allocation_behind}
use Rattle.mk_core.specs.History.{left_from}
use Rattle.mk_sweep.specs.Sweeps.{LeaveUnmarked, UnsweptIsReleased}

same_cell : (c : Config) {a b : PlacedAllocation} → AreOfOne a b → cell_of_allocation c b ≡ cell_of_allocation c a
same_cell c one = cc (one.base, one.ty)

-- The allocation stands where this one stood, and its cell is unmarked.
record StandsUnmarked (c : Config) (a : PlacedAllocation) (i : ℕ) (w : World) : Type 0 where
  there : i < length w.allocations
  same : AreOfOne a (placed_at w.allocations i)
  unmarked : is_marked w.now.words (cell_of_allocation c a) ≡ false

stands_along : (c : Config) (a : PlacedAllocation) (i : ℕ) (w : World) (es : List Event)
    → LeaveUnmarked c (cell_of_allocation c a) w es → StandsUnmarked c a i w → StandsUnmarked c a i (left_from c w es)
unfolding LeaveUnmarked left_from
stands_along c a i w [] leave at = at
stands_along c a i w (e ∷ es) leave at =
    let v : World = world_behind c w e in
    let on = goes_on w.allocations v.allocations e.step i
    (allocation_step c w.now (flight_of w.now e.seat) e.step w.allocations) at.there in
    stands_along c a i v es leave.1 (record {
      there = on.there;
      same = of_one_joined a (placed_at w.allocations i) (placed_at v.allocations i) at.same on.same;
      unmarked = leave.0 at.unmarked;
    })

pub unswept_is_released : UnsweptIsReleased
unswept_is_released p q n s es r rest i history seen is one snapshot unreleased out was others leave =
    elim (cases_Bool (allocation_before c r i).released) [
      | inl gone ↦ elim (cases_Bool (allocation_behind c r i).released) [
        | inl released ↦ released
        | inr kept ↦ absurd (true≢false (sym gone ∙ stays.was i kept))
      ]
      | inr kept ↦ (releases_are_exact c es history r i kept).1 (
        snapshot,
        ap (is_marked (left c (before_release r)).now.words) (same_cell c before.same) ∙ before.unmarked,
      )
    ]
  where
    c : Config
    c = p.table.config

    a : PlacedAllocation
    a = placed_at (world_of p).allocations i

    e : Event
    e = r.release.at.event

    same_world : world_of q ≡ left c q.seen
    same_world = ap (λ (t : WordsState). left t.config q.seen) (ap (λ (x : PassState). x.table) s.traces.does.is)

    more : More c (before_release r) e
    more = one_more c _ e (history_through c es _ _ e history (at_release r))

    stays : AreOlder (left c (before_release r)).allocations (left c (before_release r ++ e ∷ [])).allocations
    stays =
        subst (λ (w : World). AreOlder (left c (before_release r)).allocations w.allocations) (sym more.left)
        (older_behind c (left c (before_release r)) e.seat e.step
        (ap is_grant (release_is e.step r.release.at.of_kind)))

    allocations : (world_of q).allocations ≡ (world_of p).allocations
    allocations = ap (λ (u : Untouched). u.steady.allocations) s.traces.untouched

    before : StandsUnmarked c a i (left c (before_release r))
    before =
        subst (StandsUnmarked c a i) (sym (ap (left c) is ∙ left_in_parts c _ rest ∙ ap
        (λ (w : World). left_from c w rest) (sym same_world))) (stands_along c a i _ rest leave (record {
          there = subst (λ (xs : List PlacedAllocation). i < length xs) (sym allocations)
              (is_there (world_of p).allocations i unreleased);
          same = subst (λ (xs : List PlacedAllocation). AreOfOne a (placed_at xs i)) (sym allocations)
              (record { base = refl; ty = refl });
          unmarked = unswept_stays_unmarked p q n s i seen one unreleased out was others;
        }))
