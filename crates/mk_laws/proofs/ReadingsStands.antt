-- What headers and freed bits say of the allocations, after each history.
use Rattle.mk_laws.proofs.Vocabulary.{Bool, Cell, Config, Header, Invariant, IsFreedCell, IsTaken, LeafRun, NeverState}
use Rattle.mk_laws.proofs.Vocabulary.{OfHistories, Option, PlacedAllocation, Run, RunPages, Some, World, ℕ, and_parts}
use Rattle.mk_laws.proofs.Vocabulary.{ap, arith, cell_of_allocation, false, inl, inr, is_freed, is_phase}
use Rattle.mk_laws.proofs.Vocabulary.{is_released_in, left, ne_eqb, not-true, phase_of, placed_at, refl, run_count}
use Rattle.mk_laws.proofs.Vocabulary.{run_headed, stands_in_its_cell, sym, true, true≢false, typed_size, ◌-◌, ◌<◌, ◌∙◌}
use Rattle.mk_laws.proofs.Vocabulary.{◌≡◌, ◌≢◌}
use Rattle.mk_core.{proofs.PointedAllocations.taken_cell_is, specs.Readings.WordsTellWhatStands}
use Rattle.mk_laws.proofs.{Basics.{KnownWorld, known_world}, ForImages.standing}
use Rattle.mk_laws.{proofs.InvariantHistories.histories_keep_the_invariant, specs.WordLaws.HeadersAndQuarantineTell}

-- a header that heads a run of more pages than this
run_there : (x : Option Header) (page distance : ℕ) → distance < run_count x
    → (run : RunPages) × (run_headed x page ≡ Some run) × (distance < run.count)
run_there (Some (Run count mapped)) page distance lt = (record { page = page; count = count }, refl, lt)
run_there (Some (LeafRun count)) page distance lt = (record { page = page; count = count }, refl, lt)
run_there _ page distance lt = absurd (omega arith)

pub not_releasing : (w : World) → phase_of w.now.words ≢ 4 → is_phase w.now.words 4 ≡ false
not_releasing w quiet = ne_eqb _ 4 quiet

module _ (c : Config) (w : World) (n : NeverState) (known : KnownWorld c w) (all : Invariant c w n) where
  -- A freed bit is that of a freed allocation's cell, unless the phase is releasing.
  pub freed_cell : phase_of w.now.words ≢ 4 → (cell : Cell) → is_freed w.now.words cell ≡ true
      → IsFreedCell c w.allocations cell.page cell.index
  freed_cell quiet cell bit = elim (all.order.quarantined.owned cell.page cell.index bit) [
    | inl o ↦ o
    | inr r ↦ absurd (true≢false (sym r ∙ ap released_when (not_releasing w quiet)))
  ]
    where
      released_when : Bool → Bool
      released_when releasing = is_released_in releasing w.now.words.snapshot w.now.words.marks cell.page cell.index

  taken_freed : (cell : Cell) → is_freed w.now.words cell ≡ true → IsFreedCell c w.allocations cell.page cell.index
      → (a : IsTaken w cell) × ((placed_at w.allocations a.number).freed ≡ true)
  taken_freed cell bit o =
      let a : PlacedAllocation = placed_at w.allocations o.number in
      let s = standing c w known all.order.laid o.number o.unreleased in (
        record {
          number = o.number;
          in_range = all.order.known cell.page cell.index bit;
          stands = cc (o.cell, stands_in_its_cell c w.now.words a known.limits s.stands s.headers);
        },
        o.freed,
      )

  -- who stands in a cell, and that it is its own
  taken : (cell : Cell) (t : IsTaken w cell) → ((placed_at w.allocations t.number).released ≡ false)
      × (cell_of_allocation c (placed_at w.allocations t.number) ≡ cell)
  taken cell t =
      let a : PlacedAllocation = placed_at w.allocations t.number in
      let s = standing c w known all.order.laid t.number (not-true a.released (and_parts _ _ t.stands).0) in
      taken_cell_is c w cell t (typed_size c a known.limits s.stands.typed) s.headers

  words_tell : WordsTellWhatStands w
  words_tell = record {
    headers = all.order.words;
    later = λ quiet p distance mapped is. elim (all.order.laid.scene.later p distance mapped is).1 [
      | inl lt ↦
          let r = run_there _ (p - distance) distance lt in
          (r.0, r.1, r.2, (all.order.laid.scene.later p distance mapped is).0)
      | inr lost ↦ absurd (true≢false (sym lost.0 ∙ not_releasing w quiet))
    ];
    freed = λ quiet cell bit. taken_freed cell bit (freed_cell quiet cell bit);
    quarantined = λ cell t freed. ap (λ (x : Cell). is_freed w.now.words x) (sym (taken cell t).1)
        ∙ all.order.quarantined.shown t.number (taken cell t).0 freed;
  }

pub headers_and_quarantine_tell : OfHistories HeadersAndQuarantineTell
headers_and_quarantine_tell c es h = words_tell c (left c es) _ (known_world c es h.within_limits h.enabled)
    (histories_keep_the_invariant c es h)
