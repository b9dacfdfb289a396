-- A sweep meets the law of engines, and makes what it promises.
use Rattle.mk_sweep.proofs.Vocabulary.{CellsAreClosed, Config, InGlobal, InRegister, InWord, IsScannedWord, IsSwept}
use Rattle.mk_sweep.proofs.Vocabulary.{IsSweptValue, Moment, PageIsBlack, PassState, PlacedAllocation, PointWell, Step}
use Rattle.mk_sweep.proofs.Vocabulary.{Sweeps, SweepsBy, SweepsOn, TurnState, Untouched, WordsState, World, heap_looks}
use Rattle.mk_sweep.proofs.Vocabulary.{is_tracing, now_of, phase_of, placed_at, points_well, still_words, words_below}
use Rattle.mk_sweep.proofs.{Vocabulary.world_of, EachOnce.{as_many, looked_at_once, never_twice}}
use Rattle.mk_sweep.proofs.{SweepSteps.{rule_alike, settled_kept, word_alike}, CountedWords.{some_there, times}}
use Rattle.mk_sweep.proofs.{Done.{looks_in_parts, looks_of_waiting}, StillMarked.others_leave_marked}
use Rattle.mk_sweep.specs.Sweeps.{IsSweeping, scanned_words, SweptAreMarked}
use Rattle.mk_cycle.proofs.Below.Laws.{InvariantHistories.allocations_stand, Settled.gone_is_unmapped}
use Rattle.mk_cycle.proofs.Below.Laws.Vocabulary.{ℕ, ap, arith, length, ne_eqb, slice_index, subst, sym, true, ◌++◌}
use Rattle.mk_cycle.proofs.Below.Laws.Vocabulary.{◌<◌, ◌∙◌, ◌≡◌, ◌≤◌}
use Rattle.mk_cycle.proofs.{Closes.{marks_closed_now, may_close_now}, Parts.{counted_by_kinds, traces_alike}}
use Rattle.mk_cycle.proofs.{Wants.{wanted_once_then, wants_by}, NoGrays.no_gray, TracedMarks.keeps_turn}
use Rattle.mk_cycle.specs.{EngineLaw.{WantsFirst, ClosesMarks, IsFreeForCycle}, Tracing.{is_tracing, Counted}}
use Rattle.mk_cycle.specs.{Tracing.{is_marking, is_waiting}, TurnKeeps.is_want, Grays.TracesReached}
use Rattle.mk_cycle.specs.{Stops.{IsWanted, IsToldOf}, Below.Words.Steps.Does}
use Rattle.mk_core.proofs.PointedAllocations.{marked_where_its_cell_is, points_well_where_marked}
use Rattle.mk_core.specs.Cycles.{is_marked_allocation}

-- Waiting keeps to the rule of every sweep.
waits : (w : World) (c : Config) (m : Moment) (s : Step) → is_waiting s ≡ true → SweepsBy w c m s
waits w c m x3 h = grind arith

-- After the wait the sweep may begin.
pub sweeping_behind : {p q : PassState} → Counted is_waiting TracesReached is_want p q 1 → IsWanted q
    → IsFreeForCycle p → phase_of (now_of p).words ≡ 1 → IsSweeping q
sweeping_behind {p} {q} waited wanted free one = grind (arith, settled_kept, ne_eqb, gone_is_unmapped)

-- The sweep of a stop, from the want of the close on: it begins after the wait, and ends where the marks may be closed.
pub record SweepsInStop (p : PassState) (t u : TurnState) : Type 0 where
  pub wants : WantsFirst p t.pass
  pub waited : Counted is_waiting TracesReached is_want p t.pass 1
  pub sweeping : IsSweeping t.pass
  pub on : SweepsOn t u (words_below (still_words t.pass) t.pass.table.config.pages)
  pub closed : CellsAreClosed u.pass.table.config (still_words u.pass)
  pub well : PointWell u.pass.table.config.pages (still_words u.pass)
      (words_below (still_words t.pass) t.pass.table.config.pages)

module _ {p : PassState} {t u : TurnState} (s : SweepsInStop p t u) where
  pub whole : Counted is_tracing (SweepsBy (world_of p)) is_want p u.pass 1
  whole =
      wanted_once_then _ p _ _ (counted_by_kinds is_waiting TracesReached _ is_want p _ 1 (waits _ _) s.waited)
      (traces_alike is_marking _ _ _ _ (rule_alike _ _ _ s.waited.traces.untouched) s.on.traces)

  words_of_all : heap_looks whole.traces.does ≡ words_below (still_words t.pass) t.pass.table.config.pages
  words_of_all =
      looks_in_parts s.waited.traces.does s.on.traces.does whole.traces.does
      ∙ ap (λ ns. ns ++ heap_looks s.on.traces.does) (looks_of_waiting s.waited.traces.does) ∙ s.on.looked

  table : t.pass.table ≡ p.table
  table = ap (λ (x : PassState). x.table) s.waited.traces.does.is

  scanned_before : {k : ℕ} → IsScannedWord u.pass.table.config (world_of u.pass).allocations k
      → IsScannedWord t.pass.table.config (world_of t.pass).allocations k
  scanned_before x = grind (arith, word_alike)

  all_words_are : length (words_below (still_words t.pass) t.pass.table.config.pages)
      ≡ scanned_words p.table.config (world_of p).allocations
  all_words_are =
      as_many t.in_order.history s.sweeping.settled
      ∙ ap (λ (y : WordsState). scanned_words y.config (world_of t.pass).allocations) table
      ∙ ap (λ (x : Untouched). scanned_words p.table.config x.steady.allocations) s.waited.traces.untouched

  value_well : {v : ℕ} → IsSweptValue u.pass.table.config (world_of u.pass) v
      → points_well u.pass.table.config.pages (now_of u.pass).words v ≡ true
  value_well (InRegister i is) = grind arith
  value_well (InGlobal g is) = grind arith
  value_well (InWord k scanned is) =
      ap (λ j. points_well u.pass.table.config.pages (now_of u.pass).words j) (sym is)
      ∙ s.well k (some_there (words_below (still_words t.pass) t.pass.table.config.pages) k (λ z.
      let one = looked_at_once t.in_order.history s.sweeping.settled (scanned_before scanned) in
      omega arith))

  swept_is_marked : {i : ℕ} → IsSwept u.pass.table.config (world_of u.pass) i → is_marked_allocation u.pass.table.config
      (now_of u.pass).words (placed_at (world_of u.pass).allocations i) ≡ true
  swept_is_marked {i} x =
      let c : Config = u.pass.table.config in
      let a : PlacedAllocation = placed_at (world_of u.pass).allocations i in
      let limits = u.in_order.history.within_limits in
      let st = allocations_stand c u.pass.seen u.in_order.history i x.points.0 in
      marked_where_its_cell_is c (now_of u.pass).words a limits st.stands st.headers
      ∙ sym (points_well_where_marked c (now_of u.pass).words a limits st.stands st.headers x.value x.points.1)
      ∙ value_well x.found

  pub told : IsToldOf SweptAreMarked u.pass
  told = others_leave_marked u s.on.sweeping.wanted (λ i x. swept_is_marked x)

  pub sweeps : (n : ℕ) → n ≡ length (words_below (still_words t.pass) t.pass.table.config.pages) → Sweeps p u.pass n
  sweeps n is =
      let early = t.in_order.history in
      record {
        traces = whole.traces;
        never_twice = λ k. subst (λ ns. times k ns ≤ 1) (sym words_of_all) (never_twice early s.sweeping.settled k);
        each = λ k x. ap (λ ns. times k ns) words_of_all
            ∙ looked_at_once early s.sweeping.settled (grind (arith, table, word_alike));
        counted = is ∙ sym (ap length words_of_all);
        words = is ∙ all_words_are;
        swept = λ i x. swept_is_marked x;
      }

  pub closes : ((pg : ℕ) → pg < u.pass.table.config.pages → PageIsBlack (still_words u.pass) pg)
      → ((pg : ℕ) → pg < u.pass.table.config.pages → slice_index (still_words u.pass).dirty pg ≡ 0)
      → ClosesMarks p u.pass
  closes black clean =
      let d : Does is_tracing p u.pass = whole.traces.does in
      let close = may_close_now u s.on.sweeping.wanted (λ pg lt. no_gray (still_words u.pass) pg (black pg lt))
      clean (record { registers = s.closed.registers; globals = s.closed.globals }) in
      record {
        does = d;
        wants = wants_by s.wants s.on.traces.does;
        one_want = whole.count;
        keeps = keeps_turn p u.pass (d.is ∙ ap (λ (x : PassState). record p { seen = x.seen }) (sym d.is))
            whole.traces.untouched whole.traces.counts;
        phase = s.on.sweeping.wanted.phase;
        close = close;
        closed = marks_closed_now u close;
      }
