-- Where all are joined nobody holds the turn, so the tallies are the counts.
use Rattle.std.proofs.Common.{count_ones, ⊎_elim}
use Rattle.mk_alloc.proofs.Below.Laws.Vocabulary.{AreOfOthers, Caller, Config, Event, Flight, IsHistory, IsTidy, List}
use Rattle.mk_alloc.proofs.Below.Laws.Vocabulary.{Marker, Moment, World, cases_lt, enabled_meets, first_world}
use Rattle.mk_alloc.proofs.Below.Laws.Vocabulary.{world_behind, [], ◌∷◌, ◌≤◌, PlacedAllocation, Protocol, Seat, Words}
use Rattle.mk_alloc.proofs.Below.Laws.Vocabulary.{ℕ, and_from, and_parts, ap, arith, cases_eq, eq-eqb, false}
use Rattle.mk_alloc.proofs.Below.Laws.Vocabulary.{host_has_turn, inl, inr, is_quarantined, left, lt-ltb, not, not-true}
use Rattle.mk_alloc.proofs.Below.Laws.Vocabulary.{phase_of, placed_at, refl, seat_exists, slice_index, subst, suc, sym}
use Rattle.mk_alloc.proofs.Below.Laws.Vocabulary.{true, true≢false, zero, ◌%◌, ◌+◌, ◌-◌, ◌<◌, ◌^◌, ◌∙◌, ◌≡◌, ◌≢◌, ◌⊎◌}
use Rattle.mk_alloc.proofs.Below.Laws.{InvariantHistories.histories_keep_the_invariant, Known.known_left}
use Rattle.mk_alloc.proofs.Below.Laws.{Protocols.protocol_of, Tallies.tallies_tell}
use Rattle.mk_alloc.proofs.Below.{Cycles.CellCounts.cells_are_as_many, Words.Seats.{has_not, only_one}}
use Rattle.mk_alloc.specs.Below.{Cycles.Freeing.sum_below, Words.States.{HasTallies, freed_cells}}
use Rattle.mk_alloc.specs.Below.Words.States.{Has, HasAll, WordsState, now_of}
use Rattle.mk_alloc.specs.Below.Words.declared.finals.Final.{Final}
use Rattle.mk_core.specs.{History.AreEnabledFrom, Readings.is_in_turn}
use Rattle.mk_heap.{proofs.HostsKept.{all_home}, specs.Hosts.{HasCounts, IsWhole, MarkersAreBelow, quarantined}}
use Rattle.mk_heap.specs.{declared.reports.Report.Report, Hosts.{AllAreJoined, HostState, IsHost, Rests}}
use Rattle.mk_alloc.specs.Below.Words.States as final

-- The freed bits of the quarantine words are as many as the allocations that are freed and unreleased.

abbrev freed_bits : Words → ℕ → ℕ
freed_bits w p = slice_index w.freed p

cells_summed : (w : Words) → ((p : ℕ) → freed_bits w p < 2 ^ 32) → (n : ℕ)
    → freed_cells (freed_bits w) n ≡ sum_below n (λ p. count_ones (freed_bits w p))
cells_summed w small zero = refl
cells_summed w small (suc n) =
    let before = cells_summed w small n in
    let fits = small n in
    let whole : freed_bits w n % 2 ^ 32 ≡ freed_bits w n = omega arith in
    let here = ap count_ones whole in
    omega arith

module _ {c : Config} {es : List Event} (h : IsHistory c es) (quiet : phase_of (left c es).now.words ≢ 4) where
  pub freed_cells_are_quarantined : freed_cells (freed_bits (left c es).now.words) c.pages
      ≡ quarantined (left c es).allocations
  freed_cells_are_quarantined =
      let known = (histories_keep_the_invariant c es h).order.quarantined in
      cells_summed (left c es).now.words (λ p. (known.small p).0) c.pages
      ∙ cells_are_as_many c es h quiet is_quarantined (freed_bits (left c es).now.words)
      (let known = (histories_keep_the_invariant c es h).order.quarantined in
      record {
        none = refl;
        small = λ p. (known.small p).0;
        within = λ p k bit. bit;
        quarantined = λ i is.
            let a : PlacedAllocation = placed_at (left c es).allocations i in
            let both = and_parts a.freed (not a.released) is in
            (not-true a.released both.1, both.0);
        same = λ i unreleased freed.
            let a : PlacedAllocation = placed_at (left c es).allocations i in
            and_from a.freed (not a.released) freed (ap not unreleased) ∙ sym (known.shown i unreleased freed);
      })

-- the report of a table that has ended
abbrev pub report_of : Final → Report
report_of f = record {
  held = f.held;
  fresh = f.fresh;
  quarantined = f.quarantined;
  released = f.released;
  cycles = f.cycles;
  full = f.full;
  last = f;
}

-- the turn of a moment at which all rest
rested_turn : {c : Config} {m : Moment} → Protocol c m → host_has_turn c m ≡ false
    → ((s : Seat) → seat_exists c s ≡ true → Rests m s) → m.words.turn ≡ 0
rested_turn {c} {m} protocol no_turn rests = by (cases_eq m.words.turn 0) (cases_eq m.words.turn (1 + c.callers))
  where
    by : (m.words.turn ≡ 0) ⊎ (m.words.turn ≢ 0) → (m.words.turn ≡ 1 + c.callers) ⊎ (m.words.turn ≢ 1 + c.callers)
        → m.words.turn ≡ 0
    by (inl none) host = none
    by (inr some) (inl host) = absurd (true≢false (sym (eq-eqb m.words.turn (1 + c.callers) host) ∙ no_turn))
    by (inr some) (inr other) =
        let least = protocol.turn in
        let within : m.words.turn - 1 < c.callers = omega arith in
        let in_turn = (protocol.holder (m.words.turn - 1) within).0 (omega arith) in
        absurd (true≢false (sym in_turn ∙ ap (λ (f : Flight). is_in_turn f)
        (rests (Caller (m.words.turn - 1)) (lt-ltb (m.words.turn - 1) c.callers within)).call))

pub counts_told : {c : Config} {es : List Event} (f : Final) → IsHistory c es → IsTidy c es
    → host_has_turn c (left c es).now ≡ false → ((s : Seat) → seat_exists c s ≡ true → Rests (left c es).now s)
    → HasTallies (left c es).now.words c.pages f → HasCounts c es (report_of f)
counts_told {c} {es} f h tidy no_turn rests told =
    let protocol = protocol_of c (left c es).now (known_left c es h.within_limits h.enabled) in
    let free = rested_turn protocol no_turn rests in
    let tells = tallies_tell c es h free in
    let is_tidy = tells.1 tidy in
    record {
      held = told.held ∙ tells.0.held;
      fresh = told.fresh ∙ tells.0.fresh;
      quarantined = told.quarantined
          ∙ freed_cells_are_quarantined h (λ four. protocol.cycle (omega arith) (omega arith) free);
      released = told.released ∙ is_tidy.released;
      cycles = told.cycles ∙ is_tidy.cycles;
      full = told.full ∙ is_tidy.full;
    }

-- A seat that doesn't exist takes no step.
absent_from : (c : Config) (w : World) (es : List Event) → AreEnabledFrom c w es → (s : Seat)
    → seat_exists c s ≡ false → AreOfOthers (s ∷ []) es
unfolding AreEnabledFrom AreOfOthers
absent_from c w [] on s none = tt
absent_from c w (e ∷ es) on s none = (
  has_not (s ∷ []) e.seat (λ own. true≢false (sym (enabled_meets c w.now e on.0).seat
      ∙ subst (λ (x : Seat). seat_exists c x ≡ false) (sym (only_one s e.seat own)) none)),
  absent_from c (world_behind c w e) es on.1 s none,
)

-- A host of the table, with all seats home.
pub record HasAllHome (h : HostState) (w : WordsState) : Type 0 where
  pub is : IsHost h
  pub joined : AllAreJoined h
  pub own : Has h.pass.seats h.pass.seat
  pub table : h.pass.table ≡ w

-- The report of a heap whose table has ended.
module _ {h : HostState} {w : WordsState} (host : HasAllHome h w) where
  pub home : HasAll w.config h.pass.seats
  home = subst (λ (x : WordsState). HasAll x.config h.pass.seats) host.table (all_home host.is host.own host.joined)

  all_rest : (s : Seat) → seat_exists h.pass.table.config s ≡ true → Rests (now_of h.pass) s
  all_rest s exists = host.is.rests s (all_home host.is host.own host.joined s exists)

  module _ (f : Final) (history : IsHistory h.pass.table.config h.pass.seen) (tidy : IsTidy h.pass.table.config
      h.pass.seen) (seen : final.history_of f ≡ h.pass.seen) (config : final.config_of f ≡ w.config) where
    pub ends_whole : IsWhole (final.config_of f) (final.history_of f)
    ends_whole = grind (arith, all_rest)

    pub ends_unmade : MarkersAreBelow h.markers (final.history_of f)
    ends_unmade k le =
        rw seen (⊎_elim (λ (few : k < 8). host.is.unmade k le few)
        (λ (many : 8 ≤ k). absent_from h.pass.table.config (first_world h.pass.table.config) h.pass.seen history.enabled
        (Marker k) (grind arith)) (cases_lt k 8))

    pub ends_counted : HasTallies (now_of h.pass).words w.config.pages f
        → HasCounts (final.config_of f) (final.history_of f) (report_of f)
    ends_counted told =
        let r : Report = report_of f in
        rw (ap (λ (x : WordsState). x.config) host.table ∙
        sym config) at (rw (← seen) at (counts_told f
        history tidy host.is.no_turn all_rest (rw (← host.table) at told)))
