-- The marks may be closed, and are closed.
use Rattle.std.specs.List.{list_all}
use Rattle.mk_words.proofs.Below.Laws.Vocabulary.{Bool, Config, Event, List, MarksAreClosed, Step, Words, ℕ, all_below}
use Rattle.mk_words.proofs.Below.Laws.Vocabulary.{and_from, arith, enabled_in_parts, eq-eqb, has_closed_page}
use Rattle.mk_words.proofs.Below.Laws.Vocabulary.{none_attends, phase_of, points_well, refl, roots_point_well}
use Rattle.mk_words.proofs.Below.Laws.Vocabulary.{slice_index, suc, true, [], ◌&&◌, ◌++◌, ◌<◌, ◌==◌, ◌∷◌, ◌≡◌}
use Rattle.mk_words.proofs.Below.Laws.InvariantHistories.{closes_find_marks_closed}
use Rattle.mk_words.proofs.Below.Laws.Tests.{all_below_from, none_from}
use Rattle.mk_cycle.proofs.{MoreMarks.{marked_as, well_more}, Steps.may_step}
use Rattle.mk_cycle.specs.{Grays.{ColoursMore, HasNoGray, RootsPointWell}, Stops.{IsWanted, still_words}}
use Rattle.mk_core.specs.History.{AreEnabledFrom}
use Rattle.mk_words.proofs.Undecided.{undecided_admitted}
use Rattle.mk_words.specs.{States.{PassState, TurnState, event_of, now_of, world_of}, Steps.IsEnabledTo}

all_from : (test : ℕ → Bool) (xs : List ℕ) → ((i : ℕ) → test (slice_index xs i) ≡ true) → list_all test xs ≡ true
all_from test [] each = refl
all_from test (x ∷ xs) each = and_from (test x) (list_all test xs) (each 0) (all_from test xs (λ i. each (suc i)))

-- Roots go on pointing well while marks and black bits are added.
pub roots_more : {pages : ℕ} {w v : Words} → ColoursMore w v → RootsPointWell pages w → RootsPointWell pages v
roots_more more roots = grind (arith, marked_as, well_more)

pub may_close_now : (t : TurnState) → IsWanted t.pass
    → ((pg : ℕ) → pg < t.pass.table.config.pages → HasNoGray (still_words t.pass) pg)
    → ((pg : ℕ) → pg < t.pass.table.config.pages → slice_index (still_words t.pass).dirty pg ≡ 0)
    → RootsPointWell t.pass.table.config.pages (still_words t.pass) → IsEnabledTo t.pass Step.Close
may_close_now t wanted black clean roots =
    let p : PassState = t.pass in
    let w : Words = (now_of p).words in
    let pages : ℕ = p.table.config.pages in
    may_step t Step.Close wanted.ready refl refl wanted.gates (eq-eqb (phase_of w) 2 wanted.phase) refl
    (and_from (none_attends (now_of p).seats.markers && all_below pages (has_closed_page w)) (roots_point_well pages w)
    (and_from (none_attends (now_of p).seats.markers) (all_below pages (has_closed_page w))
    (none_from (now_of p).seats.markers wanted.none) (all_below_from pages (has_closed_page w) (λ pg lt. and_from _
    (slice_index w.dirty pg == 0) (eq-eqb _ 0 (black pg lt)) (eq-eqb (slice_index w.dirty pg) 0 (clean pg lt)))))
    (and_from (list_all (points_well pages w) w.registers) (list_all (points_well pages w) w.globals) (all_from
    (points_well pages w) w.registers roots.registers) (all_from (points_well pages w) w.globals roots.globals)))

pub marks_closed_now : (t : TurnState) → IsEnabledTo t.pass Step.Close
    → MarksAreClosed t.pass.table.config (world_of t.pass)
unfolding AreEnabledFrom
marks_closed_now t on =
    let p : PassState = t.pass in
    let history = t.in_order.history in
    let c : Config = p.table.config in
    let e : Event = event_of p Step.Close in
    closes_find_marks_closed c (p.seen ++ e ∷ []) (record {
      within_limits = history.within_limits;
      enabled =
          (enabled_in_parts c p.seen (e ∷ [])).1 (history.enabled, (on, tt));
      admitted = undecided_admitted p Step.Close
          history (λ h. cc);
    }) p.seen [] p.seat refl
