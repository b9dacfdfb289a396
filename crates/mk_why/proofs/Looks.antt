-- Looks leave the view as it is, and so does what others do in the stop; after an engine's marks they leave its law.
use Rattle.std.proofs.{lemmas.List.{Sums.{sum_by-append, sum_by-cons}, append_cancel_left}, Common.count_by}
use Rattle.mk_why.proofs.Vocabulary.{Config, Event, IsHistory, IsStill, LooksWhileStill, PassState, TurnState, View}
use Rattle.mk_why.proofs.Vocabulary.{World, is_word, left, now_of, others_are_held, phase_of, view_by, view_of}
use Rattle.mk_sweep.proofs.Below.Laws.Vocabulary.{AreOfOthers, Bool, List, MarkerState, Moment, Seat, Step, TurnIsLeft}
use Rattle.mk_sweep.proofs.Below.Laws.Vocabulary.{Word, ℕ, all_below, and_from, and_parts, ap, append_assoc, arith}
use Rattle.mk_sweep.proofs.Below.Laws.Vocabulary.{cond, enabled_meets, eq-eqb, false, has_closed_page, is_attending}
use Rattle.mk_sweep.proofs.Below.Laws.Vocabulary.{lt-ltb, none_attends, not, not-true, outside, refl, roots_point_well}
use Rattle.mk_sweep.proofs.Below.Laws.Vocabulary.{slice_index_or, suc, true, zero, [], ◌&&◌, ◌++◌, ◌+◌, ◌∙◌, ◌∷◌, ◌≡◌}
use Rattle.mk_sweep.proofs.Below.Laws.{ProtocolFrames.others_leave, Tests.none_from}
use Rattle.mk_sweep.proofs.Below.Cycles.KeptInParts.{free_then, keeps_at_once, keeps_then}
use Rattle.mk_sweep.proofs.Below.Cycles.{Allowed.in_turn_before, CleaningSteps.calm_keeps}
use Rattle.mk_sweep.proofs.Below.Cycles.{MayAct.calm_admitted, Stilled.{none_after, phase_there}}
use Rattle.mk_sweep.proofs.Below.Cycles.{Stilled.words_left, Closes.marks_closed_now}
use Rattle.mk_sweep.proofs.Below.Cycles.{MaySteps.may_look, Steps.may_step, Wants.wants_by}
use Rattle.mk_sweep.proofs.Below.Words.Doing.{does_nothing, does_step, does_then, done_in_parts}
use Rattle.mk_sweep.proofs.Below.Words.{PointedCells.looked_for, Sweeping.{does_sweep, sweeps_then}}
use Rattle.mk_sweep.proofs.{Below.Words.{Seats.others_own, TurnSteps.still_stopped}, Kept.ready_of}
use Rattle.mk_sweep.specs.Below.Cycles.TurnKeeps.{LeavesTurn, but_phase, is_want, is_look}
use Rattle.mk_sweep.specs.Below.Cycles.{EngineLaw.{ClosesMarks, IsFreeForCycle}, Tracing.is_tracing, Stops.IsWanted}
use Rattle.mk_sweep.specs.Below.Words.{Sweeping.{HaveNoMark, SweepsNothing}, Steps.{Does, are_of, count_done, done_in}}
use Rattle.mk_sweep.specs.Below.Words.{Steps.{IsAdmittedTo, IsEnabledTo}, TurnSteps.{LooksForCell, MayLookAtHeaders}}
use Rattle.mk_sweep.specs.Below.Words.{TurnSteps.Acts, States.event_of}
use Rattle.mk_core.specs.{Frames.written_of, History.Finding, Readings.NoneAttends}

-- Looks leave the view as it is, and so does what others do in the stop.

pub view_left : {w v : World} → TurnIsLeft w v → written_of v ≡ written_of w → phase_of w.now.words ≡ 2
    → NoneAttends w.now → view_of v ≡ view_of w
view_left {w} {v} turn written two none = grind (arith, words_left)

-- Any word may be looked at.
module _ (t : TurnState) (still : IsStill t.pass) where
  pub wanted_now : IsWanted t.pass
  wanted_now = record {
    ready = ready_of t.in_order still.free;
    gates = still.gates;
    phase = still.wanted;
    none = still.none;
  }

  pub look_enabled : (x : Word) → is_word t.pass.table.config x ≡ true → IsEnabledTo t.pass (Step.Look x)
  look_enabled x is = may_look t wanted_now x is

  pub look_admitted : (x : Word) → IsAdmittedTo t.pass (Step.Look x)
  look_admitted x = calm_admitted t.pass (Step.Look x) t.in_order.history refl still.free.decided

-- A look leaves all still.
module _ (t u : TurnState) {x : Word} (a : Acts t.pass (Step.Look x) u.pass) (still : IsStill t.pass) where
  keeps : LeavesTurn but_phase t.pass u.pass
  keeps =
      calm_keeps t.pass (Step.Look x) u.pass a (in_turn_before a) a.makes.pass.history refl still.free but_phase refl

  pub look_on : LooksWhileStill t u
  look_on = record {
    table = ap (λ (y : PassState). y.table) a.makes.is;
    does = does_step is_look t.pass u.pass (Step.Look x) a.makes refl;
    keeps = keeps;
    view = ap view_of a.world ∙ view_left a.turn (a.stop (a.holds, still.gates)) still.wanted still.none;
    still = let wanted = wanted_now t still in
        grind (arith, free_then, keeps, still_stopped, phase_there a wanted, none_after a wanted);
  }

-- Nothing is looked at, and one part is after the other.

pub looks_at_nothing : (t : TurnState) → IsStill t.pass → LooksWhileStill t t
looks_at_nothing t still = grind (arith, does_nothing, keeps_at_once)

pub looks_then : {t u v : TurnState} → LooksWhileStill t u → LooksWhileStill u v → LooksWhileStill t v
looks_then {t} {u} {v} one two = grind (arith, does_then, keeps_then)

-- The cell into which a value points is looked for.

pub may_look_at_headers : (t : TurnState) → IsStill t.pass → MayLookAtHeaders t.pass
may_look_at_headers t still page lt = look_enabled t still (Word.Head page) (lt-ltb page _ lt)

pub looks_for_cell : {value : ℕ} {t u : TurnState} → LooksForCell value t u → IsStill t.pass → LooksWhileStill t u
looks_for_cell {value} {t} {u} l still =
    looked_for (λ (v : TurnState). LooksWhileStill t v) l (looks_at_nothing t still) (λ a. look_on t u a still)

-- Looks after an engine's marks leave its law, and what is said of the view.

-- No marker attends where the marks may be closed.

each_not : (xs : List MarkerState) → none_attends xs ≡ true
    → (k : ℕ) → is_attending (slice_index_or xs k outside).presence ≡ false
each_not [] h k = refl
each_not (x ∷ xs) h zero = not-true _ (and_parts (not (is_attending x.presence)) (none_attends xs) h).0
each_not (x ∷ xs) h (suc k) = each_not xs (and_parts (not (is_attending x.presence)) (none_attends xs) h).1 k

pages_close : ℕ → View → Bool
pages_close pages v = all_below pages (has_closed_page v.words)

roots_close : ℕ → View → Bool
roots_close pages v = roots_point_well pages v.words

-- what the close asks of the view
record ClosesBy (c : Config) (m : Moment) (seat : Seat) (v : View) : Type 0 where
  gates : others_are_held c.callers m.words seat ≡ true
  none : none_attends m.seats.markers ≡ true
  pages : pages_close c.pages v ≡ true
  roots : roots_close c.pages v ≡ true

closes_by : (p : PassState) → IsEnabledTo p Step.Close → ClosesBy p.table.config (now_of p) p.seat (view_by p)
unfolding pages_close roots_close
closes_by p on =
    let meets = enabled_meets p.table.config (now_of p) (event_of p Step.Close) on in
    grind (arith, meets.gates, meets.holder, and_parts)

pub still_closed : {p q : PassState} → ClosesMarks p q → IsFreeForCycle p → IsStill q
still_closed {p} {q} law free = grind (arith, free_then, each_not, closes_by)

may_close_by : (t : TurnState) → IsStill t.pass → pages_close t.pass.table.config.pages (view_by t.pass) ≡ true
    → roots_close t.pass.table.config.pages (view_by t.pass) ≡ true → IsEnabledTo t.pass Step.Close
unfolding pages_close roots_close
may_close_by t still pages roots =
    let c : Config = t.pass.table.config in
    let m : Moment = now_of t.pass in
    may_step t Step.Close (wanted_now t still).ready refl refl still.gates
    (eq-eqb (phase_of m.words) 2 still.wanted) refl (and_from (none_attends m.seats.markers && all_below c.pages
    (has_closed_page m.words)) (roots_point_well c.pages m.words) (and_from (none_attends m.seats.markers)
    (all_below c.pages (has_closed_page m.words)) (none_from m.seats.markers still.none) pages) roots)

-- Looks are of the kinds of the law, and wish nothing.

look_closes : (xs : List Finding) → are_of is_look xs ≡ true → are_of is_tracing xs ≡ true
look_closes [] h = refl
look_closes (x ∷ xs) h =
    let parts = and_parts (is_look x.event.step) (are_of is_look xs) h in
    and_from (is_tracing x.event.step) (are_of is_tracing xs) (by x.event.step parts.0) (look_closes xs parts.1)
  where
    by : (s : Step) → is_look s ≡ true → is_tracing s ≡ true
    by x0 e = grind arith

none_wished : (xs : List Finding) → are_of is_look xs ≡ true → count_by (λ (x : Finding). is_want x.event.step) xs ≡ 0
none_wished [] h = refl
none_wished (x ∷ xs) h =
    let parts = and_parts (is_look x.event.step) (are_of is_look xs) h in
    let all : count_by (λ (y : Finding). is_want y.event.step) (x ∷ xs)
    ≡ cond {A = ℕ} (is_want x.event.step) 1 0 + count_by (λ (y : Finding). is_want y.event.step) xs =
    sum_by-cons (λ (y : Finding). cond (is_want y.event.step) 1 0) x xs in
    let first : cond {A = ℕ} (is_want x.event.step) 1 0 ≡ 0 = grind arith in
    let rest : count_by (λ (y : Finding). is_want y.event.step) xs ≡ 0 = none_wished xs parts.1 in
    omega arith
  where
    by : (s : Step) → is_look s ≡ true → is_want s ≡ false
    by (Step.Look y) e = refl
    by _ e = cc

-- what is done is counted in parts
counts_then : (kind : Step → Bool) {kinds more both : Step → Bool} {p q r : PassState} (d : Does kinds p q)
    (e : Does more q r) (f : Does both p r) → count_done kind f ≡ count_done kind d + count_done kind e
counts_then kind {p} {r} d e f = grind (arith, done_in_parts, sum_by-append, append_assoc, append_cancel_left)

module _ {p : PassState} {t u : TurnState} (law : ClosesMarks p t.pass) (on : LooksWhileStill t u) where
  close_now : IsEnabledTo u.pass Step.Close
  close_now = grind (arith, closes_by, may_close_by u, pages_close, roots_close)

  pub law_kept : ClosesMarks p u.pass
  law_kept =
      let does = does_then is_tracing p t.pass u.pass law.does (grind (arith, look_closes)) in
      let none : count_done is_want on.does ≡ 0 = none_wished (done_in t.pass on.does.more) on.does.of_kinds in
      let one = law.one_want in
      let both = counts_then is_want law.does on.does does in
      record {
        does = does;
        wants = wants_by law.wants on.does;
        one_want = omega arith;
        keeps = keeps_then but_phase p t.pass u.pass law.keeps on.keeps;
        phase = on.still.wanted;
        close = close_now;
        closed = marks_closed_now u close_now;
      }

look_marks : HaveNoMark is_look
look_marks s h = grind arith

pub sweepless_kept : {p : PassState} {t u : TurnState} → ClosesMarks p t.pass → LooksWhileStill t u
    → SweepsNothing p t.pass → SweepsNothing p u.pass
sweepless_kept {p} {t} {u} law on one =
    sweeps_then p t.pass u.pass law.keeps.call.pass one (does_sweep is_look t.pass u.pass look_marks on.does)

-- What others do leaves the view.
pub others_still : (t : TurnState) → IsStill t.pass → (others : List Event) → AreOfOthers t.pass.seats others
    → IsHistory t.pass.table.config (t.pass.seen ++ others)
    → view_of (left t.pass.table.config (t.pass.seen ++ others)) ≡ view_by t.pass
others_still t still others of_others history =
    let p : PassState = t.pass in
    let holds = t.in_order.holds in
    let x = others_leave p.table.config p.seen others p.seat history.within_limits history.enabled
    (others_own p.seats p.seat others t.in_order.own of_others) in
    view_left (x.turn holds).0 (x.stop (holds, still.gates)) still.wanted still.none
