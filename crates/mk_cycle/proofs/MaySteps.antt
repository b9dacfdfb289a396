-- Which steps may come in the stop.
use Rattle.mk_words.proofs.Below.Laws.Vocabulary.{Bool, Cell, Config, Flight, Hand, Moment, Option, Seat, Some, Step}
use Rattle.mk_words.proofs.Below.Laws.Vocabulary.{Word, Words, ℕ, all_below-at, and_from, and_parts, ap, eq-eqb, false}
use Rattle.mk_words.proofs.Below.Laws.Vocabulary.{has_gates, head_page, is_held, is_number_of, is_phase, lt-ltb}
use Rattle.mk_words.proofs.Below.Laws.Vocabulary.{ltb-true, nat_lt, none_attends, not, others_are_held, phase_of}
use Rattle.mk_words.proofs.Below.Laws.Vocabulary.{pointed_cell, refl, slice_index, true, ◌&&◌, ◌<◌, ◌==◌, ◌^◌, ◌||◌}
use Rattle.mk_words.proofs.Below.Laws.{Vocabulary.{◌∙◌, ◌≡◌}, Tests.none_from}
use Rattle.mk_cycle.proofs.Steps.{may_step}
use Rattle.mk_cycle.specs.{Grays.HandPointsInto, Stops.{IsWanted, hand_of, still_words}}
use Rattle.mk_core.{proofs.AllBelow.{all_below_not_is}, specs.Readings.{NoneAttends}}
use Rattle.mk_core.specs.{MarkingConditions.{blackens, is_bit_of, marks_by_hand, may_turn_black}, Conditions.is_word}
use Rattle.mk_words.specs.{States.{PassState, TurnState, call_of, now_of}, Steps.IsEnabledTo}

look_gates : (c : Config) (w : Words) (seat : Seat) (f : Flight) (x : Word) → others_are_held c.callers w seat ≡ true
    → is_word c x ≡ true → has_gates c w seat f (Step.Look x) ≡ true
look_gates c w seat f (Word.Reg j r) all is =
    all_below-at c.callers j (λ k. is_number_of seat k || is_held w k) all
    (ltb-true j c.callers (and_parts (nat_lt j c.callers) (nat_lt r 8) is).0)
look_gates c w seat f _ all is = refl

-- no marker attends, by the test
none_by_test : (m : Moment) → NoneAttends m → none_attends m.seats.markers ≡ true
none_by_test m none = none_from m.seats.markers none

or_first : (a b : Bool) → a ≡ true → (a || b) ≡ true
or_first a b e = ap (λ (x : Bool). x || b) e

or_second : (a b : Bool) → b ≡ true → (a || b) ≡ true
or_second true b e = refl
or_second false b e = e

-- the hand's cell, by its one bit
pub marks_by : (pages : ℕ) (w : Words) (hand : Option Hand) (u : ℕ) (cell : Cell) (h : Hand) → hand ≡ Some h → h.value
    ≡ u → pointed_cell pages w.pages u ≡ Some cell → marks_by_hand pages w hand cell.page (2 ^ cell.index) ≡ true
marks_by pages w hand u cell h is value points =
    ap (λ (o : Option Hand). marks_by_hand pages w o cell.page (2 ^ cell.index)) is
    ∙ ap (λ v. is_bit_of (pointed_cell pages w.pages v) cell.page (2 ^ cell.index)) value
    ∙ ap (λ (o : Option Cell). is_bit_of o cell.page (2 ^ cell.index)) points ∙ and_from (cell.page == cell.page)
    (2 ^ cell.index == 2 ^ cell.index) (eq-eqb cell.page cell.page refl) (eq-eqb (2 ^ cell.index) (2 ^ cell.index) refl)

marks_reached : {p : PassState} {cell : Cell} → HandPointsInto p cell
    → marks_by_hand p.table.config.pages (now_of p).words (hand_of p) cell.page (2 ^ cell.index) ≡ true
marks_reached {p} {cell} r =
    marks_by _ (now_of p).words _ r.value cell r.in_hand.hand r.in_hand.is r.in_hand.value r.points

turns_now : (p : PassState) (cell : Cell) → may_turn_black p.table.config.pages (still_words p) cell ≡ true
    → may_turn_black p.table.config.pages (now_of p).words cell ≡ true
unfolding may_turn_black
turns_now p cell h = h

module _ (t : TurnState) (wanted : IsWanted t.pass) where
  abbrev p : PassState
  p = t.pass

  phase_two : is_phase (now_of p).words 2 ≡ true
  phase_two = eq-eqb (phase_of (now_of p).words) 2 wanted.phase

  pub may_look : (x : Word) → is_word p.table.config x ≡ true → IsEnabledTo p (Step.Look x)
  may_look x is = may_step t (Step.Look x) wanted.ready refl is
      (look_gates p.table.config (now_of p).words p.seat (call_of p) x wanted.gates is) refl refl refl

  -- whatever the hand's value stood in
  pub may_mark_by_hand : (cell : Cell) → marks_by_hand p.table.config.pages (now_of p).words (hand_of p) cell.page
      (2 ^ cell.index) ≡ true → cell.page < p.table.config.pages → IsEnabledTo p (Step.Mark cell.page (2 ^ cell.index))
  may_mark_by_hand cell by_hand lt =
      may_step t (Step.Mark cell.page (2 ^ cell.index)) wanted.ready refl (lt-ltb cell.page _ lt) refl
      (or_second _ _ phase_two) refl (or_first _ _ by_hand)

  pub may_mark_cell : {cell : Cell} → HandPointsInto p cell → cell.page < p.table.config.pages
      → IsEnabledTo p (Step.Mark cell.page (2 ^ cell.index))
  may_mark_cell {cell} reached lt = may_mark_by_hand cell (marks_reached reached) lt

  pub may_black_cell : (cell : Cell) → cell.page < p.table.config.pages → cell.index < 32
      → may_turn_black p.table.config.pages (still_words p) cell ≡ true
      → IsEnabledTo p (Step.Black cell.page (2 ^ cell.index))
  may_black_cell cell lt small turns =
      may_step t (Step.Black cell.page (2 ^ cell.index)) wanted.ready refl (lt-ltb cell.page p.table.config.pages lt)
      wanted.gates phase_two refl (and_from (none_attends (now_of p).seats.markers) _
      (none_by_test (now_of p) wanted.none) (ap not (all_below_not_is 32 cell.index
      (λ k. not (blackens p.table.config.pages (now_of p).words cell.page (2 ^ cell.index) k)) small (ap not
      (and_from (2 ^ cell.index == 2 ^ cell.index) (may_turn_black p.table.config.pages (now_of p).words cell)
      (eq-eqb (2 ^ cell.index) (2 ^ cell.index) refl) (turns_now p cell turns))))))

  pub may_unblack_page : (page : ℕ) → page < p.table.config.pages → IsEnabledTo p (Step.Unblack page)
  may_unblack_page page lt =
      may_step t (Step.Unblack page) wanted.ready refl (lt-ltb page p.table.config.pages lt)
      (or_second (not (is_phase (now_of p).words 2)) _ wanted.gates)
      (or_second (phase_of (now_of p).words == 0) (phase_of (now_of p).words == 2) phase_two) refl (or_second
      (not (is_phase (now_of p).words 2)) (none_attends (now_of p).seats.markers) (none_by_test (now_of p) wanted.none))

  pub may_undirty_page : (page : ℕ) → page < p.table.config.pages → slice_index (still_words p).blacks page ≡ 0
      → slice_index (still_words p).blacks (head_page (still_words p) page) ≡ 0 → IsEnabledTo p (Step.Undirty page)
  may_undirty_page page lt own head =
      may_step t (Step.Undirty page) wanted.ready refl (lt-ltb page p.table.config.pages lt)
      (or_second _ _ wanted.gates)
      (or_second (phase_of (now_of p).words == 0) (phase_of (now_of p).words == 2) phase_two) refl
      (or_second (not (is_phase (now_of p).words 2)) _ (and_from (none_attends (now_of p).seats.markers && (slice_index
      (now_of p).words.blacks page == 0)) (slice_index (now_of p).words.blacks (head_page (now_of p).words page) == 0)
      (and_from (none_attends (now_of p).seats.markers) (slice_index (now_of p).words.blacks page == 0)
      (none_by_test (now_of p) wanted.none) (eq-eqb _ 0 own)) (eq-eqb _ 0 head)))
