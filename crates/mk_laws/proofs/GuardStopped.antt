-- From `close` to `release` the marks stay closed: nothing changes but words that are wiped.
use Rattle.std.{proofs.{Common.bit_and, lemmas.Nat.Bits.{bit_at_and, bit_at_ones}}, specs.List.{list_all}}
use Rattle.mk_laws.proofs.Vocabulary.{AreOfPages, BlackIsGuarded, Caller, CellsAreClosed, Config, IsGuarded, Moment}
use Rattle.mk_laws.proofs.Vocabulary.{Seat, Stage, Step, Words, ℕ, all_below, all_below-at, and_parts, arith, cases_eq}
use Rattle.mk_laws.proofs.Vocabulary.{cases_lt, cells_under, eq-eqb, eqb-true, fewer_bits, first_word, flight_of}
use Rattle.mk_laws.proofs.Vocabulary.{get_or_past, has_closed_page, header_at, header_in, holder_number, inl, inr}
use Rattle.mk_laws.proofs.Vocabulary.{ltb-true, or_cases, phase_of, points_well, roots_point_well, slice_index, subst}
use Rattle.mk_laws.proofs.Vocabulary.{sym, true, without, word_points_well, ◌<◌, ◌==◌, ◌||◌, ◌≡◌, ◌⊎◌}
use Rattle.mk_laws.proofs.Basics.{Behind, InCall, Known, Meets, at_its_stage, at_reg, calls_stand, either_phase}
use Rattle.mk_laws.proofs.Basics.{headers_kind, is_astray, is_call_stage, is_head, not_astray, others_held, reg_table}
use Rattle.mk_laws.proofs.Basics.{shows_at, standing, standing_at, tally_table, view_of, wells_from}
use Rattle.mk_laws.proofs.{Changes.{at_owed, wiped}, IdleMarkers.work_attends}
use Rattle.mk_laws.proofs.{NextSteps.{has_stage_of_its_own, stage_of}, Wells.{bare_word_well, is_well, well_is}}
use Rattle.mk_core.proofs.{ListTests.list_all-at, MarkTests.null_points_well, RegisterAccesses.tally_leaves_registers}
use Rattle.mk_core.{proofs.WordBits.{without_none}, specs.Cells.{cell_bits}}

-- what leaves closed marks closed
pub record LeavesClosed (w v : Words) : Type 0 where
  pub registers : v.registers ≡ w.registers
  pub globals : v.globals ≡ w.globals
  pub headers : (p : ℕ) → header_at v p ≡ header_at w p
  pub marks : v.marks ≡ w.marks
  pub heap : (n : ℕ) → (slice_index v.heap n ≡ slice_index w.heap n) ⊎ (slice_index v.heap n ≡ 0)

pub stays_closed : {c : Config} {w : Words} (v : Words) → LeavesClosed w v → CellsAreClosed c w → CellsAreClosed c v
stays_closed {c} {w} v same h = record {
  registers = λ i. rw same.registers (over _ (h.registers i));
  globals = λ g. rw same.globals (over _ (h.globals g));
  words = λ cell i lt is scanned li.
      let first : first_word v cell ≡ first_word w cell = rw (same.headers cell.page) in
      rw first (word _ (h.words cell i (rw (same.headers cell.page) at lt) (rw same.marks at is)
      (rw (same.headers cell.page) at scanned) (rw (same.headers cell.page) at li)));
}
  where
    over : (value : ℕ) → points_well c.pages w value ≡ true → points_well c.pages v value ≡ true
    over value is =
        well_is c v value (wells_from c w v same.headers (λ p k bit. rw same.marks bit) value (is_well c w value is))

    word : (n : ℕ) → word_points_well c.pages w n ≡ true → word_points_well c.pages v n ≡ true
    word n is = elim (same.heap n) [ inl e ↦ rw e (over _ is) | inr z ↦ well_is c v _ (bare_word_well c v _ z) ]

-- no header is stored
no_head : (n : ℕ) → n ≡ 3 → ((n == 0) || (n == 1) || (n == 4)) ≡ true → ⊥
no_head n three h = grind (arith, or_cases, either_phase, eqb-true)

module _ {c : Config} {m : Moment} (known : Known c m) (three : phase_of m.words ≡ 3) where
  -- At this phase no caller is in a call outside the turn.
  pub no_call : (k : ℕ) → k < c.callers → is_call_stage (flight_of m (Caller k)).stage ≡ true → ⊥
  no_call k lt at = grind (arith, shows_at, view_of, calls_stand, not_astray)

  no_step : (seat : Seat) (x : Step) → Meets c m seat x → has_stage_of_its_own x ≡ true
      → is_call_stage (stage_of x) ≡ true → ⊥
  no_step (Caller k) x h own at = no_call k (ltb-true k c.callers h.seat)
      (subst (λ (s : Stage). is_call_stage s ≡ true) (sym (at_its_stage _ _ x own h.order)) at)
  no_step seat x h own at = grind arith

  reg_still : (seat : Seat) → Meets c m seat Step.Reg → (Behind c m seat Step.Reg).words.registers ≡ m.words.registers
  reg_still (Caller k) h = grind (arith, is_call_stage, no_call, ltb-true, at_reg)
  reg_still _ h = let kind = h.kind in cc

  registers_still : (seat : Seat) (x : Step) → Meets c m seat x
      → (Behind c m seat x).words.registers ≡ m.words.registers
  registers_still seat Step.Reg h = reg_still seat h
  registers_still seat x3 h = grind (arith, tally_leaves_registers, either_phase)

  pub leaves_closed : (seat : Seat) (x : Step) → Meets c m seat x → LeavesClosed m.words (Behind c m seat x).words
  leaves_closed seat Step.Reg h = grind (arith, registers_still, reg_table)
  leaves_closed seat (Step.Head q n) h = absurd (no_head _ three h.phase)
  leaves_closed seat x h = record {
    registers = registers_still seat x h;
    globals = grind (arith, tally_table, no_step);
    headers = λ p. grind (arith, is_head, headers_kind);
    marks = grind (arith, tally_table, eqb-true, either_phase, work_attends);
    heap = λ n. grind (arith, tally_table, no_step, wiped);
  }

-- `close`: no dirty word, nothing owed, marked cells black; so the marks are closed.

-- A call that owes a dirty mark is a caller's, outside the turn.
pub owes_in_call : {c : Config} {m : Moment} (j : ℕ) → Known c m → (flight_of m (Caller j)).stage ≡ Stage.Dirty
    → (j < c.callers) × (standing (flight_of m (Caller j)) ≡ InCall)
owes_in_call j known at = grind (arith, cases_lt, get_or_past, is_astray, standing_at, not_astray, calls_stand)

-- if a `close` is enabled, no call owes a dirty word
none_owes : {c : Config} {m : Moment} (seat : Seat) (j : ℕ) → Known c m → Meets c m seat Step.Close
    → (flight_of m (Caller j)).stage ≡ Stage.Dirty → ⊥
none_owes {c} {m} seat j known h at = elim (cases_eq (holder_number c seat) j) [
  | inl e ↦ own seat e call.0 h
  | inr ne ↦
      let two = others_held c m seat h.gates j call.0 ne in
      absurd (omega (arith, (shows_at c (view_of m) j InCall known.orderly call.0 call.1).0))
]
  where
    call : (j < c.callers) × (standing (flight_of m (Caller j)) ≡ InCall)
    call = owes_in_call j known at

    own : (seat : Seat) → holder_number c seat ≡ j → j < c.callers → Meets c m seat Step.Close → ⊥
    own x1 e lt h = grind (arith, at_owed)

-- a marked cell of the page is black, and the page isn't dirty

record ClosedPage (w : Words) (p : ℕ) : Type 0 where
  black : without (bit_and (slice_index w.marks p) (cell_bits w p)) (slice_index w.blacks p) ≡ 0
  clean : slice_index w.dirty p ≡ 0

closed_page : (w : Words) (p : ℕ) → has_closed_page w p ≡ true → ClosedPage w p
closed_page w p h = record { black = eqb-true _ 0 (and_parts _ _ h).0; clean = eqb-true _ 0 (and_parts _ _ h).1 }

pub closed : (c : Config) (m : Moment) (seat : Seat) → Known c m → AreOfPages c.pages m.words
    → Meets c m seat Step.Close → BlackIsGuarded c m → CellsAreClosed c m.words
closed c m seat known len h black = record {
  registers = λ i. list_all-at _ m.words.registers 0 roots.0 (null_points_well c m.words) i;
  globals = λ g. list_all-at _ m.words.globals 0 roots.1 (null_points_well c m.words) g;
  words = λ cell i lt is scanned li.
      let there = page cell.page (in_heap cell.page cell.index lt) in
      settled _ (black cell.page cell.index i lt (
      grind (arith, fewer_bits, without_none, eq-eqb, bit_at_and, bit_at_ones, eqb-true)) scanned li);
}
  where
    parts : (all_below c.pages (has_closed_page m.words) ≡ true) × (roots_point_well c.pages m.words ≡ true)
    parts = grind (arith, and_parts)

    roots : (list_all (points_well c.pages m.words) m.words.registers ≡ true)
        × (list_all (points_well c.pages m.words) m.words.globals ≡ true)
    roots = and_parts (list_all _ m.words.registers) (list_all _ m.words.globals) parts.1

    page : (p : ℕ) → p < c.pages → ClosedPage m.words p
    page p lt = closed_page m.words p (all_below-at c.pages p _ parts.0 lt)

    in_heap : (p k : ℕ) → k < cells_under (header_in m.words p) → p < c.pages
    in_heap p k lt = grind (arith, cases_lt, get_or_past)

    settled : (n : ℕ) → IsGuarded c m n → word_points_well c.pages m.words n ≡ true
    settled n x2 = grind (arith, none_owes, cases_lt, page, get_or_past)
