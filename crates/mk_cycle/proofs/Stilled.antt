-- In the stop, where no marker attends, the words are at each step as they were left, but for the phase.
use Rattle.mk_words.proofs.Below.Laws.Vocabulary.{Bool, Cell, Config, Hand, List, MarkerState, Moment, Option, Seat}
use Rattle.mk_words.proofs.Below.Laws.Vocabulary.{Some, Steady, Step, TurnIsLeft, Word, Words, World, Written, ℕ}
use Rattle.mk_words.proofs.Below.Laws.Vocabulary.{address_of, ap, arith, false, found, has_no_pointers, header_in}
use Rattle.mk_words.proofs.Below.Laws.Vocabulary.{is_attending, is_marked, ne_eqb, or_else, outside, phase_of}
use Rattle.mk_words.proofs.Below.Laws.Vocabulary.{pointed_cell, refl, slice_index_or, sym, true, world_behind, ◌∙◌, ◌≡◌}
use Rattle.mk_words.proofs.PointedCells.{found_there}
use Rattle.mk_cycle.proofs.{Steps.{is_late, is_quiet, step_counts, step_untouched, still_ready}, Parts.traces_step}
use Rattle.mk_cycle.specs.Grays.{IsInHand, MarksOn, TracesReached, with_blacks, with_marks, without_blacks}
use Rattle.mk_cycle.specs.{Grays.without_dirty, Stops.{IsWanted, hand_of, is_root, is_still_word, still_words}}
use Rattle.mk_cycle.specs.Tracing.{Traces, is_marking, untouched_of}
use Rattle.mk_core.specs.{declared.seats.Source.TheVariants.Marked, Effects.hand_given, Frames.written_of}
use Rattle.mk_core.specs.{Readings.NoneAttends, Words.named_word}
use Rattle.mk_words.{proofs.TurnSteps.{still_stopped}, specs.TurnSteps.{Acts, world_at}}
use Rattle.mk_words.specs.{States.{PassState, TurnState, event_of, now_of, world_of}, Steps.Finds}

abbrev words_by : Steady → Written → List ℕ → List ℕ → Words
words_by s y marks blacks = record {
  phase = 0;
  turn = s.turn;
  held = s.held;
  fresh = s.fresh;
  cycles = s.cycles;
  released = s.released;
  full = s.full;
  gates = y.gates;
  registers = y.registers;
  globals = y.globals;
  pages = s.pages;
  freed = s.freed;
  snapshot = s.snapshot;
  marks = marks;
  blacks = blacks;
  dirty = y.dirty;
  heap = y.heap;
}

abbrev pub but_phase : Words → Words
but_phase w = record w { phase = 0 }

-- What leaves the holder its own in the stop leaves the words but the phase.
pub words_left : {w v : World} → TurnIsLeft w v → written_of v ≡ written_of w → phase_of w.now.words ≡ 2
    → NoneAttends w.now → but_phase v.now.words ≡ but_phase w.now.words
words_left {w} {v} turn written two none = grind (arith, words_by)

-- the steps in the stop after the wish
abbrev pub is_stopped_step : Step → Bool
is_stopped_step Step.Want = false
is_stopped_step s = is_quiet s

quiet_of : (s : Step) → is_stopped_step s ≡ true → is_quiet s ≡ true
quiet_of Step.Want h = refl
quiet_of s h = h

phase_behind : (c : Config) (w : World) (seat : Seat) (s : Step) → is_stopped_step s ≡ true
    → (world_behind c w (record { seat = seat; step = s })).now.words.phase ≡ w.now.words.phase
phase_behind c w seat x3 h = grind arith

abbrev NoneOf : List MarkerState → Type 0
NoneOf xs = (k : ℕ) → is_attending (slice_index_or xs k outside).presence ≡ false

module _ {p q : PassState} {s : Step} (a : Acts p s q) (wanted : IsWanted p) where
  pub phase_there : phase_of (world_at a.makes).now.words ≡ 2
  phase_there = ap (λ (x : Steady). x.phase) a.turn.steady ∙ wanted.phase

  pub words_there : but_phase (world_at a.makes).now.words ≡ still_words p
  words_there = words_left a.turn (a.stop (a.holds, wanted.gates)) wanted.phase wanted.none

  -- none attends after it either
  pub none_after : NoneAttends (now_of q)
  none_after = grind (arith, a.stop (a.holds, wanted.gates))

module _ {p q : PassState} {s : Step} (a : Acts p s q) (wanted : IsWanted p) (stopped : is_stopped_step s ≡ true) where
  untouched : untouched_of (world_of q) ≡ untouched_of (world_of p)
  untouched = step_untouched a (quiet_of s stopped) wanted.gates (grind (arith, is_late, ne_eqb, phase_there))

  pub still_wanted : IsWanted q
  still_wanted = grind (arith, still_ready, still_stopped, untouched, phase_behind, phase_there, none_after)

  pub stopped_traces : (rule : Config → Moment → Step → Type 0) → is_marking s ≡ true
      → rule p.table.config (world_at a.makes).now s → Traces is_marking rule p q
  stopped_traces rule kind ruled =
      (traces_step a.makes is_marking rule (λ (x : Step). false) 0 kind ruled untouched
      (step_counts a (quiet_of s stopped)) refl).traces

-- what each step leaves

module _ {p q : PassState} (wanted : IsWanted p) where
  pub look_words : {x : Word} → Acts p (Step.Look x) q → still_words q ≡ still_words p
  look_words a = grind (arith, but_phase, words_there)

  pub mark_words : {pg v : ℕ} → Acts p (Step.Mark pg v) q → still_words q ≡ with_marks pg v (still_words p)
  mark_words a = grind (arith, but_phase, words_there)

  pub black_words : {pg v : ℕ} → Acts p (Step.Black pg v) q → still_words q ≡ with_blacks pg v (still_words p)
  black_words a = grind (arith, but_phase, words_there)

  pub unblack_words : {pg : ℕ} → Acts p (Step.Unblack pg) q → still_words q ≡ without_blacks pg (still_words p)
  unblack_words a = grind (arith, but_phase, words_there)

  pub undirty_words : {pg : ℕ} → Acts p (Step.Undirty pg) q → still_words q ≡ without_dirty pg (still_words p)
  undirty_words a = grind (arith, but_phase, words_there)

pub marks_on : {t u : TurnState} → IsWanted t.pass → {s : Step} → Acts t.pass s u.pass → is_stopped_step s ≡ true
    → ((w : World) → but_phase w.now.words ≡ still_words t.pass → w.now.seats.holding ≡ (now_of t.pass).seats.holding
    → TracesReached t.pass.table.config w.now s) → MarksOn t u
marks_on {t} {u} wanted {s} a stopped ruled = record {
  table = ap (λ (x : PassState). x.table) a.makes.is;
  wanted = still_wanted a wanted stopped;
  traces = stopped_traces a wanted stopped TracesReached (marking s stopped)
      (ruled (world_at a.makes) (words_there a wanted) a.holding);
}
  where
    marking : (x : Step) → is_stopped_step x ≡ true → is_marking x ≡ true
    marking x h = grind arith

-- what a look finds, and the hand that it gives

pub still_name : (w : Words) (x : Word) → is_still_word x ≡ true → named_word (but_phase w) x ≡ named_word w x
still_name w Word.Phase h = cc
still_name w _ h = refl

module _ {p q : PassState} (wanted : IsWanted p) {x : Word} (a : Acts p (Step.Look x) q) {n : ℕ}
    (finds : Finds p (Step.Look x) n q) where
  pub look_finds : is_still_word x ≡ true → n ≡ named_word (still_words p) x
  look_finds name = cc (found_there p q x n finds, still_name (now_of q).words x name, look_words wanted a)

  pub found_now : found p.table.config (world_at a.makes).now (event_of p (Step.Look x)) ≡ n
  found_now = ap (λ (w : World). named_word w.now.words x) (sym a.world) ∙ found_there p q x n finds

  pub hand_now : hand_of q ≡ or_else (hand_given p.table.config (world_at a.makes).now p.seat x
      (found p.table.config (world_at a.makes).now (event_of p (Step.Look x)))) (hand_of p)
  hand_now = grind arith

  pub root_hand : is_root x ≡ true → IsInHand q n
  root_hand root = grind (arith, hand_now, found_now)

-- a word of a marked cell that is scanned
pub marked_hand : {p q : PassState} → IsWanted p → {i : ℕ} (a : Acts p (Step.Look (Word.Heap i)) q) {n : ℕ}
    → Finds p (Step.Look (Word.Heap i)) n q → (cell : Cell)
    → pointed_cell p.table.config.pages (still_words p).pages (address_of i) ≡ Some cell → is_marked
    (still_words p) cell ≡ true → has_no_pointers (header_in (still_words p) cell.page) ≡ false → IsInHand q n
marked_hand {p} {q} wanted {i = i} a {n = n} finds cell pointed marked scanned = record {
  hand = record { value = n; source = Marked };
  is = hand_now wanted a finds ∙ ap (λ (o : Option Hand). or_else o (hand_of p))
      (given (found p.table.config (world_at a.makes).now (event_of p (Step.Look (Word.Heap i)))))
      ∙ ap (λ (v : ℕ). Some (record { value = v; source = Marked })) (found_now wanted a finds);
  value = refl;
  reached = refl;
}
  where
    m' : Moment
    m' = (world_at a.makes).now

    same : but_phase m'.words ≡ still_words p
    same = words_there a wanted

    pointed_now : pointed_cell p.table.config.pages m'.words.pages (address_of i) ≡ Some cell
    pointed_now = ap (λ (w : Words). pointed_cell p.table.config.pages w.pages (address_of i)) same ∙ pointed

    given : (value : ℕ) → hand_given p.table.config m' p.seat (Word.Heap i) value
        ≡ Some (record { value = value; source = Marked })
    given value = grind (arith, m', pointed_now, same)
