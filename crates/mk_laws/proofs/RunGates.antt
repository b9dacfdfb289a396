-- While a run isn't unmapped and wiped, the gates of all but the turn's holder are held: after one event.
use Rattle.mk_laws.proofs.Vocabulary.{Bool, Caller, Cell, Config, Header, Host, IsWordOfMapped, LayoutStands, List}
use Rattle.mk_laws.proofs.Vocabulary.{Marker, Moment, None, Option, Run, RunPages, Seat, Some, Stage, Step, Words}
use Rattle.mk_laws.proofs.Vocabulary.{World, ℕ, ap, cases_Bool, cell_freed, false, flight_of, freed_cell, heads_run}
use Rattle.mk_laws.proofs.Vocabulary.{holder_number, if◌then◌else◌, inl, inr, is_heap_store, is_run_cell, is_run_gone}
use Rattle.mk_laws.proofs.Vocabulary.{nothing_done, or_else, refl, run_headed, run_of_cell, set_by, slice_index}
use Rattle.mk_laws.proofs.Vocabulary.{slice_set, subst, sym, target, true, true≢false, word_met, ◌+◌, ◌<◌, ◌==◌, ◌∙◌}
use Rattle.mk_laws.proofs.{Vocabulary.{◌≡◌, ◌≢◌}, Basics.{Behind, Known, KnownWorld, Meets, at_its_stage}}
use Rattle.mk_laws.proofs.Basics.{free_has_turn, others_held, reg_keeps, tally_keeps, turn_of, view_of}
use Rattle.mk_laws.proofs.{EventSorts.held_idle, RunWords.gone_behind, HeldRunGates.HoldsRunGates}
use Rattle.mk_core.proofs.ListTests.{implied}

-- Gates that are held stay so after any step but `open`.

abbrev pub is_open : Step → Bool
is_open (Step.Open j) = true
is_open _ = false

-- the gates of all but the turn's holder are held
abbrev pub OthersHeld : Config → Moment → Type 0
OthersHeld c m = (k : ℕ) → k < c.callers → m.words.turn ≢ 1 + k → slice_index m.words.gates k ≡ 2

set_gate : (gs : List ℕ) (j x k : ℕ) → slice_index gs k ≡ 2 → (k ≡ j → x ≡ 2) → slice_index (slice_set gs j x) k ≡ 2
set_gate gs j x k held own = set_by (λ y. y ≡ 2) gs j k x 0 own held

exchanged : (gs : List ℕ) (n j k : ℕ) → slice_index gs k ≡ 2 → k ≡ j
    → (if slice_index gs j == 0 then n else slice_index gs j) ≡ 2
exchanged gs n j k held e = ap (λ g. if g == 0 then n else g) (ap (λ i. slice_index gs i) (sym e) ∙ held)

pub gates_stay : {c : Config} {m : Moment} (seat : Seat) (x : Step) → Known c m → Meets c m seat x → is_open x ≡ false
    → (k : ℕ) → k < c.callers → slice_index m.words.gates k ≡ 2 → slice_index (Behind c m seat x).words.gates k ≡ 2
gates_stay {m} seat (Step.Enter o) known h out k lt held =
    set_gate m.words.gates _ _ k held (exchanged m.words.gates 1 _ k held)
gates_stay {m} seat (Step.Hold j) known h out k lt held =
    set_gate m.words.gates j _ k held (exchanged m.words.gates 2 j k held)
gates_stay {c} {m} (Caller j) Step.Leave known h out k lt held = set_gate m.words.gates j 0 k held own
  where
    own : k ≡ j → ◌≡◌ {A = ℕ} 0 2
    own e =
        let at = at_its_stage _ _ Step.Leave refl h.order in
        let here : (flight_of m (Caller j)).stage ≡ Stage.Idle =
        subst (λ i. (flight_of m (Caller i)).stage ≡ Stage.Idle) e (held_idle k known.orderly lt held) in
        cc
gates_stay (Marker j) Step.Leave known h out k lt held = let kind = h.kind in cc
gates_stay Host Step.Leave known h out k lt held = let kind = h.kind in cc
gates_stay seat (Step.Open j) known h out k lt held = cc
gates_stay {m} seat Step.Reg known h out k lt held = ap (λ (gs : List ℕ). slice_index gs k) (reg_keeps m.words _ _
    _).gates ∙ held
gates_stay {m} seat (Step.Tally n v) known h out k lt held =
    ap (λ (gs : List ℕ). slice_index gs k) (tally_keeps m.words n v).gates ∙ held
gates_stay seat _ known h out k lt held = held

-- the kinds that change what the holder has freed, or whose turn it is
abbrev moves_run : Step → Bool
moves_run (Step.Take o) = true
moves_run Step.Give = true
moves_run (Step.Quar p n) = true
moves_run _ = false

freed_kind : (c : Config) (m : Moment) (seat : Seat) (x : Step) → moves_run x ≡ false
    → (Behind c m seat x).seats.holding.freed ≡ m.seats.holding.freed
freed_kind c m seat (Step.Take o) out = cc
freed_kind c m seat _ out = cc

turn_kind : (c : Config) (m : Moment) (seat : Seat) (x : Step) → moves_run x ≡ false
    → (Behind c m seat x).words.turn ≡ m.words.turn
turn_kind c m seat Step.Reg out = (reg_keeps m.words _ _ _).turn
turn_kind c m seat (Step.Tally n v) out = (tally_keeps m.words n v).turn
turn_kind c m seat _ out = cc

-- A cell that heads a run is a run's.
heads : (x : Option Header) (p : ℕ) (r : RunPages) → run_headed x p ≡ Some r → heads_run x ≡ true
heads (Some (Run count mapped)) p r is = refl
heads _ p r is = cc

some_run : (w : Words) (cell : Option Cell) (r : RunPages) → run_of_cell w cell ≡ Some r
    → (x : Cell) × ((cell ≡ Some x) × (is_run_cell w cell ≡ true))
some_run w None r is = cc
some_run w (Some x) r is = (x, (refl, heads _ x.page r is))

module _ {c : Config} {w : World} (known : KnownWorld c w) (laid : LayoutStands c w) (gates : HoldsRunGates c w) where
  -- the run of the call, if it is what it was
  stays : (seat : Seat) (x : Step) → Meets c w.now seat x
      → (is_heap_store x ≡ true → IsWordOfMapped c w.allocations (word_met (flight_of w.now seat)))
      → is_run_gone w.now.words w.now.seats.holding.freed ≡ true
      → is_run_gone (Behind c w.now seat x).words w.now.seats.holding.freed ≡ true
  stays seat x h stored gone = by w.now.seats.holding.freed refl
    where
      by : (r : Option RunPages) → w.now.seats.holding.freed ≡ r → is_run_gone (Behind c w.now seat x).words r ≡ true
      by None is = refl
      by (Some r) is = gone_behind c w known laid r is gone seat x h stored

  -- Before the step, then, they are held.
  before : (seat : Seat) (x : Step) → Meets c w.now seat x
      → (is_heap_store x ≡ true → IsWordOfMapped c w.allocations (word_met (flight_of w.now seat)))
      → is_run_gone (Behind c w.now seat x).words w.now.seats.holding.freed ≡ false
      → is_run_gone w.now.words w.now.seats.holding.freed ≡ false
  before seat x h stored off = elim (cases_Bool (is_run_gone w.now.words w.now.seats.holding.freed)) [
    | inl gone ↦ absurd (true≢false (sym (stays seat x h stored gone) ∙ off))
    | inr out ↦ out
  ]

  -- A Free of a run finds them held.
  freeing : (seat : Seat) (p n : ℕ) → Meets c w.now seat (Step.Quar p n)
      → (is_heap_store (Step.Quar p n) ≡ true → IsWordOfMapped c w.allocations (word_met (flight_of w.now seat)))
      → is_run_gone w.now.words (or_else (run_of_cell w.now.words (cell_freed c.pages w.now.words
      (flight_of w.now seat) p n)) w.now.seats.holding.freed) ≡ false → OthersHeld c w.now
  freeing seat p n h stored off =
      by (run_of_cell w.now.words (cell_freed c.pages w.now.words (flight_of w.now seat) p n)) refl off
    where
      by : (r : Option RunPages) → run_of_cell w.now.words (cell_freed c.pages w.now.words (flight_of w.now seat) p n)
          ≡ r → is_run_gone w.now.words (or_else r w.now.seats.holding.freed) ≡ false → OthersHeld c w.now
      by None is off = gates off
      by (Some r) is off =
          let x = some_run w.now.words _ r is in
          let frees = freed_cell c.pages w.now.words (flight_of w.now seat) p n x.0 x.1.0 in
          let same : cell_freed c.pages w.now.words (flight_of w.now seat) p n
          ≡ target c.pages w.now.words (flight_of w.now seat) = x.1.0 ∙ sym frees.at in
          let run = subst (λ (y : Option Cell). is_run_cell w.now.words y ≡ true) same x.1.1 in
          let held = others_held c w.now seat (implied _ _ h.gates run) in
          let turn = turn_of c (view_of w.now) seat known.now.orderly (free_has_turn c w.now seat h.seat frees.free) in
          λ k lt other. held k lt (λ e. other (turn ∙ ap (λ i. 1 + i) e))

  pub run_gates_behind : (seat : Seat) (x : Step) → Meets c w.now seat x
      → (is_heap_store x ≡ true → IsWordOfMapped c w.allocations (word_met (flight_of w.now seat)))
      → is_run_gone (Behind c w.now seat x).words (Behind c w.now seat x).seats.holding.freed ≡ false
      → OthersHeld c (Behind c w.now seat x)
  run_gates_behind seat (Step.Take o) h stored off = by (w.now.words.turn == 0) off
    where
      by : (b : Bool) → is_run_gone w.now.words (if b then nothing_done else w.now.seats.holding).freed ≡ false
          → (k : ℕ) → k < c.callers
          → (if b then 1 + holder_number c seat else w.now.words.turn) ≢ 1 + k → slice_index w.now.words.gates k ≡ 2
      by true off k lt other = absurd (true≢false off)
      by false off k lt other = gates off k lt other
  run_gates_behind seat Step.Give h stored off = absurd (true≢false off)
  run_gates_behind seat (Step.Quar p n) h stored off = freeing seat p n h stored off
  run_gates_behind seat (Step.Open j) h stored off =
      absurd (true≢false (sym h.holder ∙ before seat (Step.Open j) h stored off))
  run_gates_behind seat x h stored off = rest x h stored refl refl off
    where
      rest : (x : Step) → Meets c w.now seat x
          → (is_heap_store x ≡ true → IsWordOfMapped c w.allocations (word_met (flight_of w.now seat)))
          → moves_run x ≡ false → is_open x ≡ false
          → is_run_gone (Behind c w.now seat x).words (Behind c w.now seat x).seats.holding.freed ≡ false
          → OthersHeld c (Behind c w.now seat x)
      rest x h stored out shut off k lt other =
          let same : is_run_gone (Behind c w.now seat x).words w.now.seats.holding.freed ≡ false =
          cc (freed_kind c w.now seat x out, off) in
          gates_stay seat x known.now h shut k lt
          (gates (before seat x h stored same) k lt (λ e. other (turn_kind c w.now seat x out ∙ e)))
