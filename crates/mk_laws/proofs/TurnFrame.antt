-- What an event of another seat leaves to the turn's holder.
use Rattle.mk_laws.proofs.Vocabulary.{Config, Flight, List, MarkerState, Moment, Seat, TurnIsLeft, Words, World, ℕ, ap}
use Rattle.mk_laws.proofs.Vocabulary.{arith, false, get_or-set_other, is_attending, marker_of, outside, set_by}
use Rattle.mk_laws.proofs.Vocabulary.{slice_index, slice_index_or, slice_set, ◌%◌, ◌+◌, ◌-◌, ◌^◌, ◌≡◌, ◌≢◌, ◌≤◌}
use Rattle.mk_laws.proofs.OthersMoves.{AddsBlacks, AddsMarks, Calls, CallWrite, ComesIn, GoesOut, MarkerLoads}
use Rattle.mk_laws.proofs.OthersMoves.{MarkerWrite, Marks, OthersMove, SetsDirty, SetsGate, SetsRegister, Waits}
use Rattle.mk_laws.proofs.{OthersMoves.with_words_seats, Basics.Known, Changes.{grows_joined, grows_more, grows_same}}
use Rattle.mk_core.specs.{Frames.steady_of, Readings.NoneAttends}

-- the phase
up : (p : ℕ) → ((p + 8) % 2 ^ 64) % 8 ≡ p % 8
up p = omega arith

down : (p : ℕ) → 8 ≤ p → ((p + (2 ^ 64 - 8)) % 2 ^ 64) % 8 ≡ p % 8
down p le = omega arith

-- what none but the holder changes

steady_mark : (w : World) {k : ℕ} {y : MarkerState} (ms : List MarkerState) {x : Words} → MarkerWrite k w.now y x
    → steady_of (with_words_seats w x (record w.now.seats { markers = ms })) ≡ steady_of w
steady_mark w ms h = grind (arith, up, down)

pub steady_out : (c : Config) (w : World) (seat : Seat) (v : World) → OthersMove c w seat v → steady_of v ≡ steady_of w
steady_out c w seat v h = grind (arith, steady_mark)

pub holding_out : {c : Config} {w : World} {seat : Seat} {v : World} → OthersMove c w seat v
    → v.now.seats.holding ≡ w.now.seats.holding
holding_out h = grind arith

-- gates that are held, and those that aren't, and dirty words

held_set : (gs : List ℕ) (k v j : ℕ) → slice_index gs k ≤ 1 → slice_index gs j ≡ 2
    → slice_index (slice_set gs k v) j ≡ 2
held_set gs k v j le is = set_by (λ x. x ≡ 2) gs k j v 0 (λ e. absurd (omega (arith, le, ap (slice_index gs) e, is))) is

free_set : (gs : List ℕ) (k v j : ℕ) → v ≤ 1 → slice_index gs j ≢ 2 → slice_index (slice_set gs k v) j ≢ 2
free_set gs k v j lv is = set_by (λ x. x ≢ 2) gs k j v 0 (λ e two. absurd (omega arith)) is

dirty_set : (ds : List ℕ) (q p : ℕ) → slice_index ds p ≢ 0 → slice_index (slice_set ds q 1) p ≢ 0
dirty_set ds q p is = set_by (λ x. x ≢ 0) ds q p 1 0 (λ e z. absurd (omega arith)) is

-- another than one whose gate is held
not_that : (gs : List ℕ) (k j : ℕ) → slice_index gs k ≤ 1 → slice_index gs j ≡ 2 → j ≢ k
not_that gs k j le is e = absurd (omega (arith, le, ap (slice_index gs) e, is))

-- what a call outside the turn leaves
call_leaves : (w : World) {k : ℕ} (f : Flight) {x : Words} → slice_index w.now.words.gates k ≤ 1
    → CallWrite k w.now.words x
    → TurnIsLeft w (with_words_seats w x (record w.now.seats { flights = slice_set w.now.seats.flights k f }))
call_leaves w f le (SetsGate v lv) = grind (arith, grows_same, not_that, get_or-set_other, held_set, free_set)
call_leaves w f le (SetsDirty p) = grind (arith, grows_same, not_that, get_or-set_other, dirty_set)
call_leaves w f le (SetsRegister r v lr) = grind (arith, grows_same, not_that, get_or-set_other)
call_leaves w f le _ = grind (arith, grows_same, not_that, get_or-set_other)

-- in the stop, once no marker attends, none begins to
still_none : (m : Moment) (k : ℕ) (y : MarkerState)
    → (is_attending (marker_of m k).presence ≡ false → is_attending y.presence ≡ false) → NoneAttends m → (j : ℕ)
    → is_attending (slice_index_or (slice_set m.seats.markers k y) j outside).presence ≡ false
still_none m k y own none j =
    set_by (λ (z : MarkerState). is_attending z.presence ≡ false) _ k j y outside (λ e. own (none k)) (none j)

-- what a marker leaves: one that attends is in the way
mark_leaves : {c : Config} (w : World) {k : ℕ} {y : MarkerState} {x : Words} → Known c w.now → MarkerWrite k w.now y x
    → TurnIsLeft w (with_words_seats w x (record w.now.seats { markers = slice_set w.now.seats.markers k y }))
mark_leaves w known (MarkerLoads s) = grind (arith, grows_same, still_none)
mark_leaves w known (ComesIn a) = grind (arith, up, grows_same, still_none)
mark_leaves w known (GoesOut a le) = grind (arith, down, grows_same, still_none)
mark_leaves w known (AddsMarks p bits a s) = grind (arith, grows_same, grows_more, still_none)
mark_leaves w known (AddsBlacks p bits a s) = grind (arith, grows_same, grows_more, still_none)

-- one event of another
pub turn_after : (c : Config) (w : World) (seat : Seat) (v : World) → Known c w.now → OthersMove c w seat v
    → TurnIsLeft w v
turn_after c w seat v known Waits = grind (arith, grows_same)
turn_after c w seat v known (Calls {k} f {x} lt le write) = call_leaves w f le write
turn_after c w seat v known (Marks {k} y {x} lt write) = mark_leaves w known write

pub turn_same : (w : World) → TurnIsLeft w w
turn_same w = grind (arith, grows_same)

pub turn_joined : {w u v : World} → TurnIsLeft w u → TurnIsLeft u v → TurnIsLeft w v
turn_joined a b = grind (arith, grows_joined)
