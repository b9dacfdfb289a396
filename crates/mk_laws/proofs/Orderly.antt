-- All is in order: what each move keeps, by what the protocol reads.
use Rattle.std.proofs.{Common.count_by, lemmas.List.Sums.count_by-le-length, lemmas.List.Sums.sum_by-set}
use Rattle.mk_laws.proofs.Vocabulary.{Caller, Config, Flight, List, MarkerState, Seat, ℕ, arith, at_rest, cases_eq}
use Rattle.mk_laws.proofs.Vocabulary.{cases_lt, cond, false, get_or-set_other, get_or-set_same, get_or_past}
use Rattle.mk_laws.proofs.Vocabulary.{holder_number, inl, inr, is_attending, is_in, length, length-set, nothing_done}
use Rattle.mk_laws.proofs.Vocabulary.{outside, refl, set_by, set_past, slice_index, slice_index_or, slice_set, sym}
use Rattle.mk_laws.proofs.Vocabulary.{true, ◌%◌, ◌*◌, ◌+◌, ◌-◌, ◌<◌, ◌^◌, ◌≡◌, ◌≢◌, ◌≤◌, ◌⊎◌}
use Rattle.mk_laws.proofs.Standings.{Resting, Shows, Standing, UnderTurn, standing}
use Rattle.mk_laws.proofs.Views.{HoldsTurn, View, flight_at, flight_in, flights_with, gate_in, marker_in}
use Rattle.mk_laws.proofs.{ProtocolMoves.IdlesOutside, ProtocolMoves.MayTake, Services.Served}

-- The markers that are in, and the numbers of the phase word.

-- if the markers that are in are counted
abbrev pub count_in : List MarkerState → ℕ
count_in xs = count_by is_in xs

counted : (xs : List MarkerState) (k : ℕ) (x : MarkerState) → k < length xs → count_in (slice_set xs k x) + cond {A = ℕ}
    (is_in (slice_index_or xs k outside)) 1 0 ≡ count_in xs + cond {A = ℕ} (is_in x) 1 0
counted xs k x lt = sum_by-set (λ (y : MarkerState). cond {A = ℕ} (is_in y) 1 0) xs k x outside lt

pub counted_same : (xs : List MarkerState) (k : ℕ) (x : MarkerState) → k < length xs
    → x.presence ≡ (slice_index_or xs k outside).presence → count_in (slice_set xs k x) ≡ count_in xs
counted_same xs k x lt same = grind (arith, counted)

pub counted_more : (xs : List MarkerState) (k : ℕ) (x : MarkerState) → k < length xs
    → is_in (slice_index_or xs k outside) ≡ false → is_in x ≡ true → count_in (slice_set xs k x) ≡ count_in xs + 1
counted_more xs k x lt was is = grind (arith, counted)

pub counted_less : (xs : List MarkerState) (k : ℕ) (x : MarkerState) → k < length xs
    → is_in (slice_index_or xs k outside) ≡ true → is_in x ≡ false → count_in (slice_set xs k x) + 1 ≡ count_in xs
counted_less xs k x lt was is = grind (arith, counted)

-- a marker that is in counts
pub count_in-at : (xs : List MarkerState) (k : ℕ) → k < length xs → is_in (slice_index_or xs k outside) ≡ true
    → 1 ≤ count_in xs
count_in-at xs k lt is = let e = counted_less xs k outside lt is refl in omega arith

-- a marker after a change of one
pub marker_set : (xs : List MarkerState) (k b : ℕ) (x : MarkerState) → (P : MarkerState → Type 0)
    → (k < length xs → P x) → P (slice_index_or xs b outside) → P (slice_index_or (slice_set xs k x) b outside)
marker_set xs k b x P mine other = elim (cases_lt k (length xs)) [
  | inl lt ↦ set_by P xs k b x outside (λ e. mine lt) other
  | inr le ↦ rw (set_past xs k x le) other
]

-- the numbers of the phase word
pub up_one : (p n m : ℕ) → p ≡ m + 8 * n → m ≤ 5 → n ≤ 8 → m ≤ 4
    → (((p + 1) % 2 ^ 64) % 8 ≡ m + 1) × ((p + 1) % 2 ^ 64 ≡ m + 1 + 8 * n)
up_one p n m e lm ln l = (omega arith, omega arith)

pub down_four : (p n m : ℕ) → p ≡ m + 8 * n → n ≤ 8 → m ≡ 4
    → (((p + (2 ^ 64 - 4)) % 2 ^ 64) % 8 ≡ 0) × ((p + (2 ^ 64 - 4)) % 2 ^ 64 ≡ 0 + 8 * n)
down_four p n m e ln l = (omega arith, omega arith)

pub up_five : (p n m : ℕ) → p ≡ m + 8 * n → n ≤ 8 → m ≡ 0
    → (((p + 5) % 2 ^ 64) % 8 ≡ 5) × ((p + 5) % 2 ^ 64 ≡ 5 + 8 * n)
up_five p n m e ln l = (omega arith, omega arith)

pub up_eight : (p n m : ℕ) → p ≡ m + 8 * n → m ≤ 5 → n ≤ 8
    → (((p + 8) % 2 ^ 64) % 8 ≡ m) × ((p + 8) % 2 ^ 64 ≡ m + 8 * (n + 1))
up_eight p n m e lm ln = (omega arith, omega arith)

pub down_eight : (p n k m : ℕ) → p ≡ m + 8 * n → m ≤ 5 → n ≤ 8 → k + 1 ≡ n
    → (((p + (2 ^ 64 - 8)) % 2 ^ 64) % 8 ≡ m) × ((p + (2 ^ 64 - 8)) % 2 ^ 64 ≡ m + 8 * k)
down_eight p n k m e lm ln is = (omega arith, omega arith)

-- What all callers show, after a change of a gate or of a call.

-- all callers, by their gates and flights
abbrev pub AllShow : ℕ → ℕ → List ℕ → List Flight → Type 0
AllShow n t gs fs = (b : ℕ) → b < n → Shows t (slice_index gs b) b (standing (slice_index_or fs b at_rest))

-- one flight is set
pub all_but_flight : (n t k : ℕ) (gs : List ℕ) (fs : List Flight) (f : Flight) → k < length fs
    → Shows t (slice_index gs k) k (standing f) → ((b : ℕ) → b < n → k ≢ b
    → Shows t (slice_index gs b) b (standing (slice_index_or fs b at_rest))) → AllShow n t gs (slice_set fs k f)
all_but_flight n t k gs fs f lt mine others b lb = elim (cases_eq b k) [
  | inl e ↦ rw e (rw (get_or-set_same fs k f at_rest lt) mine)
  | inr ne ↦ rw (get_or-set_other fs k b f at_rest ne) (others b lb (λ e. ne (sym e)))
]

-- one gate is set
pub all_but_gate : (n t k x : ℕ) (gs : List ℕ) (fs : List Flight) → k < length gs
    → Shows t x k (standing (slice_index_or fs k at_rest)) → ((b : ℕ) → b < n → k ≢ b
    → Shows t (slice_index gs b) b (standing (slice_index_or fs b at_rest))) → AllShow n t (slice_set gs k x) fs
all_but_gate n t k x gs fs lt mine others b lb = elim (cases_eq b k) [
  | inl e ↦ rw e (rw (get_or-set_same gs k x 0 lt) mine)
  | inr ne ↦ rw (get_or-set_other gs k b x 0 ne) (others b lb (λ e. ne (sym e)))
]

-- what the seat itself is to show after its step
abbrev pub OwnShows : Config → List Flight → ℕ → List ℕ → Seat → Standing → Type 0
OwnShows c fs t gs (Caller k) s = (k < length fs) × Shows t (slice_index gs k) k s
OwnShows c fs t gs _ s = Unit {0}

-- the flight of the seat is set
pub all_but_seat : (c : Config) (t : ℕ) (seat : Seat) (gs : List ℕ) (fs : List Flight) (f : Flight)
    → OwnShows c fs t gs seat (standing f) → ((b : ℕ) → b < c.callers → holder_number c seat ≢ b → Shows t
    (slice_index gs b) b (standing (slice_index_or fs b at_rest))) → AllShow c.callers t gs (flights_with fs seat f)
all_but_seat c t (Caller k) gs fs f mine others = all_but_flight c.callers t k gs fs f mine.0 mine.1 others
all_but_seat c t _ gs fs f mine others = λ b lb. others b lb (λ e. absurd (omega arith))

pub length_with : (fs : List Flight) (seat : Seat) (f : Flight) → length (flights_with fs seat f) ≡ length fs
length_with fs (Caller k) f = length-set fs k f
length_with fs _ f = refl

-- a caller's gate and flight are set
pub all_but_both : (n t k x : ℕ) (gs : List ℕ) (fs : List Flight) (f : Flight) → k < length gs → k < length fs
    → Shows t x k (standing f) → AllShow n t gs fs → AllShow n t (slice_set gs k x) (slice_set fs k f)
all_but_both n t k x gs fs f lg lf mine all = all_but_flight n t k _ fs f lf (rw (get_or-set_same gs k x 0 lg) mine)
    (λ b lb ne. rw (get_or-set_other gs k b x 0 (λ e. ne (sym e))) (all b lb))

pub record Orderly (c : Config) (v : View) : Type 0 where
  pub flights : length v.flights ≡ c.callers
  pub gates : length v.gates ≡ 16
  pub markers : length v.markers ≡ 8
  pub turn : v.turn ≤ 1 + c.callers
  -- what each caller shows
  pub each : (k : ℕ) → k < c.callers → Shows v.turn (gate_in v k) k (standing (flight_in v k))
  -- what the holder has done; a free turn names no caller
  pub served : Served (flight_in v (v.turn - 1)) v.holding
  pub free : v.turn ≡ 0 → v.holding ≡ nothing_done
  -- the phase, and the markers
  pub phase : v.phase ≡ v.phase % 8 + 8 * count_in v.markers
  pub low : v.phase % 8 ≤ 5
  pub cycle : 2 ≤ v.phase % 8 → v.phase % 8 ≤ 4 → v.turn ≢ 0
  pub stopped : v.phase % 8 ≡ 3 → (k : ℕ) → k < c.callers → v.turn ≢ 1 + k → gate_in v k ≡ 2
  pub attends : (k : ℕ) → is_attending (marker_in v k).presence ≡ true → (v.phase % 8 ≡ 1) ⊎ (v.phase % 8 ≡ 2)
  pub idle : (k : ℕ) → IdlesOutside (marker_in v k)

-- what a caller shows, at the standing that it is known to have
pub shows_at : (c : Config) (v : View) (k : ℕ) (s : Standing) → Orderly c v → k < c.callers
    → standing (flight_in v k) ≡ s → Shows v.turn (gate_in v k) k s
shows_at c v k s h lt is = rw is at (h.each k lt)

-- the holder is named by the turn word
pub turn_of : (c : Config) (v : View) (seat : Seat) → Orderly c v → HoldsTurn c v seat
    → v.turn ≡ 1 + holder_number c seat
turn_of c v seat h t = grind (arith, shows_at)

-- so no two seats hold it
pub same_holder : (c : Config) (v : View) (a b : Seat) → Orderly c v → HoldsTurn c v a → HoldsTurn c v b → a ≡ b
same_holder c v a b p ha hb = grind (arith, turn_of)

-- its call; the host has none
pub holders_flight : {c : Config} {v : View} (seat : Seat) → Orderly c v → HoldsTurn c v seat
    → flight_in v (v.turn - 1) ≡ flight_at v.flights seat
holders_flight seat h t = grind (arith, turn_of, flight_in, get_or_past)

-- what the holder shows after its step, if it goes on, if it gives the turn, and if it takes it

pub holder_shows : {c : Config} {v : View} (seat : Seat) (f : Flight) → Orderly c v → HoldsTurn c v seat
    → (standing (flight_at v.flights seat) ≡ UnderTurn → standing f ≡ UnderTurn)
    → OwnShows c v.flights v.turn v.gates seat (standing f)
holder_shows seat f h t is = grind (arith, shows_at)

pub giver_shows : {c : Config} {v : View} (seat : Seat) → Orderly c v → HoldsTurn c v seat
    → OwnShows c v.flights 0 v.gates seat Resting
giver_shows seat h t = grind (arith, gate_in, shows_at)

pub taker_shows : {c : Config} {v : View} (seat : Seat) (f : Flight) → Orderly c v → v.turn ≡ 0 → MayTake c v seat f
    → OwnShows c v.flights (1 + holder_number c seat) v.gates seat (standing f)
taker_shows seat f h z t = grind (arith, shows_at)

pub taker_number : (c : Config) (v : View) (seat : Seat) (f : Flight) → MayTake c v seat f
    → holder_number c seat ≤ c.callers
taker_number c v seat f t = grind arith

-- there are few markers
pub few_in : {c : Config} {v : View} → Orderly c v → count_in v.markers ≤ 8
few_in {v} h = omega (arith, count_by-le-length is_in v.markers, h.markers)
