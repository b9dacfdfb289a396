-- Each enabled event is one of the moves of the protocol.
use Rattle.std.proofs.lemmas.Bool.{not_from_true}
use Rattle.mk_laws.proofs.Vocabulary.{Answer, Bool, Caller, Config, Event, Flight, Group, Hand, Holding, Host, List}
use Rattle.mk_laws.proofs.Vocabulary.{Marker, Moment, None, Object, Op, Option, OwnCycle, Page, Place, Placing, Seat}
use Rattle.mk_laws.proofs.Vocabulary.{Some, Stage, Step, Unplaced, Word, Words, ℕ, and_parts, ap, arith, at_rest, begun}
use Rattle.mk_laws.proofs.Vocabulary.{cases_eq, cell_freed, chosen, decided, eq-eqb, eqb-false, eqb-true, false}
use Rattle.mk_laws.proofs.Vocabulary.{flight_of, found, freed_cell, group_of, host_has_turn, if◌then◌else◌, inl, inr}
use Rattle.mk_laws.proofs.Vocabulary.{is_attending, is_in, is_phase, is_some, is_undecided_free, is_under_turn}
use Rattle.mk_laws.proofs.Vocabulary.{marker_of, may_answer_full, ne_eqb, not-true, nothing_done, object_made, onward}
use Rattle.mk_laws.proofs.Vocabulary.{or_else, phase_of, place_now, placed_now, progress, progress_freed, progress_reg}
use Rattle.mk_laws.proofs.Vocabulary.{refl, run_of_cell, sees_double, set-get_or, slice_index, slice_set, stage_behind}
use Rattle.mk_laws.proofs.Vocabulary.{steps_of, still, subst, sym, taken, target, true, ◌%◌, ◌+◌, ◌<◌, ◌==◌, ◌∙◌, ◌≡◌}
use Rattle.mk_laws.proofs.Actors.{Actor, AsHolder, AsMarker, CallTakes, HostTakes, InCallOf, Meets, closing_alone}
use Rattle.mk_laws.proofs.Actors.{fills_new, give_phase, grants_new, is_holders, none_at, none_held, other_caller}
use Rattle.mk_laws.proofs.{Actors.others_held, NextSteps.{at_enter, at_its_stage, at_reg, has_stage_of_its_own}}
use Rattle.mk_laws.proofs.{NextSteps.stage_of, ProtocolMoves.{Attends, Begins, Closes, Ends, Enters, Gives, GoesOn}}
use Rattle.mk_laws.proofs.ProtocolMoves.{Holds, Leaves, Move, Opens, Phases, Quits, Releases, Scans, Stays, Stops}
use Rattle.mk_laws.proofs.{ProtocolMoves.{Takes, Wants, Works}, SameWords.{Behind, Moves, finds, reg_keeps}}
use Rattle.mk_laws.proofs.{SameWords.{tally_keeps, with_words}, Services.{Fills, Frees, Goes, Grants, Loads, Places}}
use Rattle.mk_laws.proofs.{Services.Service, Stages.{begun_in_call, begun_under_turn, calls_stand, either_stands}}
use Rattle.mk_laws.proofs.Stages.{goes_on, is_call_stage, is_reg_stage, loads_under_turn, onward_stands, read_stands}
use Rattle.mk_laws.proofs.{Stages.{refused_stands, reg_no_new, reg_stands, regs_work}, Standings.{Astray, InCall}}
use Rattle.mk_laws.proofs.Standings.{Resting, Standing, UnderTurn, is_astray, standing, standing_at}
use Rattle.mk_laws.proofs.Views.{HoldsTurn, View, flight_in, flight_is, flights_with, gate_in, view_of}
use Rattle.mk_laws.proofs.{IdleMarkers.{work_idles, work_stays}, Protocol.is_granted}
use Rattle.mk_core.specs.declared.seats.Presence.TheVariants.{Attending, Visiting}

-- How a step of the turn's holder serves its call.

pub where_some : {A : Type 0} (b : Bool) (x : Option A) → is_some (if b then x else None) ≡ true
    → (b ≡ true) × (is_some x ≡ true)
where_some true x h = (refl, h)
where_some false x h = cc

-- only an undecided New has a place, and only an undecided Free a target

pub target_free : (pages : ℕ) (w : Words) (f : Flight) → is_some (target pages w f) ≡ true → is_undecided_free f ≡ true
target_free pages w f h = (where_some _ _ h).0

-- `look`
pub looks : (pages : ℕ) (w : Words) (f : Flight) (h : Holding) (x : Word) (hand : Option Hand) → Service f h
    (if sees_double w (target pages w f) x then decided f Answer.Double else still f).flight (record h { hand = hand })
looks pages w f h x hand = by (sees_double w (target pages w f) x) refl
  where
    by : (b : Bool) → sees_double w (target pages w f) x ≡ b
        → Service f h (if b then decided f Answer.Double else still f).flight (record h { hand = hand })
    by b e = grind (arith, target_free, Frees, Goes)

-- a place is chosen, or taken

pub chosen_none : (p : Placing) → chosen p None ≡ p
chosen_none Unplaced = refl
chosen_none _ = refl

granted_chosen : (p : Placing) (place : Place) → is_granted (chosen p (Some place)) ≡ true → is_granted p ≡ true
granted_chosen Unplaced place h = cc
granted_chosen _ _ h = cc

place_changes : (c : Config) (m : Moment) (f : Flight) (change : Placing → Option Place → Placing)
    → ((p : Placing) → change p None ≡ p)
    → ((p : Placing) (place : Place) → is_granted (change p (Some place)) ≡ true → is_granted p ≡ true) → Service f
    m.seats.holding f (record m.seats.holding { placing = change m.seats.holding.placing (place_now c m f) })
place_changes c m f change none granted = by (place_now c m f) refl
  where
    by : (place : Option Place) → place_now c m f ≡ place
        → Service f m.seats.holding f (record m.seats.holding { placing = change m.seats.holding.placing place })
    by (Some place) e = Places _ (placed_now c m f place e).new (granted m.seats.holding.placing place) refl
    by None e = Goes _ (none m.seats.holding.placing) refl

pub either_place : {f : Flight} {h : Holding} (b : Bool) (p q : Placing) → Service f h f (record h { placing = p })
    → Service f h f (record h { placing = q }) → Service f h f (record h { placing = if b then p else q })
either_place true p q x y = x
either_place false p q x y = y

-- `quar`
pub quarantines : (pages : ℕ) (w : Words) (f : Flight) (h : Holding) (p v : ℕ) → Service f h (progress_freed f
    (cell_freed pages w f p v)).flight (record h { freed = or_else (run_of_cell w (cell_freed pages w f p v)) h.freed })
quarantines pages w f h p v = grind (arith, freed_cell, Frees, Goes)

-- `full` comes if there is no place
pub full_unplaced : (resident : ℕ) (pages : List Page) (o : Object) (placing : Placing) (cycle : OwnCycle)
    → may_answer_full resident pages o placing cycle ≡ true → placing ≡ Unplaced
full_unplaced resident pages o Unplaced cycle h = refl
full_unplaced resident pages o _ cycle h = cc

-- Each step of a call outside the turn, and `reg`, is a move.

-- a change of nothing

pub same_flight : (v : View) (k : ℕ) → record v { flights = slice_set v.flights k (flight_in v k) } ≡ v
same_flight v k = rw (set-get_or v.flights k at_rest)

same_both : (v : View) (k : ℕ)
    → record v { gates = slice_set v.gates k (gate_in v k); flights = slice_set v.flights k (flight_in v k) } ≡ v
same_both v k =
    rw (set-get_or v.flights k at_rest) (ap (λ (gs : List ℕ). record v { gates = gs }) (set-get_or v.gates k 0))

-- a caller in its call

abbrev entered : View → ℕ → Op → Bool → View
entered v k o b =
    record v {
      gates = slice_set v.gates k (if b then 1 else gate_in v k);
      flights = slice_set v.flights k
          ((if b then record { flight = begun o; answer = None } else still (flight_in v k)).flight);
    }

enter_move : (c : Config) (m : Moment) (k : ℕ) (o : Op) → k < c.callers → standing (flight_of m (Caller k)) ≡ Resting
    → is_under_turn o ≡ false → Moves c m (Caller k) (Step.Enter o)
enter_move c m k o lt was out = elim (cases_eq (slice_index m.words.gates k) 0) [
  | inl z ↦ rw (eq-eqb _ 0 z) (Enters (begun o) lt z was (begun_in_call o out))
  | inr ne ↦ rw (ne_eqb _ 0 ne) (rw (same_both (view_of m) k) Stays)
]

-- `reg`, in a call outside the turn or of a Free
reg_move : (c : Config) (m : Moment) (k : ℕ) → k < c.callers → is_reg_stage (flight_of m (Caller k)).stage ≡ true
    → is_astray (standing (flight_of m (Caller k))) ≡ false → Moves c m (Caller k) Step.Reg
reg_move c m k lt is a = with_words _ m.seats.holding m.seats.markers
    (reg_keeps m.words k _ _) (by (standing f) refl (reg_stands f.stage f.op f.q f.p f.r f.loaded (found c m e) is a))
  where
    e : Event
    e = record { seat = Caller k; step = Step.Reg }

    f : Flight
    f = flight_of m (Caller k)

    g : Flight
    g = (progress_reg (flight_of m (Caller k)) (flight_of m (Caller k)).stage
        (found c m (record { seat = Caller k; step = Step.Reg }))).flight

    by : (s : Standing) → standing (flight_of m (Caller k)) ≡ s → standing g ≡ standing (flight_of m (Caller k))
        → Move c (view_of m) (Caller k) (record (view_of m) { flights = slice_set m.seats.flights k g })
    by Resting was same = absurd (regs_work _ _ is was)
    by InCall was same = GoesOn g lt was (same ∙ was)
    by UnderTurn was same = Works g m.seats.holding (lt, was) (Loads g (loads_under_turn f.stage f.op is was) (same
        ∙ was) (reg_no_new f.stage f.op f.q f.p f.r f.loaded (found c m e) is was))
    by Astray was same = let y : true ≡ false = ap is_astray (sym was) ∙ a in cc

-- the other steps of a call
on : (c : Config) (m : Moment) (k : ℕ) (x : Step) → Meets c m (Caller k) x → has_stage_of_its_own x ≡ true
    → is_call_stage (stage_of x) ≡ true → is_astray (standing (flight_of m (Caller k))) ≡ false
    → standing (flight_of m (Caller k)) ≡ InCall
on c m k x h own is a = grind (arith, calls_stand, is_call_stage, at_its_stage)

-- and so after them, but for `leave`
goes : (c : Config) (m : Moment) (k : ℕ) (x : Step) → Meets c m (Caller k) x → has_stage_of_its_own x ≡ true
    → is_call_stage (stage_of x) ≡ true → goes_on (stage_of x) ≡ true → is_astray (standing (flight_of m (Caller k)))
    ≡ false → (standing (flight_of m (Caller k)) ≡ InCall) × (standing_at (stage_behind (flight_of m (Caller k)).stage
    (steps_of (flight_of m (Caller k)).op)) (flight_of m (Caller k)).op ≡ InCall)
goes c m k x h own is further a = grind (arith, on, onward_stands, goes_on, at_its_stage)

pub call_moves : (c : Config) (m : Moment) (k : ℕ) (x : Step) → k < c.callers → group_of x ≡ Group.Callers
    → is_astray (standing (flight_of m (Caller k))) ≡ false → Meets c m (Caller k) x → Moves c m (Caller k) x
call_moves c m k (Step.Enter o) lt g a h =
    enter_move c m k o lt (rw (at_enter _ _ o h.order).0) (at_enter _ _ o h.order).1
call_moves c m k Step.Leave lt g a h = Leaves lt (on c m k Step.Leave h refl refl a)
call_moves c m k Step.Reg lt g a h = reg_move c m k lt (at_reg _ _ h.order) a
call_moves c m k Step.Probe lt g a h =
    let f = flight_of m (Caller k) in
    let s = goes c m k Step.Probe h refl refl refl a in
    GoesOn _ lt s.0 (either_stands _ _ (onward f None) InCall (refused_stands f.stage f.op s.0) s.1)
call_moves c m k Step.Read lt g a h =
    let s = goes c m k Step.Read h refl refl refl a in
    GoesOn _ lt s.0 (read_stands (flight_of m (Caller k)) _ _ ∙ s.1)
call_moves c m k Step.Write lt g a h = let s = goes c m k Step.Write h refl refl refl a in GoesOn _ lt s.0 s.1
call_moves c m k Step.Cas lt g a h = let s = goes c m k Step.Cas h refl refl refl a in GoesOn _ lt s.0 s.1
call_moves c m k Step.Getg lt g a h = let s = goes c m k Step.Getg h refl refl refl a in GoesOn _ lt s.0 s.1
call_moves c m k Step.Setg lt g a h = let s = goes c m k Step.Setg h refl refl refl a in GoesOn _ lt s.0 s.1
call_moves c m k Step.Dirty lt g a h = let s = goes c m k Step.Dirty h refl refl refl a in GoesOn _ lt s.0 s.1
call_moves c m k _ lt g a h = cc

-- Each step of a marker's is a move.

attends_in : (b : Bool)
    → is_in (record { presence = if b then Attending else Visiting; scan = None; hand = None; seen = None }) ≡ true
attends_in true = refl
attends_in false = refl

pub attends_at : (n : ℕ) → is_attending (if n % 8 == 1 then Attending else Visiting) ≡ true → n % 8 ≡ 1
attends_at n h = grind (arith, eqb-true)

pub marker_moves : (c : Config) (m : Moment) (k : ℕ) (x : Step) → k < 8 → group_of x ≡ Group.Markers
    → Meets c m (Marker k) x → Moves c m (Marker k) x
marker_moves c m k Step.Attend lt g h =
    Attends _ lt (not_from_true _ h.marker) (attends_in (m.words.phase % 8 == 1)) (attends_at m.words.phase)
    (record { scan = refl; hand = refl; seen = refl })
marker_moves c m k Step.Quit lt g h = Quits lt h.marker
marker_moves c m k (Step.Mlook w) lt g h =
    Scans _ lt (work_stays c (finds c m (Marker k) (Step.Mlook w)) (Step.Mlook w) (marker_of m k) refl)
    (work_idles c (finds c m (Marker k) (Step.Mlook w)) (Step.Mlook w) (marker_of m k) h.marker refl)
marker_moves c m k (Step.Claim p i) lt g h = Scans _ lt refl (grind (arith, work_idles, finds))
marker_moves c m k Step.Mload lt g h = Scans _ lt refl (work_idles c _ Step.Mload (marker_of m k) h.marker refl)
marker_moves c m k Step.Mmark lt g h =
    Scans _ lt refl (work_idles c (finds c m (Marker k) Step.Mmark) Step.Mmark (marker_of m k) h.marker refl)
marker_moves c m k Step.Mblack lt g h =
    Scans _ lt refl (work_idles c (finds c m (Marker k) Step.Mblack) Step.Mblack (marker_of m k) h.marker refl)
marker_moves c m k _ lt g h = cc

-- who takes the turn

abbrev taken_by : View → ℕ → Op → Bool → View
taken_by v k o b =
    record v {
      turn = if b then 1 + k else v.turn;
      flights = slice_set v.flights k
          ((if b then record { flight = begun o; answer = None } else still (flight_in v k)).flight);
      holding = if b then nothing_done else v.holding;
    }

pub call_takes : (c : Config) (m : Moment) (k : ℕ) (o : Op) → k < c.callers
    → (flight_of m (Caller k)).stage ≡ Stage.Idle → is_under_turn o ≡ true → Moves c m (Caller k) (Step.Take (Some o))
call_takes c m k o lt idle is = elim (cases_eq m.words.turn 0) [
  | inl z ↦
      subst (λ (b : Bool). Move c (view_of m) (Caller k) (taken_by (view_of m) k o b)) (sym (eq-eqb m.words.turn 0 z))
      (Takes (begun o) z (lt, rw idle, begun_under_turn o is))
  | inr ne ↦ rw (ne_eqb m.words.turn 0 ne) (rw (same_flight (view_of m) k) Stays)
]

pub host_takes : (c : Config) (m : Moment) → Moves c m Host (Step.Take None)
host_takes c m = elim (cases_eq m.words.turn 0) [
  | inl z ↦ rw (eq-eqb m.words.turn 0 z) (Takes at_rest z tt)
  | inr ne ↦ rw (ne_eqb m.words.turn 0 ne) Stays
]

-- the holder, whose seat is a caller's or the host's

-- the view after, with a call that goes on so, and with the markers as they were
abbrev with_call : Moment → Seat → Flight → View → View
with_call m seat f v = record v { flights = flights_with m.seats.flights seat f; markers = m.seats.markers }

abbrev HolderMoves : Config → Moment → Seat → Step → Type 0
HolderMoves c m seat x = Move c (view_of m) seat
    (with_call m seat (progress c m (flight_of m seat) (finds c m seat x) x).flight (view_of (Behind c m seat x)))

from_seat : (c : Config) (m : Moment) (seat : Seat) (x : Step) → HoldsTurn c (view_of m) seat → HolderMoves c m seat x
    → Moves c m seat x
from_seat c m (Marker k) x t move = absurd t
from_seat c m _ x t move = move

works : (c : Config) (m : Moment) (seat : Seat) {g : Flight} {i : Holding} → HoldsTurn c (view_of m) seat
    → Service (flight_of m seat) m.seats.holding g i
    → Move c (view_of m) seat (record (view_of m) { flights = flights_with m.seats.flights seat g; holding = i })
works c m seat {g = g} {i = i} t s = Works g i t (rw (flight_is m seat) at s)

works_on : (c : Config) (m : Moment) (seat : Seat) → HoldsTurn c (view_of m) seat
    → Move c (view_of m) seat (record (view_of m) { flights = flights_with m.seats.flights seat (flight_of m seat) })
works_on c m seat t = works c m seat t (Goes m.seats.holding refl refl)

-- its call stays as it is
same_call : (m : Moment) (seat : Seat) → flights_with m.seats.flights seat (flight_of m seat) ≡ m.seats.flights
same_call m (Caller k) = set-get_or m.seats.flights k at_rest
same_call m _ = refl

stays_at : (c : Config) (m : Moment) (seat : Seat) (v : View)
    → Move c (view_of m) seat (record v { flights = m.seats.flights; markers = m.seats.markers })
    → Move c (view_of m) seat (with_call m seat (flight_of m seat) v)
stays_at c m seat v move = rw (same_call m seat) move

by_kind : (c : Config) (m : Moment) (seat : Seat) (x : Step) → HoldsTurn c (view_of m) seat → is_holders x ≡ true
    → Meets c m seat x → HolderMoves c m seat x
by_kind c m seat Step.Give t n h = Gives t (none_held c m.words h.gates) (give_phase (phase_of m.words) h.phase)
by_kind c m seat (Step.Look w) t n h = works c m seat t (looks c.pages m.words (flight_of m seat) m.seats.holding w _)
by_kind c m seat (Step.Head p v) t n h = works c m seat t (either_place (is_phase m.words 4) m.seats.holding.placing _
    (Goes m.seats.holding refl refl) (place_changes c m (flight_of m seat) chosen chosen_none granted_chosen))
by_kind c m seat (Step.Used p v) t n h = works c m seat t (either_place (is_phase m.words 4) m.seats.holding.placing _
    (Goes m.seats.holding refl refl) (place_changes c m (flight_of m seat) taken (λ p. refl) (λ p place g. cc)))
by_kind c m seat (Step.Quar p v) t n h = works c m seat t (quarantines c.pages m.words _ m.seats.holding p v)
by_kind c m seat Step.Grant t n h = works c m seat t (Grants (grants_new c m seat h))
by_kind c m seat (Step.Tally n v) t _ h =
    with_words _ m.seats.holding m.seats.markers (tally_keeps m.words n v) (works_on c m seat t)
by_kind c m seat (Step.Hold j) t n h =
    let o = other_caller c seat j h.range in stays_at c m seat (view_of (Behind c m seat (Step.Hold j)))
    (elim (cases_eq (slice_index m.words.gates j) 0) [
      | inl z ↦ rw (eq-eqb (slice_index m.words.gates j) 0 z) (Holds j t o.0 o.1 z)
      | inr nz ↦ rw (ne_eqb (slice_index m.words.gates j) 0 nz) (rw (set-get_or m.words.gates j 0) Stays)
    ])
by_kind c m seat (Step.Open j) t n h =
    let o = other_caller c seat j h.range in
    stays_at c m seat (view_of (Behind c m seat (Step.Open j))) (Opens j t o.0 o.1 (eqb-true _ 2 h.gates)
    (eqb-false (phase_of m.words) 3 (not-true (phase_of m.words == 3) h.phase)))
by_kind c m seat (Step.Clear p) t n h = works_on c m seat t
by_kind c m seat (Step.Mark p v) t n h = works c m seat t
    (either_place _ (chosen m.seats.holding.placing (place_now c m (flight_of m seat))) m.seats.holding.placing
    (place_changes c m (flight_of m seat) chosen chosen_none granted_chosen) (Goes m.seats.holding refl refl))
by_kind c m seat (Step.Wipe i) t n h = works_on c m seat t
by_kind c m seat Step.Full t n h = works c m seat t (Fills (fills_new c m seat h) (full_unplaced c.resident
    m.words.pages (object_made c (flight_of m seat).op) m.seats.holding.placing m.seats.holding.cycle h.holder))
by_kind c m seat Step.Begin t n h = stays_at c m seat (view_of (Behind c m seat Step.Begin))
    (Phases _ t refl refl (Begins (eqb-true (phase_of m.words) 0 h.phase)))
by_kind c m seat Step.Close t n h = stays_at c m seat (view_of (Behind c m seat Step.Close)) (Phases _ t refl refl
    (Closes (eqb-true (phase_of m.words) 2 h.phase) (others_held c m seat h.gates)
    (λ i. none_at m.seats.markers i (closing_alone c m h.holder))))
by_kind c m seat Step.Release t n h = stays_at c m seat (view_of (Behind c m seat Step.Release))
    (Phases _ t refl refl (Releases (eqb-true (phase_of m.words) 3 h.phase)))
by_kind c m seat Step.End t n h = stays_at c m seat (view_of (Behind c m seat Step.End))
    (Phases _ t refl refl (Ends (eqb-true (phase_of m.words) 4 h.phase)))
by_kind c m seat Step.Want t n h = stays_at c m seat (view_of (Behind c m seat Step.Want))
    (Phases _ t refl refl (Wants (eqb-true (phase_of m.words) 1 h.phase)))
by_kind c m seat (Step.Undirty p) t n h = works_on c m seat t
by_kind c m seat (Step.Black p v) t n h = works_on c m seat t
by_kind c m seat (Step.Unblack p) t n h = works_on c m seat t
by_kind c m seat Step.Over t n h = stays_at c m seat (view_of (Behind c m seat Step.Over)) (Phases _ t refl refl
    (Stops (eqb-true (phase_of m.words) 0 (and_parts (host_has_turn c m) (is_phase m.words 0) h.holder).1)))
by_kind c m seat _ t n h = cc

-- all kinds
pub moves : {c : Config} {m : Moment} {seat : Seat} {x : Step} → ((k : ℕ) → k < c.callers
    → is_astray (standing (flight_of m (Caller k))) ≡ false) → Actor c m seat x → Meets c m seat x → Moves c m seat x
moves {c} {m} {x} a (InCallOf k _ lt g) h = call_moves c m k x lt g (a k lt) h
moves {c} {m} {x} a (AsMarker k _ lt g) h = marker_moves c m k x lt g h
moves {c} {m} a (CallTakes k o lt idle is) h = call_takes c m k o lt idle is
moves {c} {m} a (HostTakes free) h = host_takes c m
moves {c} {m} {seat} {x} a (AsHolder _ _ t n) h = from_seat c m seat x t (by_kind c m seat x t n h)
