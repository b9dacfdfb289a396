-- Each enabled and admitted event leads to what the images allow.
use Rattle.mk_laws.proofs.Vocabulary.{AreAdmitted, Bool, Caller, Cell, Config, Event, Group, Host, ImagePremises}
use Rattle.mk_laws.proofs.Vocabulary.{ImageScene, IsSafe, IsSafeSet, IsSound, IsTypedAllocation, Kind, List, Marker}
use Rattle.mk_laws.proofs.Vocabulary.{MarksAreClosed, MeetsAll, Mirrors, NeverState, None, Null, Num, Number, Op}
use Rattle.mk_laws.proofs.Vocabulary.{Option, PlacedAllocation, Ptr, Seat, Some, Stage, Step, Suits, To, Value}
use Rattle.mk_laws.proofs.Vocabulary.{World, ℕ, address_of, allocation_at, and_from, and_parts, and_right}
use Rattle.mk_laws.proofs.Vocabulary.{answer_decided, ap, arith, asked, at_rest, bases_of, call_decided, caller_number}
use Rattle.mk_laws.proofs.Vocabulary.{cases_Bool, cases_eq, cases_lt, cell_of_allocation, changed_at, eqb-true, false}
use Rattle.mk_laws.proofs.Vocabulary.{false≢true, flight_among, flight_of, fresh_leaves, get_or_past, global_at}
use Rattle.mk_laws.proofs.Vocabulary.{has_bit_without, if◌then◌else◌, image_of, image_scene_of, inl, inr, is_marked}
use Rattle.mk_laws.proofs.Vocabulary.{is_none_or, is_open_to, is_past_probe, is_put, is_run_cell, is_unmapped, kinds_of}
use Rattle.mk_laws.proofs.Vocabulary.{length, ltb-true, map, no_longer_fresh, none_freed, not, or_cases, or_parts}
use Rattle.mk_laws.proofs.Vocabulary.{others_are_held, placed_at, pointed_cell, points_well, refl, released_leaves}
use Rattle.mk_laws.proofs.Vocabulary.{set-get_or, slice_index, slice_index_or, slice_set, storage_holds, sym, target}
use Rattle.mk_laws.proofs.Vocabulary.{true, with_released, word_at, words_of, world_behind, ◌%◌, ◌&&◌, ◌+◌, ◌/◌, ◌<◌}
use Rattle.mk_laws.proofs.{Vocabulary.{◌==◌, ◌||◌, ◌∙◌, ◌≡◌, ◌≢◌}, Basics.{KnownWorld, Leads, Move, Orderly, Ready}}
use Rattle.mk_laws.proofs.Basics.{Releases, Renews, Stands, View, at_its_stage, at_no_take, base_at, calls_stand}
use Rattle.mk_laws.proofs.Basics.{exists_placed, flight_in, gate_in, grants_new, is_call_stage, not_astray, others_held}
use Rattle.mk_laws.proofs.{Basics.{pointed_word, standing_at, unmapped_is, words_fit}, CallSorts.{bare_on, begins}}
use Rattle.mk_laws.proofs.CallSorts.{cas_leads_at, dirty_leads, enter_leads, getg_leads_at, leave_leads, probe_leads_at}
use Rattle.mk_laws.proofs.CallSorts.{read_leads_at, reg_leads_at, setg_leads_at, write_leads_at}
use Rattle.mk_laws.proofs.{Standings.{Resting, Shows, Standing}, TurnMoves.{full_by, grant_by, look_by, quar_by}}
use Rattle.mk_laws.proofs.{GrantMoves.{same_places, wiped_outside}, ImagesBefore.{shown_in_call, type_is}}
use Rattle.mk_laws.proofs.{ImagesMoves.{Rests, Wipes}, NextSteps.{at_take, of_turn}, Pairs.shows_plain}
use Rattle.mk_laws.proofs.Stages.{is_turn_stage, new_stands}
use Rattle.mk_never.specs.Types.{is_leaf, is_number}
use Rattle.mk_core.proofs.{RegisterAccesses.{tally_leaves, tally_leaves_registers}, ListTests.list_all-at}
use Rattle.mk_core.specs.Cycles.{is_marked_allocation, is_scanned_allocation}

-- A caller whose gate is held is between calls.

pub resting_idle : (o : Op) (s : Stage) → standing_at s o ≡ Resting → s ≡ Stage.Idle
resting_idle o Stage.Idle h = refl
resting_idle o s h = grind arith

held_resting : (t k : ℕ) (s : Standing) (g : ℕ) → g ≡ 2 → Shows t g k s → s ≡ Resting
held_resting t k x3 g e h = grind arith

pub held_idle : {c : Config} {v : View} (j : ℕ) → Orderly c v → j < c.callers → gate_in v j ≡ 2
    → (flight_in v j).stage ≡ Stage.Idle
held_idle {v} j p lt e = resting_idle _ _ (held_resting v.turn j _ (gate_in v j) e (p.each j lt))

-- While the gates of all others are held, all but one are idle.
pub others_idle : {c : Config} {v : View} (k : ℕ) → Orderly c v → ((j : ℕ) → j < c.callers → k ≢ j → gate_in v j ≡ 2)
    → (j : ℕ) → j ≢ k → (flight_in v j).stage ≡ Stage.Idle
others_idle {c} {v} k p held j ne = elim (cases_lt j c.callers) [
  | inl lt ↦ held_idle j p lt (held j lt (λ e. ne (sym e)))
  | inr le ↦ rw (get_or_past v.flights j at_rest (let e = p.flights in omega (arith, e)))
]

-- A release cuts the safe set to the marked allocations.

is_number_kind : (kind : Kind) → is_number kind ≡ true → kind ≡ Number
is_number_kind Number h = refl
is_number_kind (To t o) h = cc

module _ {c : Config} {w : World} {n : NeverState} (known : KnownWorld c w) (mirrors : Mirrors c w n) {safe : ℕ
    → Bool} (ready : Ready c.globals safe (image_scene_of w) n) (st : Stands c w.now.words w.allocations)
    (marks : MarksAreClosed c w) (plain : (j : ℕ) → is_put (flight_among w.now.seats.flights j).stage ≡ false) where
  abbrev placed : ℕ → PlacedAllocation
  placed i = placed_at w.allocations i

  abbrev cut : ℕ → Bool
  cut a = safe a && is_marked w.now.words (cell_of_allocation c (placed a))

  value_cut : (v : Value) → IsSound n v → IsSafe safe v
      → points_well c.pages w.now.words (image_of (bases_of w.allocations) v) ≡ true → IsSafe cut v
  value_cut (Ptr a t o) sound is well =
      let u = ready.set.unreleased a is in
      let fits = words_fit c w n known mirrors a (exists_placed w.allocations a u) in
      let cell = ap (λ b. pointed_cell c.pages w.now.words.pages (address_of (b + o))) (base_at w.allocations a)
      ∙ st.cell a o u (omega (arith, pointed_word c.globals safe _ n ready a t o sound)) in
      and_from (safe a) _ is (ap (is_none_or (is_marked w.now.words)) (sym cell) ∙ well)
  value_cut _ sound is well = tt

  -- a root that is the image of a value
  root_cut : (x : ℕ) (v : Value) → points_well c.pages w.now.words x ≡ true → x ≡ image_of (bases_of w.allocations) v
      → IsSound n v → IsSafe safe v → IsSafe cut v
  root_cut x v well e sound is = value_cut v sound is (rw e at well)

  base_cell_is : (a : ℕ) → (placed a).released ≡ false
      → pointed_cell c.pages w.now.words.pages (address_of (placed a).base) ≡ Some (cell_of_allocation c (placed a))
  base_cell_is a u =
      let same : address_of (placed a).base ≡ address_of ((placed a).base + 0) = omega arith in
      ap (pointed_cell c.pages w.now.words.pages) same ∙ st.cell a 0 u (let lt = exists_placed w.allocations a u in
      (storage_holds c (placed a) known.limits (type_is c w n known mirrors a lt)).1.0)

  word_cut : (a i : ℕ) → safe a ≡ true → is_marked w.now.words (cell_of_allocation c (placed a)) ≡ true
      → is_unmapped (allocation_at n a) ≡ false → IsSafe cut (word_at n a i)
  word_cut a i sa marked mapped = elim (cases_lt i (length (words_of n a))) [
    | inr le ↦ rw (get_or_past (words_of n a) i Null le) tt
    | inl li ↦
        let u = ready.set.unreleased a sa in
        let lt = exists_placed w.allocations a u in
        let count = mirrors.twins.count in
        let typed : IsTypedAllocation n (allocation_at n a) = mirrors.typed.allocations a (omega arith) in
        let un = sym (unmapped_is c w n known mirrors a lt) ∙ mapped in
        elim (cases_Bool (is_leaf (kinds_of c.types (placed a).ty))) [
          | inl leaf ↦ number_cut _ _ (typed.words i li) (is_number_kind _ (rw mirrors.types (rw (mirrors.twins.ty a lt)
              at (list_all-at is_number (kinds_of c.types (placed a).ty) Number leaf refl i))))
          | inr pointers ↦
              let fits = words_fit c w n known mirrors a lt in
              let scanned : is_scanned_allocation c (placed a) ≡ true = rw u (rw un (ap not pointers)) in
              let is_marked_here : is_marked_allocation c w.now.words (placed a) ≡ true =
              rw (base_cell_is a u) marked in
              let well = marks.words a ((placed a).base + i) scanned is_marked_here (omega arith, omega arith) in
              suited_cut (word_at n a i) _ (typed.words i li) (ready.set.closed a i sa mapped)
              (rw (ready.images.heap a i u mapped li) at well)
        ]
  ]
    where
      number_cut : (v : Value) (kind : Kind) → Suits n v kind → kind ≡ Number → IsSafe cut v
      number_cut v (To t o) s e = cc
      number_cut (Num m) Number s e = tt
      number_cut Null Number s e = tt
      number_cut (Ptr a t o) Number s e = absurd s

      suited_cut : (v : Value) (kind : Kind) → Suits n v kind → IsSafe safe v
          → points_well c.pages w.now.words (image_of (bases_of w.allocations) v) ≡ true → IsSafe cut v
      suited_cut (Num m) Number s is well = tt
      suited_cut Null Number s is well = tt
      suited_cut (Ptr a t o) Number s is well = absurd s
      suited_cut v (To t o) s is well = value_cut v s.0 is well

  abbrev cut_allocations : List PlacedAllocation
  cut_allocations = map (with_released c w.now.words) w.allocations

  cut_safe : IsSafeSet cut cut_allocations n
  cut_safe = record {
    registers = λ k. root_cut (slice_index w.now.words.registers k) (slice_index_or n.registers k Null) (marks.registers
        k) (sym (shows_plain (flight_among w.now.seats.flights (k / 8)) (k % 8) (slice_index w.now.words.registers k)
        (plain (k / 8))) ∙ ready.images.registers k) (mirrors.typed.registers k) (ready.set.registers k);
    globals = λ g. root_cut (slice_index w.now.words.globals g) (global_at n g) (marks.globals g)
        (ready.images.globals g) (mirrors.typed.globals g) (ready.set.globals g);
    closed = λ a i ka mapped. let parts =
        and_parts (safe a) (is_marked w.now.words (cell_of_allocation c (placed a))) ka in word_cut
        a i parts.0 parts.1 mapped;
    unreleased = λ a ka.
        let parts = and_parts (safe a) (is_marked w.now.words (cell_of_allocation c (placed a))) ka in
        let u = ready.set.unreleased a parts.0 in
        grind (arith, placed, changed_at, base_cell_is, has_bit_without, and_right);
  }

  pub releases : Move safe (image_scene_of w) n
      (record (image_scene_of w) { allocations = map (with_released c w.now.words) w.allocations }) n
  releases = Releases cut_allocations (same_places w.allocations (released_leaves c w.now.words)) (λ a
      u. (or_parts _ _ (ap (λ (y : PlacedAllocation). y.released) (sym (changed_at _ w.allocations a refl)) ∙ u)).0)
      (λ a. rw (changed_at _ w.allocations a refl)) cut cut_safe

-- what an event leads to, and that what it decides is right
abbrev pub Goes : Config → World → NeverState → (ℕ → Bool) → Event → Type 0
Goes c w n safe e = Leads safe (image_scene_of w) n (caller_number e.seat) (flight_of w.now e.seat).op
    (image_scene_of (world_behind c w e)) (answer_decided c w.now e)

abbrev MeetsOf : Config → World → Seat → Step → Type 0
MeetsOf c w seat x = MeetsAll c w.now (record { seat = seat; step = x })

abbrev AdmittedOf : Config → World → NeverState → Event → Type 0
AdmittedOf c w n e = AreAdmitted c.globals n (asked (call_decided c w.now e))

-- a kind that is for the turn's holder and leaves its flight as it is, or for others
abbrev is_still : Step → Bool
is_still Step.Reg = false
is_still Step.Write = false
is_still Step.Cas = false
is_still Step.Setg = false
is_still (Step.Quar p v) = false
is_still Step.Grant = false
is_still x = true

-- what is after it but for the flights
abbrev still_scene : Config → World → Seat → Step → ImageScene
still_scene c w seat x =
    record (image_scene_of (world_behind c w (record { seat = seat; step = x }))) { flights = w.now.seats.flights }

turn_plain : (s : Stage) → is_turn_stage s ≡ true → is_put s ≡ false
turn_plain Stage.Put h = cc
turn_plain _ h = refl

pub idle_plain : (s : Stage) → s ≡ Stage.Idle → is_put s ≡ false
idle_plain s e = ap is_put e

abbrev no_cell : Option Cell
no_cell = None

none_target : (b : Bool) → (if b then no_cell else no_cell) ≡ no_cell
none_target true = refl
none_target false = refl

module _ {c : Config} {w : World} {n : NeverState} (known : KnownWorld c w) (mirrors : Mirrors c w n)
    (others : ImagePremises c w) {safe : ℕ
    → Bool} (ready : Ready c.globals safe (image_scene_of w) n) (st : Stands c w.now.words w.allocations) where
  -- at a release nothing is owed
  plain_at : (seat : Seat) → is_open_to seat Group.Turn ≡ true → MeetsOf c w seat Step.Release → (j : ℕ)
      → is_put (flight_among w.now.seats.flights j).stage ≡ false
  plain_at (Caller k) o h j = elim (cases_eq j k) [
    | inl e ↦
        let f = flight_of w.now (Caller k) in
        rw e (turn_plain f.stage (of_turn f.stage f.op Step.Release refl refl h.order))
    | inr ne ↦ idle_plain _ (others_idle k known.now.orderly (others_held c w.now (Caller k) h.gates) j ne)
  ]
  plain_at Host o h j = elim (cases_lt j c.callers) [
    | inl lt ↦ idle_plain _
        (others_idle c.callers known.now.orderly (others_held c w.now Host h.gates) j (λ e. absurd (omega arith)))
    | inr le ↦ rw (get_or_past w.now.seats.flights j at_rest (let e = known.now.orderly.flights in omega (arith, e)))
  ]
  plain_at (Marker k) o h j = absurd (false≢true o)

  still_moves : (seat : Seat) (x : Step) → is_still x ≡ true → MeetsOf c w seat x
      → Move safe (image_scene_of w) n (still_scene c w seat x) n
  still_moves seat (Step.Tally t v) s h =
      let kept = tally_leaves w.now.words t v in
      rw (tally_leaves_registers w.now.words t v, kept.globals, kept.heap) Rests
  still_moves seat (Step.Wipe x) s h = Wipes x (wiped_outside c w n known mirrors others st x (h.holder))
  still_moves seat Step.Begin s h =
      Renews (map no_longer_fresh w.allocations) (same_places _ fresh_leaves) (λ a. rw (changed_at
      no_longer_fresh w.allocations a refl)) (λ a. rw (changed_at no_longer_fresh w.allocations a refl))
  still_moves seat Step.Release s h =
      releases known mirrors ready st (others.marks (eqb-true _ 3 h.phase)) (plain_at seat h.kind h)
  still_moves seat x s h = grind (arith, Rests)

  -- of a caller, whose flight stays
  still_leads : (k : ℕ) {t : ImageScene} → Move safe (image_scene_of w) n t n → t.flights ≡ w.now.seats.flights
      → Leads safe (image_scene_of w) n k (flight_of w.now (Caller k)).op
      (record t { flights = slice_set w.now.seats.flights k (flight_of w.now (Caller k)) }) None
  still_leads k m e = (rw (e ∙ sym (set-get_or w.now.seats.flights k at_rest)) at m, λ more. refl)

  quiet_at : (k p v : ℕ) → MeetsOf c w (Caller k) (Step.Quar p v)
      → is_run_cell w.now.words (target c.pages w.now.words (flight_of w.now (Caller k))) ≡ true → (j : ℕ) → j ≢ k
      → is_past_probe (flight_among w.now.seats.flights j).stage ≡ false
  quiet_at k p v h run j ne =
      let held : others_are_held c.callers w.now.words (Caller k) ≡ true = either_held _ _ run h.gates in
      ap is_past_probe (others_idle k known.now.orderly (others_held c w.now (Caller k) held) j ne)
    where
      either_held : (a b : Bool) → a ≡ true → (not a || b) ≡ true → b ≡ true
      either_held true b e g = g
      either_held false b e g = absurd (false≢true e)

  grant_phase : (p : ℕ) → ((p == 0) || (p == 1)) ≡ true → p ≢ 4
  grant_phase p h = grind (arith, or_cases, eqb-true)

  pub goes : (seat : Seat) (x : Step) → MeetsOf c w seat x → AdmittedOf c w n (record { seat = seat; step = x })
      → Goes c w n safe (record { seat = seat; step = x })
  goes (Caller k) (Step.Enter o) h ad = enter_leads c w n known mirrors safe ready k o h
  goes (Caller k) Step.Leave h ad = leave_leads c w n known mirrors safe ready k h
  goes (Caller k) Step.Reg h ad = reg_leads_at c w n known mirrors safe ready k h ad
  goes (Caller k) Step.Probe h ad =
      let f = flight_of w.now (Caller k) in
      let lt = ltb-true k c.callers h.seat in
      let in_call = calls_stand f.stage f.op (ap is_call_stage (at_its_stage f.stage f.op Step.Probe refl h.order))
      (not_astray c w.now known.now.orderly k lt) in
      probe_leads_at c w n known mirrors safe ready k (shown_in_call c w n known mirrors others st k lt in_call) h ad
  goes (Caller k) Step.Read h ad = read_leads_at c w n known mirrors safe ready k h ad
  goes (Caller k) Step.Write h ad = write_leads_at c w n known mirrors safe ready k h ad
  goes (Caller k) Step.Cas h ad = cas_leads_at c w n known mirrors safe ready k h ad
  goes (Caller k) Step.Getg h ad = getg_leads_at c w n known mirrors safe ready k h
  goes (Caller k) Step.Setg h ad = setg_leads_at c w n known mirrors safe ready k h
  goes (Caller k) Step.Dirty h ad = dirty_leads c w n known mirrors safe ready k h
  goes (Caller k) (Step.Take (Some o)) h ad =
      let f = flight_of w.now (Caller k) in
      begins c w n known mirrors safe ready k f.op o _ (ap is_put (at_take f.stage f.op o h.order).0)
  goes (Caller k) (Step.Take None) h ad = absurd (at_no_take _ _ h.order)
  goes (Caller k) Step.Give h ad = let f =
      flight_of w.now (Caller k) in bare_on c w n known mirrors safe ready k f.op at_rest
      (turn_plain f.stage (of_turn f.stage f.op Step.Give refl refl h.order)) refl
  goes (Caller k) (Step.Look x) h ad = look_by known mirrors others ready st k (ltb-true k c.callers h.seat) _ x refl
  goes (Caller k) (Step.Quar p v) h ad =
      quar_by known mirrors others ready st k (ltb-true k c.callers h.seat) _ p v _ refl refl (quiet_at k p v h)
  goes (Caller k) Step.Grant h ad =
      let f = flight_of w.now (Caller k) in
      let lt = ltb-true k c.callers h.seat in
      grant_by known mirrors others ready st k lt f.stage f.op f.q f.p f.r f.loaded
      w.now.seats.holding.placing refl h.order (h.holder) refl
      (lt, new_stands f.stage f.op (grants_new c w.now (Caller k) h)) (grant_phase _ h.phase) (known.now.operands k)
  goes (Caller k) Step.Full h ad =
      let f = flight_of w.now (Caller k) in
      full_by known mirrors others ready st k (ltb-true k c.callers h.seat) f.stage f.op f.q f.p f.r f.loaded
      refl h.order
  goes (Caller k) x h ad = still_leads k (still_moves (Caller k) x refl h) refl
  goes _ Step.Reg h ad = absurd (false≢true h.kind)
  goes _ Step.Write h ad = absurd (false≢true h.kind)
  goes _ Step.Cas h ad = absurd (false≢true h.kind)
  goes _ Step.Setg h ad = absurd (false≢true h.kind)
  goes Host Step.Grant h ad = absurd (false≢true (and_parts _ false h.order).1)
  goes Host (Step.Quar p v) h ad = (rw (none_target _) (rw (none_freed w.now.words w.allocations) Rests), λ more. refl)
  goes Host x h ad = (still_moves Host x refl h, λ more. refl)
  goes (Marker k) Step.Grant h ad = absurd (false≢true h.kind)
  goes (Marker k) (Step.Quar p v) h ad = absurd (false≢true h.kind)
  goes (Marker k) x h ad = (still_moves (Marker k) x refl h, λ more. refl)
