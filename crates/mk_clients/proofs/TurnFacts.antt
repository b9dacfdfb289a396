-- What a turn knows of the table after its own steps.
use Rattle.mk_heap.proofs.Below.Laws.Vocabulary.{Bool, Config, Event, Holding, Holds, Host, List, Seat, Step}
use Rattle.mk_heap.proofs.Below.Laws.Vocabulary.{TalliesAreTidy, Word}
use Rattle.mk_heap.proofs.Below.Laws.Vocabulary.{World, ℕ, and_from, ap, arith, at_rest, cases_eq, cases_lt, eq-eqb}
use Rattle.mk_heap.proofs.Below.Laws.Vocabulary.{eqb-false}
use Rattle.mk_heap.proofs.Below.Laws.Vocabulary.{eqb-true, false, get_or-set_other, get_or-set_same, get_or_past}
use Rattle.mk_heap.proofs.Below.Laws.Vocabulary.{group_of}
use Rattle.mk_heap.proofs.Below.Laws.Vocabulary.{has_gates, has_phase, holder_may, inl, inr, is_held, is_in_range}
use Rattle.mk_heap.proofs.Below.Laws.Vocabulary.{is_open_to}
use Rattle.mk_heap.proofs.Below.Laws.Vocabulary.{left, length, length-set, lt-ltb, marker_may, ne_eqb, not}
use Rattle.mk_heap.proofs.Below.Laws.Vocabulary.{others_are_held}
use Rattle.mk_heap.proofs.Below.Laws.Vocabulary.{outside, phase_of, refl, slice_index, slice_set, subst, sym, true}
use Rattle.mk_heap.proofs.Below.Laws.Vocabulary.{true≢false}
use Rattle.mk_heap.proofs.Below.Laws.Vocabulary.{world_behind, [], ◌++◌, ◌+◌, ◌<◌, ◌==◌, ◌∙◌, ◌∷◌, ◌≡◌, ◌≢◌, ◌≤◌, ◌⊎◌}
use Rattle.mk_heap.proofs.Below.Laws.{Actors.none_held, Tallies.counts_tidy_more, TallySteps.CountsNothing}
use Rattle.mk_core.proofs.Conditions.{meets_enabled}
use Rattle.mk_core.specs.{Frames.{CountsAreLeft, steady_of}, Moments.none_is_held, Conditions.comes_next_to_host}
use Rattle.mk_heap.proofs.Below.Words.TurnSteps.{all_from}
use Rattle.mk_heap.specs.Below.Words.{TurnSteps.{Acts, world_at}, States.{PassState, WordsState, now_of}}
use Rattle.mk_heap.specs.Below.Words.Steps.{OthersMayOpen, IsEnabledTo}
use Rattle.mk_clients.specs.Clients.{HoldsBelow, MayGiveBack, Settled, StaysTidy}

-- kinds that leave the steady words, the allocations and the freed run alone
abbrev pub leaves_steady : Step → Bool
leaves_steady (Step.Look x) = true
leaves_steady (Step.Hold j) = true
leaves_steady (Step.Open j) = true
leaves_steady (Step.Clear p) = true
leaves_steady (Step.Mark p v) = true
leaves_steady (Step.Wipe n) = true
leaves_steady (Step.Undirty p) = true
leaves_steady (Step.Black p v) = true
leaves_steady (Step.Unblack p) = true
leaves_steady _ = false

steady_behind : (c : Config) (w : World) (seat : Seat) (s : Step) → leaves_steady s ≡ true
    → steady_of (world_behind c w (record { seat = seat; step = s })) ≡ steady_of w
steady_behind c w seat (Step.Look x) h = refl
steady_behind c w seat _ h = cc

freed_behind : (c : Config) (w : World) (seat : Seat) (s : Step) → leaves_steady s ≡ true
    → (world_behind c w (record { seat = seat; step = s })).now.seats.holding.freed ≡ w.now.seats.holding.freed
freed_behind c w seat (Step.Look x) h = refl
freed_behind c w seat _ h = cc

pub freed_kept : {p q : PassState} {s : Step} → Acts p s q → leaves_steady s ≡ true
    → (now_of q).seats.holding.freed ≡ (now_of p).seats.holding.freed
freed_kept {p} {s} a h =
    ap (λ (w : World). w.now.seats.holding.freed) a.world ∙ freed_behind p.table.config (world_at a.makes) p.seat s h
    ∙ ap (λ (x : Holding). x.freed) a.holding

pub settled_kept : {p q : PassState} {s : Step} → Acts p s q → leaves_steady s ≡ true → Settled p → Settled q
settled_kept a h x = grind (arith, freed_kept, steady_behind)

-- gates that aren't held

abbrev pub NoneHeld : PassState → Type 0
NoneHeld p = (i : ℕ) → i < p.table.config.callers → slice_index (now_of p).words.gates i ≢ 2

abbrev pub OnlyHeld : ℕ → PassState → Type 0
OnlyHeld j p = (i : ℕ) → i < p.table.config.callers → i ≢ j → slice_index (now_of p).words.gates i ≢ 2

pub none_held_is : (p : PassState) → none_is_held p.table.config.callers (now_of p).words ≡ true → NoneHeld p
none_held_is p h = none_held p.table.config (now_of p).words h

config_kept : {p q : PassState} {s : Step} → Acts p s q → q.table.config ≡ p.table.config
config_kept a = ap (λ (r : PassState). r.table.config) a.makes.is

within : (p q : PassState) (s : Step) (a : Acts p s q) (i : ℕ) → i < q.table.config.callers → i < p.table.config.callers
within p q s a i lt = subst (λ (c : Config). i < c.callers) (config_kept a) lt

zero_there : (xs : List ℕ) (i : ℕ) → slice_index (slice_set xs i 0) i ≢ 2
zero_there xs i two = by (cases_lt i (length xs))
  where
    by : (i < length xs) ⊎ (length xs ≤ i) → ⊥
    by (inl lt) = let z = get_or-set_same xs i 0 0 lt in absurd (omega arith)
    by (inr past) = let z = get_or_past (slice_set xs i 0) i 0 (subst (λ (n : ℕ). n ≤ i) (sym (length-set xs i 0)) past)
        in absurd (omega arith)

hold_elsewhere : {p q : PassState} {j : ℕ} (a : Acts p (Step.Hold j) q) (i : ℕ) → i ≢ j
    → slice_index (now_of q).words.gates i ≡ slice_index (world_at a.makes).now.words.gates i
hold_elsewhere {j = j} a i other =
    ap (λ (w : World). slice_index w.now.words.gates i) a.world
    ∙ get_or-set_other (world_at a.makes).now.words.gates j i _ 0 other

open_elsewhere : {p q : PassState} {j : ℕ} (a : Acts p (Step.Open j) q) (i : ℕ) → i ≢ j
    → slice_index (now_of q).words.gates i ≡ slice_index (world_at a.makes).now.words.gates i
open_elsewhere {j = j} a i other =
    ap (λ (w : World). slice_index w.now.words.gates i) a.world
    ∙ get_or-set_other (world_at a.makes).now.words.gates j i 0 0 other

-- a gate after another is held, and after one is opened
hold_frees : {p q : PassState} {j : ℕ} → Acts p (Step.Hold j) q → (i : ℕ) → i ≢ j
    → slice_index (now_of p).words.gates i ≢ 2 → slice_index (now_of q).words.gates i ≢ 2
hold_frees {p} {q} {j} a i other free two = a.turn.other_gates i free (sym (hold_elsewhere a i other) ∙ two)

open_frees : {p q : PassState} {j : ℕ} → Acts p (Step.Open j) q → (i : ℕ)
    → (i ≢ j → slice_index (now_of p).words.gates i ≢ 2) → slice_index (now_of q).words.gates i ≢ 2
open_frees {p} {q} {j} a i free two = elim (cases_eq i j) [
  | inl same ↦ zero_there (world_at a.makes).now.words.gates j
      (sym (ap (λ (k : ℕ). slice_index (slice_set (world_at a.makes).now.words.gates j 0) k) same)
      ∙ sym (ap (λ (w : World). slice_index w.now.words.gates i) a.world) ∙ two)
  | inr other ↦ a.turn.other_gates i (free other) (sym (open_elsewhere a i other) ∙ two)
]

pub hold_leaves : {p q : PassState} {j : ℕ} → Acts p (Step.Hold j) q → NoneHeld p → OnlyHeld j q
hold_leaves {p} {q} {j} a h i lt other = hold_frees a i other (h i (within p q (Step.Hold j) a i lt))

pub look_leaves : {p q : PassState} (j : ℕ) {x : Word} → Acts p (Step.Look x) q → OnlyHeld j p → OnlyHeld j q
look_leaves j a h i lt other two = grind (arith, within)

pub open_leaves : {p q : PassState} {j : ℕ} → Acts p (Step.Open j) q → OnlyHeld j p → NoneHeld q
open_leaves {p} {q} {j} a h i lt = open_frees a i (h i (within p q (Step.Open j) a i lt))

-- a `hold` that finds the caller in its call holds nothing
pub miss_leaves : {p q : PassState} {j : ℕ} → Acts p (Step.Hold j) q → is_held (now_of q).words j ≡ false → NoneHeld p
    → NoneHeld q
miss_leaves {p} {q} {j} a not_held h i lt two = elim (cases_eq i j) [
  | inl same ↦ eqb-false _ 2 not_held (sym (ap (λ (k : ℕ). slice_index (now_of q).words.gates k) same) ∙ two)
  | inr other ↦ hold_leaves a h i lt other two
]

pub settled : {p : PassState} → MayGiveBack p → Settled p
settled x = x.settled

pub given_back : {p : PassState} → Settled p → NoneHeld p → MayGiveBack p
given_back x h = grind (arith, all_from, ne_eqb)

-- a gate that is held stays so
pub look_holds : {p q : PassState} (j : ℕ) {x : Word} → Acts p (Step.Look x) q → is_held (now_of p).words j ≡ true
    → is_held (now_of q).words j ≡ true
look_holds j a held = grind (arith, eq-eqb, eqb-true)

-- The tallies of what was counted stay tidy.

counts_nothing : (c : Config) (w : World) (s : Step) → leaves_steady s ≡ true
    → CountsNothing c w (record { seat = Host; step = s })
counts_nothing c w s h = grind (arith, steady_behind)

tidy_behind_others : {c : Config} {es fs : List Event} → steady_of (left c fs) ≡ steady_of (left c es)
    → CountsAreLeft c es fs → TalliesAreTidy c es → TalliesAreTidy c fs
tidy_behind_others same counts t = grind arith

pub tidy_kept : {p q : PassState} {s : Step} → Acts p s q → p.seat ≡ Host → leaves_steady s ≡ true
    → TalliesAreTidy p.table.config p.seen → TalliesAreTidy q.table.config q.seen
tidy_kept {p} {q} {s} a host h t =
    let c : Config = p.table.config in
    let fs : List Event = p.seen ++ a.makes.others in
    let e : Event = record { seat = Host; step = s } in
    let behind : TalliesAreTidy c (fs ++ e ∷ []) =
    counts_tidy_more c fs e (counts_nothing c _ s h) (tidy_behind_others a.turn.steady a.counts t) in
    let seen_is : q.seen ≡ fs ++ e ∷ [] = cc (a.makes.is, host) in
    subst (λ (d : Config). TalliesAreTidy d q.seen) (sym (config_kept a))
    (subst (λ (es : List Event). TalliesAreTidy c es) (sym seen_is) behind)

-- The host may make the step, in its turn.
host_step : (p : PassState) (s : Step) → p.seat ≡ Host → Holds p.table.config (now_of p) p.seat
    → is_open_to Host (group_of s) ≡ true → comes_next_to_host true s ≡ true
    → is_in_range p.table.config Host at_rest s ≡ true
    → has_gates p.table.config (now_of p).words Host at_rest s ≡ true → has_phase (phase_of (now_of p).words) s ≡ true
    → marker_may p.table.config outside s ≡ true → holder_may p.table.config (now_of p) at_rest s ≡ true
    → IsEnabledTo p s
host_step p s host holds kind next range gates phase marker holder = grind (arith, meets_enabled, eq-eqb)

pub hold_may : (p : PassState) (j : ℕ) → p.seat ≡ Host → Holds p.table.config (now_of p) p.seat
    → j < p.table.config.callers → NoneHeld p → IsEnabledTo p (Step.Hold j)
hold_may p j host holds lt none = grind (arith, host_step, and_from, lt-ltb, ne_eqb)

pub look_may : (p : PassState) (j r : ℕ) → p.seat ≡ Host → Holds p.table.config (now_of p) p.seat
    → j < p.table.config.callers → r < 8 → is_held (now_of p).words j ≡ true → IsEnabledTo p (Step.Look (Word.Reg j r))
look_may p j r host holds lt few held = grind (arith, host_step, and_from, lt-ltb)

not_closed : (n : ℕ) → has_phase n Step.Give ≡ true → not (n == 3) ≡ true
not_closed n h = ap not (ne_eqb n 3 (λ three. true≢false (sym h ∙ ap (λ (k : ℕ). has_phase k Step.Give) three)))

-- Gates are held one after the other, and opened so.

stays_held : {p q : PassState} {s : Step} (a : Acts p s q) (i : ℕ) → slice_index (now_of q).words.gates i ≡ slice_index
    (world_at a.makes).now.words.gates i → is_held (now_of p).words i ≡ true → is_held (now_of q).words i ≡ true
stays_held a i same held = grind (arith, eq-eqb, eqb-true)

pub holds_one_more : {p q : PassState} {j : ℕ} → HoldsBelow p j → Acts p (Step.Hold j) q
    → is_held (now_of q).words j ≡ true → HoldsBelow q (j + 1)
holds_one_more {p} {q} {j} h a now = record {
  held = λ i lt. elim (cases_eq i j) [
    | inl same ↦ subst (λ (k : ℕ). is_held (now_of q).words k ≡ true) (sym same) now
    | inr other ↦ stays_held a i (hold_elsewhere a i other) (h.held i (omega arith))
  ];
  free = λ i le lt. hold_frees a i (λ e. omega arith) (h.free i (omega arith) (within p q (Step.Hold j) a i lt));
}

pub opens_last : {p q : PassState} {j : ℕ} → HoldsBelow p (j + 1) → Acts p (Step.Open j) q → HoldsBelow q j
opens_last {p} {q} {j} h a = record {
  held = λ i lt. (let other : i ≢ j = λ e. omega arith in
      stays_held a i (open_elsewhere a i other) (h.held i (omega arith)));
  free = λ i le lt. open_frees a i (λ other. h.free i (omega arith) (within p q (Step.Open j) a i lt));
}

-- The gates of the callers below one are held, and all else is as at first.
pub record HoldsSoFar (t : WordsState) (first now : PassState) (caller : ℕ) : Type 0 where
  pub one_table : now.table ≡ t
  pub settled : Settled now
  pub within : caller ≤ t.config.callers
  pub holds : HoldsBelow now caller
  pub tidy : StaysTidy first now

pub holds_on : {t : WordsState} {first p q : PassState} {k j : ℕ} {s : Step} → Acts p s q → leaves_steady s ≡ true
    → HoldsSoFar t first p k → j ≤ t.config.callers → HoldsBelow q j → HoldsSoFar t first q j
holds_on {s = s} a alone before within holds = record {
  one_table = ap (λ (r : PassState). r.table) a.makes.is ∙ before.one_table;
  settled = settled_kept a alone before.settled;
  within = within;
  holds = holds;
  tidy = λ t. tidy_kept a before.settled.seat alone (before.tidy t);
}

pub holds_none : (p : PassState) → none_is_held p.table.config.callers (now_of p).words ≡ true → HoldsBelow p 0
holds_none p h = record { held = λ i lt. absurd (omega arith); free = λ i le lt. none_held_is p h i lt }

pub none_below : {p : PassState} → Settled p → HoldsBelow p 0 → MayGiveBack p
none_below {p} x h = given_back x (λ i lt. h.free i (omega arith) lt)

pub all_are_held : (p : PassState) → p.seat ≡ Host → HoldsBelow p p.table.config.callers
    → others_are_held p.table.config.callers (now_of p).words p.seat ≡ true
all_are_held p host h = grind (arith, all_from)

pub others_may_open : {p : PassState} → Settled p → Holds p.table.config (now_of p) p.seat
    → HoldsBelow p p.table.config.callers → OthersMayOpen p 0
others_may_open {p} x holds h j le lt other = grind (arith, host_step, and_from, lt-ltb, not_closed)
