-- Gates are held and opened, one after the other.
use Rattle.std.proofs.Common.{le-ltb}
use Rattle.mk_caller.proofs.Below.Laws.Vocabulary.{Bool, Caller, Config, Flight, List, Page, Seat, Stage, Steady, Step}
use Rattle.mk_caller.proofs.Below.Laws.Vocabulary.{Tally, Word, Words, World, ℕ, all_below-at, ap, arith, cases_Bool}
use Rattle.mk_caller.proofs.Below.Laws.Vocabulary.{cases_eq, cases_lt, false, flight_of, free_page, get_or-set_other}
use Rattle.mk_caller.proofs.Below.Laws.Vocabulary.{get_or-set_same, header_of, inl, inr, is_held, is_number_of, length}
use Rattle.mk_caller.proofs.Below.Laws.Vocabulary.{lt-ltb, nat_lt, not, not-true, others_are_held, refl, run_headed}
use Rattle.mk_caller.proofs.Below.Laws.Vocabulary.{slice_index, slice_index_or, subst, sym, true, world_behind, []}
use Rattle.mk_caller.proofs.Below.Laws.Vocabulary.{◌&&◌, ◌+◌, ◌<◌, ◌==◌, ◌||◌, ◌∙◌, ◌≡◌, ◌≢◌}
use Rattle.mk_caller.specs.Below.Words.States.{TurnState}
use Rattle.mk_cycle.proofs.HeldGates.{others_stay}
use Rattle.mk_cycle.specs.Stops.{HoldsSuch, HolderIsLoaded, is_loaded, is_loaded_at}
use Rattle.mk_alloc.proofs.ObjectVocabulary.{Acts, Changes, ComesTo, HasGates, IsAsLeft, IsOutOfStop, IsTurn, PassState}
use Rattle.mk_alloc.proofs.ObjectVocabulary.{SetsGate, SetsGates, SetsTally, WordsState, all_others, call_of}
use Rattle.mk_alloc.proofs.ObjectVocabulary.{decides_nothing, held_from, is_acting, is_holding, is_settling}
use Rattle.mk_alloc.proofs.ObjectVocabulary.{none_is_held, now_of, steady_of, with_tally, world_of}
use Rattle.mk_alloc.proofs.{Unchanged.{HasCall, OfCaller, acting_has_call, call_behind}, LoadedFrees.value_kept}
use Rattle.mk_alloc.proofs.{JoinedLooks.{reached_there, reaches_after, reaches_so}, Looks.{acting_caller, acting_now}}
use Rattle.mk_alloc.proofs.{Looks.still_acting, Reaching.{reaches_first, reaches_nothing}, Serves.out_of_stop}
use Rattle.mk_alloc.specs.{FreeParts.{GateIsSet, HasRunAt, HoldsOthers, IsButGates}, Retiring.KeepsValues}

-- A tally is set.

changed_by : {s : Seat} {w v u : World} (change : Steady → Steady) → IsAsLeft s w v
    → flight_of u.now s ≡ flight_of v.now s → u.now.seats.holding ≡ v.now.seats.holding
    → steady_of u ≡ change (steady_of v) → u.now.words.gates ≡ v.now.words.gates → Changes s change w u
changed_by change kept call holding steady gates = record {
  call = call ∙ kept.call;
  holding = holding ∙ kept.holding;
  steady = steady ∙ ap change kept.steady;
  gates = λ j. ap (λ (xs : List ℕ). slice_index xs j == 2) gates ∙ kept.gates j;
}

tally_behind : {c : Config} {s : Seat} {w v : World} (t : Tally) (n : ℕ) → IsAsLeft s w v → HasCall c v.now s
    → Changes s (with_tally t n) w (world_behind c v (record { seat = s; step = Step.Tally t n }))
tally_behind {c} {w} {v} t n kept (OfCaller k lt) = by t (call_behind c v.now k (Step.Tally t n) lt)
  where
    after : Tally → World
    after t = world_behind c v (record { seat = Caller k; step = Step.Tally t n })

    by : (t : Tally) → flight_of (after t).now (Caller k) ≡ flight_of v.now (Caller k)
        → Changes (Caller k) (with_tally t n) w (after t)
    by x0 call = grind (arith, changed_by)

pub sets_tally : {p q : PassState} {t : Tally} {n : ℕ} → IsTurn p → is_acting (call_of p).stage ≡ true
    → Acts p (Step.Tally t n) q → SetsTally p t n q
sets_tally {p} {t} {n} turn acts a =
    reaches_first _ a refl refl (acting_caller p acts) refl (λ v kept known pages. tally_behind t n kept
    (acting_has_call known.orderly.flights (still_acting (acting_now turn acts) kept)))

-- One gate may have changed.
record AllButOne (s : Seat) (gate : ℕ) (w v : World) : Type 0 where
  but_gates : IsButGates s w v
  others : (j : ℕ) → j ≢ gate → is_held v.now.words j ≡ is_held w.now.words j

hold_behind : {c : Config} {s : Seat} {w v : World} (gate : ℕ) → IsAsLeft s w v → HasCall c v.now s
    → AllButOne s gate w (world_behind c v (record { seat = s; step = Step.Hold gate }))
hold_behind {c} {v} gate kept (OfCaller k lt) = record {
  but_gates = record {
    call = call_behind c v.now k (Step.Hold gate) lt ∙ kept.call;
    holding = kept.holding;
    steady = kept.steady;
  };
  others = λ j ne. ap (λ (n : ℕ). n == 2) (get_or-set_other v.now.words.gates gate j _ 0 ne) ∙ kept.gates j;
}

open_behind : {c : Config} {s : Seat} {w v : World} (gate : ℕ) → IsAsLeft s w v → HasCall c v.now s
    → gate < length v.now.words.gates
    → GateIsSet s gate false w (world_behind c v (record { seat = s; step = Step.Open gate }))
open_behind {c} {v} gate kept (OfCaller k lt) room = record {
  but_gates = record {
    call = call_behind c v.now k (Step.Open gate) lt ∙ kept.call;
    holding = kept.holding;
    steady = kept.steady;
  };
  set = ap (λ (n : ℕ). n == 2) (get_or-set_same v.now.words.gates gate 0 0 room);
  others = λ j ne. ap (λ (n : ℕ). n == 2) (get_or-set_other v.now.words.gates gate j 0 0 ne) ∙ kept.gates j;
}

module _ {p : PassState} (turn : IsTurn p) (acts : is_acting (call_of p).stage ≡ true) where
  has_call : {v : World} → IsAsLeft p.seat (world_of p) v → length v.now.seats.flights ≡ p.table.config.callers
      → HasCall p.table.config v.now p.seat
  has_call kept count = acting_has_call count (still_acting (acting_now turn acts) kept)

  pub sets_hold : {q : PassState} {gate : ℕ} {held : Bool} → Acts p (Step.Hold gate) q
      → is_held (now_of q).words gate ≡ held → SetsGate is_holding p gate held q
  sets_hold {gate} a is =
      let step = reaches_first (AllButOne p.seat gate (world_of p)) a refl refl (acting_caller p acts) refl
      (λ v kept known pages. hold_behind gate kept (has_call kept known.orderly.flights)) in
      reaches_so step (λ all. record {
        but_gates = all.but_gates;
        set = ap (λ (x : PassState). is_held (now_of x).words gate) (sym step.same) ∙ is;
        others = all.others;
      })

  pub sets_open : {q : PassState} {gate : ℕ} → Acts p (Step.Open gate) q → gate < p.table.config.callers
      → SetsGate is_settling p gate false q
  sets_open {gate} a within =
      reaches_first (GateIsSet p.seat gate false (world_of p)) a refl refl (acting_caller p acts) refl
      (λ v kept known pages. open_behind gate kept (has_call kept known.orderly.flights) (omega arith))

-- one part after another

pub but_gates_then : {s : Seat} {w u v : World} → IsButGates s w u → IsButGates s u v → IsButGates s w v
but_gates_then a b = grind arith

-- A gate that is so already is set so.
pub set_nothing : (kinds : Step → Bool) (p : PassState) (gate : ℕ) {held : Bool}
    → is_held (now_of p).words gate ≡ held → SetsGate kinds p gate held p
set_nothing kinds p gate {held} is =
    reaches_nothing kinds p (GateIsSet p.seat gate held (world_of p))
    (record { but_gates = record { call = refl; holding = refl; steady = refl }; set = is; others = λ j ne. refl })

pub sets_more : (kinds : Step → Bool) (p q r : PassState) (gates then : ℕ → Bool) (gate : ℕ) (held : Bool)
    → SetsGates kinds p gates q → SetsGate kinds q gate held r → ((j : ℕ) → j ≢ gate → then j ≡ gates j)
    → then gate ≡ held → SetsGates kinds p then r
sets_more kinds p q r gates then gate held a b others here =
    reaches_after (λ x h. h) (λ x h. h) (λ x. GateIsSet x.seat gate held (world_of x)) a b (λ v a b. record {
      but_gates = but_gates_then a.but_gates b.but_gates;
      held = λ j lt. elim (cases_eq j gate) [
        | inl e ↦ ap (λ i. is_held v.now.words i) e ∙ b.set ∙ sym here ∙ ap then (sym e)
        | inr ne ↦ b.others j ne ∙ a.held j lt ∙ sym (others j ne)
      ];
    })

-- the gates by other names
pub sets_named : {kinds : Step → Bool} {p q : PassState} {gates : ℕ → Bool} (then : ℕ → Bool)
    → SetsGates kinds p gates q → ((j : ℕ) → j < p.table.config.callers → gates j ≡ then j) → SetsGates kinds p then q
sets_named then a same = reaches_so a (λ x. record { but_gates = x.but_gates; held = λ j lt. x.held j lt ∙ same j lt })

pub sets_first : (kinds : Step → Bool) (p : PassState) (gates : ℕ → Bool)
    → ((j : ℕ) → j < p.table.config.callers → is_held (now_of p).words j ≡ gates j) → SetsGates kinds p gates p
sets_first kinds p gates here =
    reaches_nothing kinds p (HasGates p.seat p.table.config.callers gates (world_of p))
    (record { but_gates = record { call = refl; holding = refl; steady = refl }; held = here })

-- the gates as far as they are set

pub caller_within : {t w : WordsState} {n end : ℕ} → t ≡ w → end ≡ w.config.callers → n < end → n < t.config.callers
caller_within table all lt = grind arith

all_from : (s : Seat) (j : ℕ) → held_from s 0 j ≡ all_others s j
all_from s j = ap (λ b. not b && not (is_number_of s j)) (le-ltb j 0 (omega arith))

pub opened_so_far : (s : Seat) (n j : ℕ) → j < n → held_from s n j ≡ false
opened_so_far s n j lt = ap (λ b. not b && not (is_number_of s j)) (lt-ltb j n lt)

next_below : (n j : ℕ) → j ≢ n → nat_lt j (n + 1) ≡ nat_lt j n
next_below n j ne = grind (arith, cases_lt, lt-ltb, le-ltb)

pub opened_next : (s : Seat) (n j : ℕ) → j ≢ n → held_from s (n + 1) j ≡ held_from s n j
opened_next s n j ne = ap (λ b. not b && not (is_number_of s j)) (next_below n j ne)

pub opens_none : (p : PassState) → ((j : ℕ) → j < p.table.config.callers
    → is_held (now_of p).words j ≡ all_others p.seat j) → SetsGates is_settling p (held_from p.seat 0) p
opens_none p held = sets_first is_settling p (held_from p.seat 0) (λ j lt. held j lt ∙ sym (all_from p.seat j))

-- what the passes are after it
pub set_acting : {kinds : Step → Bool} {p q : PassState} {gates : ℕ → Bool} → SetsGates kinds p gates q
    → is_acting (call_of p).stage ≡ true → is_acting (call_of q).stage ≡ true
set_acting a acts = grind arith

pub set_held : {kinds : Step → Bool} {p q : PassState} {gates : ℕ → Bool} → SetsGates kinds p gates q
    → (j : ℕ) → j < p.table.config.callers → is_held (now_of q).words j ≡ gates j
set_held a j lt = ap (λ (x : PassState). is_held (now_of x).words j) a.same ∙ a.world.held j lt

pub set_phase : {kinds : Step → Bool} {p q : PassState} {gates : ℕ → Bool} → SetsGates kinds p gates q
    → IsOutOfStop (now_of p) → IsOutOfStop (now_of q)
set_phase a low = grind (arith, out_of_stop)

pub set_seat : {kinds : Step → Bool} {p q : PassState} {gates : ℕ → Bool} → SetsGates kinds p gates q
    → ◌≡◌ {A = Seat} q.seat p.seat
set_seat a = ap (λ (x : PassState). x.seat) a.same

pub all_yet_held : (s : Seat) (n : ℕ) → held_from s n n ≡ all_others s n
all_yet_held s n = ap (λ b. not b && not (is_number_of s n)) (le-ltb n n (omega arith))

-- Gates are looked at and held: all is as it was but gates.

abbrev ButGates : PassState → PassState → Type 0
ButGates p q = ComesTo is_holding p (λ v. IsButGates p.seat (world_of p) v) [] q

look_behind : {c : Config} {s : Seat} {w v : World} (gate : ℕ) → IsAsLeft s w v → HasCall c v.now s
    → IsButGates s w (world_behind c v (record { seat = s; step = Step.Look (Word.Gate gate) }))
look_behind {c} {v} gate kept (OfCaller k lt) = record {
  call = call_behind c v.now k (Step.Look (Word.Gate gate)) lt ∙ kept.call;
  holding = kept.holding;
  steady = kept.steady;
}

look_gates : {p q : PassState} {gate : ℕ} → IsTurn p → is_acting (call_of p).stage ≡ true
    → Acts p (Step.Look (Word.Gate gate)) q → ButGates p q
look_gates {p} {gate} turn acts a =
    reaches_first (IsButGates p.seat (world_of p)) a refl refl (acting_caller p acts) refl
    (λ v kept known pages. look_behind gate kept (has_call turn acts kept known.orderly.flights))

gates_then : {p q r : PassState} → ButGates p q → ButGates q r → ButGates p r
gates_then a b =
    reaches_after (λ x h. h) (λ x h. h) (λ x. IsButGates x.seat (world_of x)) a b (λ v a b. but_gates_then a b)

acting_then : {p q : PassState} → ButGates p q → is_acting (call_of p).stage ≡ true
    → is_acting (call_of q).stage ≡ true
acting_then a acts =
    reached_there a (λ (x : PassState). is_acting (call_of x).stage ≡ true)
    (ap (λ (f : Flight). is_acting f.stage) a.world.call ∙ acts)

such_gates : {such : ℕ → Bool} {t u : TurnState} → is_acting (call_of t.pass).stage ≡ true → HoldsSuch such t u
    → ButGates t.pass u.pass
such_gates {t = t} acts HoldsSuch.none_yet =
    reaches_nothing is_holding t.pass (IsButGates t.pass.seat (world_of t.pass))
    (record { call = refl; holding = refl; steady = refl })
such_gates acts (HoldsSuch.then_looks {u = u} j before a) =
    let first = such_gates acts before in gates_then first (look_gates u.in_order (acting_then first acts) a)
such_gates acts (HoldsSuch.then_tries {u = u} j of before a) =
    let first = such_gates acts before in
    gates_then first (reaches_so (sets_hold u.in_order (acting_then first acts) a refl) (λ x. x.but_gates))

-- and the registers of the holder's caller keep their values
pub such_values : {such : ℕ → Bool} {t u : TurnState} → is_acting (call_of t.pass).stage ≡ true → HoldsSuch such t u
    → KeepsValues t.pass u.pass
such_values acts HoldsSuch.none_yet r lt = refl
such_values acts (HoldsSuch.then_looks {u = u} j before a) r lt =
    value_kept r (acting_caller u.pass (acting_then (such_gates acts before) acts)) lt a
    (λ v kept known. decides_nothing u.pass.table.config v.now u.pass.seat (Step.Look (Word.Gate j)) refl)
    ∙ such_values acts before r lt
such_values acts (HoldsSuch.then_tries {u = u} j of before a) r lt =
    value_kept r (acting_caller u.pass (acting_then (such_gates acts before) acts)) lt a
    (λ v kept known. decides_nothing u.pass.table.config v.now u.pass.seat (Step.Hold j) refl)
    ∙ such_values acts before r lt

-- Where none was held, those of all others are held then, and no other.

gate_by : (s : Seat) (callers : ℕ) (w v : Words) → none_is_held callers w ≡ true → others_are_held callers v s ≡ true
    → ((j : ℕ) → j < callers → all_others s j ≡ false → is_held v j ≡ is_held w j)
    → (j : ℕ) → j < callers → is_held v j ≡ all_others s j
gate_by s callers w v none others left j lt = elim (cases_Bool (is_number_of s j)) [
  | inl own ↦
      left j lt (ap not own) ∙ not-true _ (all_below-at callers j (λ i. not (is_held w i)) none lt) ∙ sym (ap not own)
  | inr other ↦
      sym (ap (λ b. b || is_held v j) other)
      ∙ all_below-at callers j (λ i. is_number_of s i || is_held v i) others lt ∙ sym (ap not other)
]

pub such_sets : {w : WordsState} {t u : TurnState} → is_acting (call_of t.pass).stage ≡ true → t.pass.table ≡ w
    → none_is_held t.pass.table.config.callers (now_of t.pass).words ≡ true
    → HoldsSuch (all_others t.pass.seat) t u
    → others_are_held w.config.callers (now_of u.pass).words u.pass.seat ≡ true
    → SetsGates is_holding t.pass (all_others t.pass.seat) u.pass
such_sets {t = t} {u = u} acts table none holds others =
    let p : PassState = t.pass in
    let first = such_gates acts holds in
    let all : others_are_held p.table.config.callers (now_of u.pass).words p.seat ≡ true =
    subst (λ (s : Seat). others_are_held p.table.config.callers (now_of u.pass).words s ≡ true)
    (ap (λ (x : PassState). x.seat) first.same) (subst (λ (x : WordsState). others_are_held x.config.callers
    (now_of u.pass).words u.pass.seat ≡ true) (sym table) others) in
    let gates = gate_by p.seat p.table.config.callers (now_of p).words (now_of u.pass).words none all
    (λ j lt no. others_stay holds j lt no) in
    reaches_so first (λ but. record {
      but_gates = but;
      held = λ j lt. ap (λ (x : PassState). is_held (now_of x).words j) (sym first.same) ∙ gates j lt;
    })

pub gates_held : {p q : PassState} → SetsGates is_holding p (all_others p.seat) q → HoldsOthers q
gates_held {p} {q} a =
    subst (λ (x : PassState). HoldsOthers x) (sym a.same) (λ j lt. a.world.held j lt)

-- and the run is where it was
pub run_still : {kinds : Step → Bool} {p q : PassState} {gates : ℕ → Bool} {page count : ℕ} → SetsGates kinds p gates q
    → HasRunAt p page count → HasRunAt q page count
run_still {p = p} {q = q} {page = page} {count = count} a run =
    let same : (now_of q).words.pages ≡ (now_of p).words.pages =
    ap (λ (x : PassState). (now_of x).words.pages) a.same ∙ ap (λ (x : Steady). x.pages) a.world.but_gates.steady in
    ap (λ (ps : List Page). run_headed (header_of (slice_index_or ps page free_page).header) page) same ∙ run

-- A call that is acting has loaded what it loads.

loaded_stage : (s : Stage) → is_acting s ≡ true → is_loaded_at s ≡ true
loaded_stage x0 acts = grind arith

pub acting_ready : (p : PassState) → is_acting (call_of p).stage ≡ true → HolderIsLoaded p
acting_ready p acts = record { loaded = by p.seat (call_of p) acts }
  where
    by : (s : Seat) (f : Flight) → is_acting f.stage ≡ true → is_loaded s f ≡ true
    by (Caller k) f acts = loaded_stage f.stage acts
    by _ f acts = refl
