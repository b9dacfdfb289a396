-- A Free that isn't decided yet: its turn, in which nothing was freed so far.
use Rattle.std.specs.Prelude.{⊤}
use Rattle.mk_caller.proofs.Below.Laws.Vocabulary.{Stage, at_rest, begun, eqb-true, found, freed_cell, get_or-set_other}
use Rattle.mk_caller.proofs.Below.Laws.Vocabulary.{get_or-set_same, is_free_at, progress_freed, progress_reg, set_past}
use Rattle.mk_caller.proofs.Below.Laws.Vocabulary.{slice_index_or, slice_set, still, ◌==◌}
use Rattle.mk_caller.proofs.Below.Laws.Basics.{InCall, View, at_first, flight_in, same_holder, standing, standing_at}
use Rattle.mk_caller.proofs.Below.Laws.Longer.{gives_turn, left_in_turn, longer_turn}
use Rattle.mk_caller.proofs.Below.Laws.ProtocolMoves.{Enters, Gives, GoesOn, Leaves, Move, Stays, Takes, Works}
use Rattle.mk_caller.proofs.Below.Laws.Services.{Fills, Frees, Goes, Grants, Loads, Places, Service}
use Rattle.mk_caller.proofs.{Below.Laws.OrderlyLists.event_moves, Below.Laws.Standings.UnderTurn}
use Rattle.mk_alloc.proofs.QuarantineVocabulary.{Bool, Caller, Cell, Config, Event, Flight, Holding, Host, IsHistory}
use Rattle.mk_alloc.proofs.QuarantineVocabulary.{KeptByEvents, Known, List, Marker, Meets, None, OfHistories, Op}
use Rattle.mk_alloc.proofs.QuarantineVocabulary.{Option, Seat, Some, Step, TurnOf, World, WorldBehind, ℕ, and_parts, ap}
use Rattle.mk_alloc.proofs.QuarantineVocabulary.{arith, at_no_take, before_it, cases_eq, cases_lt, comes_next}
use Rattle.mk_alloc.proofs.QuarantineVocabulary.{decides_freed, eq-eqb, false, false_from_ne_true, first_world}
use Rattle.mk_alloc.proofs.QuarantineVocabulary.{flight_of, free_has_turn, holds_of_histories, if◌then◌else◌, inl, inr}
use Rattle.mk_alloc.proofs.QuarantineVocabulary.{is_give, is_some, is_undecided_free, known_left, left, left_more}
use Rattle.mk_alloc.proofs.QuarantineVocabulary.{length, refl, reg_leaves, subst, sym, taken, tally_keeps, true}
use Rattle.mk_alloc.proofs.QuarantineVocabulary.{true≢false, view_of, world_behind, [], ◌&&◌, ◌++◌, ◌+◌, ◌<◌, ◌∙◌, ◌∷◌}
use Rattle.mk_alloc.proofs.QuarantineVocabulary.{◌≡◌}
use Rattle.mk_core.specs.History.{left_from}

-- before the event that decides it

abbrev pub is_open_at : Stage → Op → Bool
is_open_at Stage.LoadP (Op.Free p) = true
is_open_at Stage.Turn (Op.Free p) = true
is_open_at _ _ = false

abbrev pub is_open_free : Flight → Bool
is_open_free f = is_open_at f.stage f.op

abbrev HasOpen : World → ℕ → Type 0
HasOpen w k = is_open_free (flight_of w.now (Caller k)) ≡ true

open_stands : (s : Stage) (o : Op) → is_open_at s o ≡ true → standing_at s o ≡ UnderTurn
open_stands x1 x2 h = grind arith

pub undecided_is_open : (s : Stage) (o : Op) → is_free_at s o ≡ true → is_open_at s o ≡ true
undecided_is_open x1 x2 h = grind arith

call_not_open : (f : Flight) → standing f ≡ InCall → is_open_free f ≡ true → ⊥
call_not_open f is waits = grind (arith, open_stands)

give_not_open : (o : Op) → is_open_at Stage.Give o ≡ true → ⊥
give_not_open o h = cc

-- Where it comes from, by what the protocol reads.

data Came (v : View) (k : ℕ) (n : View) : Type 0 where
  Stayed : flight_in n k ≡ flight_in v k → Came v k n
  Took : v.turn ≡ 0 → n.turn ≡ 1 + k → Came v k n
  Loaded : (flight_in v k).stage ≡ Stage.LoadP → standing (flight_in v k) ≡ UnderTurn → Came v k n

abbrev call_in : List Flight → ℕ → Flight
call_in fs k = slice_index_or fs k at_rest

own_call : (fs : List Flight) (k : ℕ) (f : Flight) → (is_open_free f ≡ true → f ≡ call_in fs k)
    → is_open_free (call_in (slice_set fs k f) k) ≡ true → call_in (slice_set fs k f) k ≡ call_in fs k
own_call fs k f same waits = elim (cases_lt k (length fs)) [
  | inl lt ↦
      let now : call_in (slice_set fs k f) k ≡ f = get_or-set_same fs k f at_rest lt in
      now ∙ same (ap (λ (x : Flight). is_open_free x) (sym now) ∙ waits)
  | inr past ↦ ap (λ (xs : List Flight). call_in xs k) (set_past fs k f past)
]

came : (c : Config) (v : View) (k : ℕ) (n : View) → Move c v (Caller k) n → is_open_free (flight_in n k) ≡ true
    → Came v k n
came c v k n Stays waits = Stayed refl
came c v k n (Enters f lt z was is) waits = Stayed (own_call v.flights k f (λ x. absurd (call_not_open f is x)) waits)
came c v k n (GoesOn f lt was is) waits = Stayed (own_call v.flights k f (λ x. absurd (call_not_open f is x)) waits)
came c v k n (Leaves lt was) waits = Stayed (own_call v.flights k at_rest (λ x. cc) waits)
came c v k n (Takes f z may) waits = Took z refl
came c v k n (Gives t none at) waits = Stayed (own_call v.flights k at_rest (λ x. cc) waits)
came c v k n (Works f i t s) waits = by f i s waits
  where
    by : (f : Flight) (i : Holding) → Service (flight_in v k) v.holding f i
        → is_open_free (call_in (slice_set v.flights k f) k) ≡ true
        → Came v k (record v { flights = slice_set v.flights k f; holding = i })
    by f i (Goes _ p q) waits = Stayed (own_call v.flights k (flight_in v k) (λ x. refl) waits)
    by f i (Loads _ at stands other) waits = Loaded at t.1
    by f i (Places _ was p q) waits = Stayed (own_call v.flights k (flight_in v k) (λ x. refl) waits)
    by f i (Fills was p) waits = grind (arith, own_call, give_not_open, flight_in)
    by f i (Grants was) waits = Stayed (own_call v.flights k _ (λ x. absurd (give_not_open (flight_in v k).op x)) waits)
    by f i (Frees _ free p) waits = grind (arith, own_call, give_not_open, flight_in)
came c v k n _ waits = Stayed refl

-- A free turn is taken by a `take` alone (as in `Undecided` of mk_laws).

record IsTake (x : Step) : Type 0 where
  op : Option Op
  is : x ≡ Step.Take op

taken_by_take : (c : Config) (w : World) (seat : Seat) (x : Step) (n : ℕ) → w.now.words.turn ≡ 0
    → (WorldBehind c w seat x).now.words.turn ≡ 1 + n → IsTake x
taken_by_take c w seat x4 n free now = grind (arith, reg_leaves, tally_keeps)

-- Where it comes from, by events.
data FreeCame (c : Config) (w : World) (seat : Seat) (x : Step) (k : ℕ) : Type 0 where
  IsTaken : (o : Op) → seat ≡ Caller k → x ≡ Step.Take (Some o) → w.now.words.turn ≡ 0
      → (flight_of (WorldBehind c w seat x).now (Caller k)).op ≡ o → FreeCame c w seat x k
  WasOpen : HasOpen w k
      → (flight_of (WorldBehind c w seat x).now (Caller k)).op ≡ (flight_of w.now (Caller k)).op
      → FreeCame c w seat x k

load_by_reg : (o : Op) (x : Step) → comes_next Stage.LoadP o x ≡ true → x ≡ Step.Reg
load_by_reg o x1 h = grind arith

module _ (c : Config) (w : World) (k : ℕ) (known : Known c w.now) (lt : k < c.callers) where
  abbrev f : Flight
  f = flight_of w.now (Caller k)

  within : k < length w.now.seats.flights
  within = omega (arith, known.orderly.flights)

  taken_free : (o : Option Op) → w.now.words.turn ≡ 0 → Meets c w.now (Caller k) (Step.Take o)
      → FreeCame c w (Caller k) (Step.Take o) k
  taken_free (Some o) free meets = IsTaken o refl refl free (
      ap (λ (g : Flight). g.op) (get_or-set_same w.now.seats.flights k _ at_rest within)
      ∙ ap (λ (b : Bool). (if b then record { flight = begun o; answer = None } else still f).flight.op)
      (eq-eqb w.now.words.turn 0 free))
  taken_free None free meets = absurd (at_no_take f.stage f.op meets.order)

  loaded : f.stage ≡ Stage.LoadP → standing f ≡ UnderTurn → FreeCame c w (Caller k) Step.Reg k
  loaded at stands =
      WasOpen (grind (arith, is_open_at, standing_at)) (ap (λ (g : Flight). g.op)
      (get_or-set_same w.now.seats.flights k _ at_rest within) ∙ ap (λ (s : Stage). (progress_reg f s
      (found c w.now (record { seat = Caller k; step = Step.Reg }))).flight.op) at ∙ (grind arith))

  own_came : (x : Step) → Meets c w.now (Caller k) x → HasOpen (WorldBehind c w (Caller k) x) k
      → FreeCame c w (Caller k) x k
  own_came x meets waits =
      by (came c (view_of w.now) k (view_of (WorldBehind c w (Caller k) x).now)
      (event_moves c w.now (Caller k) x known.orderly meets) waits)
    where
      by : Came (view_of w.now) k (view_of (WorldBehind c w (Caller k) x).now) → FreeCame c w (Caller k) x k
      by (Stayed same) = grind (arith, is_open_free)
      by (Took free now) =
          let take = taken_by_take c w (Caller k) x k free now in
          subst (λ (y : Step). FreeCame c w (Caller k) y k) (sym take.is)
          (taken_free take.op free (subst (λ (y : Step). Meets c w.now (Caller k) y) take.is meets))
      by (Loaded at stands) = grind (arith, load_by_reg, loaded)

free_came : {c : Config} (w : World) (seat : Seat) (x : Step) (k : ℕ) → Known c w.now → Meets c w.now seat x
    → k < c.callers → HasOpen (WorldBehind c w seat x) k → FreeCame c w seat x k
free_came w (Marker j) x k known meets lt waits = WasOpen waits refl
free_came w Host x k known meets lt waits = WasOpen waits refl
free_came {c} w (Caller j) x k known meets lt waits = elim (cases_eq k j) [
  | inr ne ↦
      let same = get_or-set_other w.now.seats.flights j k _ at_rest ne in
      WasOpen (ap (λ (g : Flight). is_open_free g) (sym same) ∙ waits) (ap (λ (g : Flight). g.op) same)
  | inl own ↦
      subst (λ i. Meets c w.now (Caller i) x → HasOpen (WorldBehind c w (Caller i) x) k → FreeCame c w (Caller i) x k)
      own (own_came c w k known lt x) meets waits
]

-- The event that frees an object decides its Free.

pub freer_has_free : (c : Config) (w : World) (seat : Seat) (x : Step)
    → decides_freed c w.now (flight_of w.now seat) x ≡ true → is_undecided_free (flight_of w.now seat) ≡ true
freer_has_free c w seat x4 h = grind (arith, freed_cell)

decided_gives : (c : Config) (w : World) (k : ℕ) (x : Step) → k < length w.now.seats.flights
    → decides_freed c w.now (flight_of w.now (Caller k)) x ≡ true → HasOpen (WorldBehind c w (Caller k) x) k → ⊥
decided_gives c w k (Step.Quar p v) within h waits =
    by _ h (ap (λ (g : Flight). is_open_free g) (sym (get_or-set_same w.now.seats.flights k _ at_rest within)) ∙ waits)
  where
    by : (cell : Option Cell) → is_some cell ≡ true
        → is_open_free (progress_freed (flight_of w.now (Caller k)) cell).flight ≡ true → ⊥
    by x1 h waits = grind (arith, give_not_open)
decided_gives c w k _ within h waits = cc

-- Where the Free is open after it, the event has freed nothing,
frees_off : {c : Config} (w : World) (seat : Seat) (x : Step) (k : ℕ) → Known c w.now → Meets c w.now seat x
    → k < c.callers → HasOpen w k → HasOpen (WorldBehind c w seat x) k
    → decides_freed c w.now (flight_of w.now seat) x ≡ false
frees_off {c} w seat x k known meets lt was waits =
    false_from_ne_true (decides_freed c w.now (flight_of w.now seat) x) (λ frees.
    let holds = free_has_turn c w.now seat meets.seat (freer_has_free c w seat x frees) in
    let same : seat ≡ Caller k = grind (arith, same_holder, view_of, open_stands) in
    grind (arith, decided_gives))

-- and given no turn of its caller back.
gives_off : {c : Config} (w : World) (seat : Seat) (x : Step) (k : ℕ) → Known c w.now → k < c.callers
    → HasOpen (WorldBehind c w seat x) k → gives_turn (Caller k) (record { seat = seat; step = x }) ≡ false
gives_off {c} w (Caller j) x k known lt waits =
    false_from_ne_true ((k == j) && is_give x)
    (λ is. let both = and_parts (k == j) (is_give x) is in by j x (eqb-true k j both.0) both.1 waits)
  where
    by : (j : ℕ) (x : Step) → k ≡ j → is_give x ≡ true → HasOpen (WorldBehind c w (Caller j) x) k → ⊥
    by j Step.Give own is waits =
        let rests = get_or-set_same w.now.seats.flights k at_rest at_rest (omega (arith, known.orderly.flights)) in
        true≢false (sym (grind arith) ∙ ap (λ (g : Flight). is_open_free g) rests)
    by j _ own is waits = cc
gives_off w _ x k known lt waits = refl

-- No event of the list frees an object.
unfoldable pub FreesNoneFrom : Config → World → List Event → Type 0
FreesNoneFrom c w [] = ⊤
FreesNoneFrom c w (e ∷ es) = (decides_freed c w.now (flight_of w.now e.seat) e.step ≡ false)
    × FreesNoneFrom c (world_behind c w e) es

frees_none_more : (c : Config) (w : World) (es : List Event) (e : Event) → FreesNoneFrom c w es → decides_freed c
    (left_from c w es).now (flight_of (left_from c w es).now e.seat) e.step ≡ false → FreesNoneFrom c w (es ++ e ∷ [])
unfolding FreesNoneFrom left_from
frees_none_more c w [] e none last = (last, tt)
frees_none_more c w (x ∷ es) e none last = (none.0, frees_none_more c (world_behind c w x) es e none.1 last)

pub frees_none_at : (c : Config) (w : World) (xs : List Event) (e : Event) (ys : List Event) → FreesNoneFrom c w
    (xs ++ e ∷ ys) → decides_freed c (left_from c w xs).now (flight_of (left_from c w xs).now e.seat) e.step ≡ false
unfolding FreesNoneFrom left_from
frees_none_at c w [] e ys none = none.0
frees_none_at c w (x ∷ xs) e ys none = frees_none_at c (world_behind c w x) xs e ys none.1

-- The turn of an open Free: it was taken for it, and has freed nothing.
pub record OpenFree (c : Config) (es : List Event) (w : World) (k : ℕ) : Type 0 where
  pub turn : TurnOf c (Caller k) es
  pub op : turn.op ≡ Some (flight_of w.now (Caller k)).op
  pub none : FreesNoneFrom c (left c (turn.before ++ taken turn ∷ [])) turn.behind

abbrev pub OpenFreesHaveTurns : Config → List Event → Type 0
OpenFreesHaveTurns c es = (k : ℕ) → k < c.callers → HasOpen (left c es) k → OpenFree c es (left c es) k

one_behind : {c : Config} {es : List Event} {seat : Seat} {x : Step} {k : ℕ} → FreeCame c (left c es) seat x k
    → OpenFreesHaveTurns c es → IsHistory c es → Meets c (left c es).now seat x → k < c.callers
    → HasOpen (WorldBehind c (left c es) seat x) k
    → OpenFree c (es ++ record { seat = seat; step = x } ∷ []) (WorldBehind c (left c es) seat x) k
unfolding FreesNoneFrom
one_behind {es} (IsTaken o own take free same) all h meets lt waits = record {
  turn = record { before = es; op = Some o; behind = []; is = cc (own, take); took = free; goes_on = refl };
  op = ap Some (sym same);
  none = tt;
}
one_behind {c} {es} {seat} {x} {k} (WasOpen was same) all h meets lt waits =
    let e : Event = record { seat = seat; step = x } in
    let known = known_left c es h.within_limits h.enabled in
    let t : OpenFree c es (left c es) k = all k lt was in
    let on = gives_off (left c es) seat x k known lt waits in
    let here = left_in_turn c (Caller k) es t.turn in
    record {
      turn = longer_turn t.turn e on;
      op = t.op ∙ ap Some (sym same);
      none =
          frees_none_more c (left c (t.turn.before ++ taken t.turn ∷ [])) t.turn.behind e t.none
          (ap (λ (w : World). decides_freed c w.now (flight_of w.now seat) x) here
          ∙ frees_off (left c es) seat x k known meets lt was waits);
    }

one_more : KeptByEvents OpenFreesHaveTurns
one_more c es e h all k lt waits =
    let here = before_it c (es ++ e ∷ []) es e [] h refl in
    let more : left c (es ++ e ∷ []) ≡ world_behind c (left c es) e = left_more c (first_world c) es e in
    let behind : HasOpen (world_behind c (left c es) e) k = subst (λ (w : World). HasOpen w k) more waits in
    let known = known_left c es here.0.within_limits here.0.enabled in
    let came = free_came (left c es) e.seat e.step k known here.1 lt behind in
    subst (λ (w : World). OpenFree c (es ++ e ∷ []) w k) (sym more) (one_behind came all here.0 here.1 lt behind)

at_the_first : (c : Config) → OpenFreesHaveTurns c []
unfolding left_from
at_the_first c k lt waits = grind (arith, is_open_free, at_first)

pub open_frees_have_turns : OfHistories OpenFreesHaveTurns
open_frees_have_turns = holds_of_histories OpenFreesHaveTurns at_the_first one_more
