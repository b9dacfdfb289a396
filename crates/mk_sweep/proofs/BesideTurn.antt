-- What others do beside a turn where no marker steps: they mark nothing, and take no step of a holder.
use Rattle.std.specs.Prelude.{⊤}
use Rattle.mk_sweep.proofs.Vocabulary.{Caller, Cell, Config, Event, HasMarkers, Holds, Host, Marker, Moment, Seat}
use Rattle.mk_sweep.proofs.Vocabulary.{Steady, Step, World, has_bit, is_marked, world_behind}
use Rattle.mk_cycle.proofs.Below.Laws.Vocabulary.{Bool, IsEnabled, List, ℕ, ap, arith, cases_Bool, enabled_meets, false}
use Rattle.mk_cycle.proofs.Below.Laws.Vocabulary.{false_from_ne_true, holder_number, inl, inr, is_one_of, list_any}
use Rattle.mk_cycle.proofs.Below.Laws.Vocabulary.{refl, slice_index, subst, sym, true, true≢false, [], ◌++◌, ◌+◌, ◌<◌}
use Rattle.mk_cycle.proofs.Below.Laws.{Vocabulary.{◌∙◌, ◌∷◌, ◌≡◌}, Known.{Known, holds_turn, known_behind}}
use Rattle.mk_cycle.proofs.Below.Laws.{OthersMoves.{OthersMove, WorldBehind, others_move}, Actors.is_holders}
use Rattle.mk_cycle.proofs.Below.Laws.{FramesHolders.acts_as_holder, Orderly.{same_holder, turn_of}}
use Rattle.mk_cycle.proofs.Below.Laws.{OrderlyLists.actor_of, PrecisionStepKinds.both_fail}
use Rattle.mk_cycle.proofs.Below.Laws.{Protocols.protocol_of, Stretches.None_of}
use Rattle.mk_cycle.proofs.Below.Laws.{TurnFrame.turn_after, Views.{HoldsTurn, view_of}}
use Rattle.mk_cycle.proofs.Below.Words.Seats.{has_first, not_both, same_self}
use Rattle.mk_cycle.specs.{Tracing.OwnStepsKeep, Below.Words.Steps.AreOwnOrOfOthers}
use Rattle.mk_core.specs.History.{AreOfOthers, is_same_seat, AreEnabledFrom, left_from}
use Rattle.mk_sweep.specs.Sweeps.{LeaveUnmarked, OthersLeaveUnmarked}

-- The turn word names a seat that may hold the turn, so it does.

abbrev MayHold : Config → Seat → Type 0
MayHold c (Caller k) = k < c.callers
MayHold c (Marker k) = ⊥
MayHold c Host = ⊤

holds_by_name : {c : Config} {m : Moment} (s : Seat) → Known c m → MayHold c s
    → m.words.turn ≡ 1 + holder_number c s → Holds c m s
holds_by_name x0 known may is = grind (arith, protocol_of)

-- A step that leaves the turn word leaves the turn to its holder.
pub holds_still : {c : Config} (s : Seat) (w v : World) → Known c w.now → Known c v.now
    → v.now.words.turn ≡ w.now.words.turn → Holds c w.now s → Holds c v.now s
holds_still {c} s w v known next same h =
    holds_by_name s next (grind arith)
    (same ∙ turn_of c (view_of w.now) s known.orderly (holds_turn c w.now s known.orderly h))

-- No event of another seat in the list is of a marker.
unfoldable pub OthersAreNoMarkers : Seat → List Event → Type 0
OthersAreNoMarkers s [] = ⊤
OthersAreNoMarkers s (e ∷ es) = (is_same_seat s e.seat ≡ false → (k : ℕ) → e.seat ≡ Marker k → k < 8 → ⊥)
    × OthersAreNoMarkers s es

-- So it is where the seats of all markers are the pass's,
pub joined_markers : (s : Seat) (seats : List Seat) (es : List Event) → HasMarkers seats → AreOwnOrOfOthers s seats es
    → OthersAreNoMarkers s es
unfolding OthersAreNoMarkers AreOwnOrOfOthers
joined_markers s seats [] markers of_seats = tt
joined_markers s seats (e ∷ es) markers of_seats = (
  λ other k is lt. not_both seats (Marker k) (subst (λ (x : Seat). is_one_of seats x ≡ false) is
      (of_seats.0 ∙ other)) (markers k lt),
  joined_markers s seats es markers of_seats.1,
)

-- or where no marker steps at all.
pub unmade_markers : (s : Seat) (es : List Event) → ((k : ℕ) → AreOfOthers (Marker k ∷ []) es)
    → OthersAreNoMarkers s es
unfolding OthersAreNoMarkers AreOfOthers
unmade_markers s [] none = tt
unmade_markers s (e ∷ es) none = (
  λ other k is lt. not_both (Marker k ∷ []) (Marker k)
      (subst (λ (x : Seat). is_one_of (Marker k ∷ []) x ≡ false) is (none k).0) (has_first (Marker k) []),
  unmade_markers s es (λ k. (none k).1),
)

-- So it is in each part of such a list.
pub markers_in_parts : (s : Seat) (xs ys : List Event) → OthersAreNoMarkers s (xs ++ ys)
    → OthersAreNoMarkers s xs × OthersAreNoMarkers s ys
unfolding OthersAreNoMarkers
markers_in_parts s [] ys none = (tt, none)
markers_in_parts s (e ∷ es) ys none =
    let parts = markers_in_parts s es ys none.1 in ((none.0, parts.0), parts.1)

-- one event of another seat

record IsBeside (c : Config) (w : World) (e : Event) : Type 0 where
  marks : (world_behind c w e).now.words.marks ≡ w.now.words.marks
  turn : (world_behind c w e).now.words.turn ≡ w.now.words.turn
  kind : is_holders e.step ≡ false

move_marks : {c : Config} {w : World} {seat : Seat} {v : World} → OthersMove c w seat v
    → ((k : ℕ) → seat ≡ Marker k → k < 8 → ⊥) → v.now.words.marks ≡ w.now.words.marks
move_marks x0 none = grind arith

one_beside : {c : Config} (s : Seat) (w : World) (e : Event) → ((k : ℕ) → e.seat ≡ Marker k → k < 8 → ⊥)
    → Known c w.now → IsEnabled c w.now e → Holds c w.now s → is_same_seat s e.seat ≡ false → IsBeside c w e
one_beside {c} s w e none known on holds other =
    let meets = enabled_meets c w.now e on in
    let t = holds_turn c w.now s known.orderly holds in
    let turn = turn_of c (view_of w.now) s known.orderly t in
    let free : HoldsTurn c (view_of w.now) e.seat → ⊥ = grind (arith, same_holder, view_of, same_self) in
    let move = others_move c w e.seat e.step known (λ z. absurd (omega arith)) free meets in
    record {
      marks = move_marks move none;
      turn = ap (λ (x : Steady). x.turn) (turn_after c w e.seat (WorldBehind c w e.seat e.step) known move).steady;
      kind = false_from_ne_true (is_holders e.step)
          (λ is. free (acts_as_holder c w.now e.seat e.step (actor_of c w.now e.seat e.step known.orderly meets) is));
    }

-- and of many, between steps of the holder's of some kinds

unfoldable AreBeside : Config → Seat → World → List Event → Type 0
AreBeside c s w [] = ⊤
AreBeside c s w (e ∷ es) = (is_same_seat s e.seat ≡ false → IsBeside c w e) × AreBeside c s (world_behind c w e) es

abbrev pub IsOf : (Step → Bool) → Config → Moment → Step → Type 0
IsOf kinds c m x = kinds x ≡ true

-- The holder's steps of these kinds leave the turn word.
abbrev pub LeaveTheTurn : (Step → Bool) → Type 0
LeaveTheTurn kinds = (c : Config) (w : World) (seat : Seat) (x : Step) → kinds x ≡ true
    → (WorldBehind c w seat x).now.words.turn ≡ w.now.words.turn

-- They leave the mark words.
abbrev pub LeaveTheMarks : (Step → Bool) → Type 0
LeaveTheMarks kinds = (c : Config) (w : World) (seat : Seat) (x : Step) → kinds x ≡ true
    → (WorldBehind c w seat x).now.words.marks ≡ w.now.words.marks

-- a part of the turn
pub record PartOfTurn (kinds : Step → Bool) (c : Config) (s : Seat) (w : World) (es : List Event) : Type 0 where
  pub none : OthersAreNoMarkers s es
  pub known : Known c w.now
  pub holds : Holds c w.now s
  pub on : AreEnabledFrom c w es
  pub own : OwnStepsKeep (IsOf kinds) c s w es

-- what stands along it, and at its end
record Along (c : Config) (s : Seat) (w : World) (es : List Event) : Type 0 where
  beside : AreBeside c s w es
  holds : Holds c (left_from c w es).now s

module _ (kinds : Step → Bool) (leave : LeaveTheTurn kinds) (c : Config) (s : Seat) where
  along : (w : World) (es : List Event) → PartOfTurn kinds c s w es → Along c s w es
  unfolding AreEnabledFrom OthersAreNoMarkers OwnStepsKeep AreBeside left_from
  along w [] part = record { beside = tt; holds = part.holds }
  along w (e ∷ es) part =
      let next = known_behind c w.now e part.known part.on.0 in
      let other = λ (h : is_same_seat s e.seat ≡ false).
      one_beside s w e (part.none.0 h) part.known part.on.0 part.holds h in
      let turn : (world_behind c w e).now.words.turn ≡ w.now.words.turn =
      elim (cases_Bool (is_same_seat s e.seat)) [
        | inl own ↦ leave c w e.seat e.step (part.own.0 own)
        | inr h ↦ (other h).turn
      ] in
      let rest = along (world_behind c w e) es (record {
        none = part.none.1;
        known = next;
        holds = holds_still s w (world_behind c w e) part.known next turn part.holds;
        on = part.on.1;
        own = part.own.1;
      }) in
      record { beside = (other, rest.beside); holds = rest.holds }

  pub still_holds : {w : World} {es : List Event} → PartOfTurn kinds c s w es → Holds c (left_from c w es).now s
  still_holds {w} {es} part = (along w es part).holds

  -- A holder's kind of step that isn't one of these isn't in the part.
  none_in : (kind : Step → Bool) → ((x : Step) → kind x ≡ true → is_holders x ≡ true)
      → ((x : Step) → kinds x ≡ true → kind x ≡ false) → (w : World) (es : List Event) → AreBeside c s w es
      → OwnStepsKeep (IsOf kinds) c s w es → None_of kind es
  unfolding OwnStepsKeep AreBeside
  none_in kind of_holders out w [] beside own = refl
  none_in kind of_holders out w (e ∷ es) beside own =
      both_fail (kind e.step) (list_any (λ (x : Event). kind x.step) es) (elim (cases_Bool (is_same_seat s e.seat)) [
        | inl h ↦ out e.step (own.0 h)
        | inr h ↦ false_from_ne_true (kind e.step) (λ is. true≢false (sym (of_holders e.step is) ∙ (beside.0 h).kind))
      ]) (none_in kind of_holders out (world_behind c w e) es beside.1 own.1)

  pub none_of_kind : (kind : Step → Bool) → ((x : Step) → kind x ≡ true → is_holders x ≡ true)
      → ((x : Step) → kinds x ≡ true → kind x ≡ false) → {w : World} {es : List Event}
      → PartOfTurn kinds c s w es → None_of kind es
  none_of_kind kind of_holders out {w = w} {es = es} part =
      none_in kind of_holders out w es (along w es part).beside part.own

  -- others mark no cell
  module _ (cell : Cell) where
    bit_of : List ℕ → Bool
    bit_of marks = has_bit (slice_index marks cell.page) cell.index

    others_leave_it : (w : World) (es : List Event) → AreBeside c s w es → OthersLeaveUnmarked c s cell w es
    unfolding OthersLeaveUnmarked AreBeside bit_of
    others_leave_it w [] beside = tt
    others_leave_it w (e ∷ es) beside = (
      λ h was. ap bit_of (beside.0 h).marks ∙ was,
      others_leave_it (world_behind c w e) es beside.1,
    )

    pub others_mark_none : {w : World} {es : List Event} → PartOfTurn kinds c s w es
        → OthersLeaveUnmarked c s cell w es
    others_mark_none {w} {es} part = others_leave_it w es (along w es part).beside

    -- nor does the holder, by steps that leave the mark words
    all_leave_it : LeaveTheMarks kinds → (w : World) (es : List Event) → AreBeside c s w es
        → OwnStepsKeep (IsOf kinds) c s w es → LeaveUnmarked c cell w es
    unfolding LeaveUnmarked AreBeside OwnStepsKeep bit_of
    all_leave_it marks w [] beside own = tt
    all_leave_it marks w (e ∷ es) beside own = (
      λ was. elim (cases_Bool (is_same_seat s e.seat)) [
        | inl h ↦ ap bit_of (marks c w e.seat e.step (own.0 h)) ∙ was
        | inr h ↦ ap bit_of (beside.0 h).marks ∙ was
      ],
      all_leave_it marks (world_behind c w e) es beside.1 own.1,
    )

    pub none_marks : LeaveTheMarks kinds → {w : World} {es : List Event} → PartOfTurn kinds c s w es
        → LeaveUnmarked c cell w es
    none_marks marks {w = w} {es = es} part = all_leave_it marks w es (along w es part).beside part.own

-- lists that leave a cell unmarked

pub leave_in_parts : (c : Config) (cell : Cell) (w : World) (xs ys : List Event) → LeaveUnmarked c cell w xs
    → LeaveUnmarked c cell (left_from c w xs) ys → LeaveUnmarked c cell w (xs ++ ys)
unfolding LeaveUnmarked left_from
leave_in_parts c cell w [] ys one two = two
leave_in_parts c cell w (e ∷ es) ys one two = (one.0, leave_in_parts c cell (world_behind c w e) es ys one.1 two)

pub left_unmarked_by : (c : Config) (cell : Cell) (w : World) (es : List Event) → LeaveUnmarked c cell w es
    → is_marked w.now.words cell ≡ false → is_marked (left_from c w es).now.words cell ≡ false
unfolding LeaveUnmarked left_from
left_unmarked_by c cell w [] leave was = was
left_unmarked_by c cell w (e ∷ es) leave was = left_unmarked_by c cell (world_behind c w e) es leave.1 (leave.0 was)

pub leave_first : (c : Config) (cell : Cell) (w : World) (e : Event) (es : List Event)
    → (is_marked w.now.words cell ≡ false → is_marked (world_behind c w e).now.words cell ≡ false)
    → LeaveUnmarked c cell (world_behind c w e) es → LeaveUnmarked c cell w (e ∷ es)
unfolding LeaveUnmarked
leave_first c cell w e es one rest = (one, rest)
