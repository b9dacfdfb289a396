-- What a pass may have seen since, and what is seen of a call under the turn.
use Rattle.std.{proofs.{lemmas.List.append_cancel_right, lemmas.List.Folds.list_all-append}, specs.List.{list_all}}
use Rattle.mk_heap.proofs.Below.Laws.Vocabulary.{Bool, List, Option, Some, and_from, and_parts, ap, append_assoc, arith}
use Rattle.mk_heap.proofs.Below.Laws.Vocabulary.{cases_Bool, enabled_meets, false, is_one_of, not, not-true, or_cases}
use Rattle.mk_heap.proofs.Below.Laws.Vocabulary.{or_from}
use Rattle.mk_heap.proofs.Below.Laws.Vocabulary.{refl, subst, sym, true, true≢false, [], ◌&&◌, ◌++◌, ◌∙◌, ◌∷◌, ◌≡◌}
use Rattle.mk_trace.proofs.Vocabulary.{Answer, Caller, Config, Event, Has, HasAll, Op, PassState, Seat, Step, World}
use Rattle.mk_trace.proofs.Vocabulary.{event_of, has_first, has_step, is_same_seat, lacks_append, lacks_one}
use Rattle.mk_trace.proofs.Vocabulary.{seat_exists, seen_made, without_seat, world_behind, ⊎_elim}
use Rattle.mk_core.specs.History.{AreOfOthers, AreEnabledFrom}
use Rattle.mk_heap.proofs.Below.{Objects.Parts.{seen_behind, seen_then}, Words.Seats.{has_either, has_left}}
use Rattle.mk_heap.proofs.Below.Words.Seats.{has_right, not_both, same_seat, without_keeps}
use Rattle.mk_heap.specs.Below.Objects.{TurnCalls.CalledInTurn, TurnCycles.within_turn}
use Rattle.mk_heap.specs.Below.Words.TurnSteps.{is_take, waits_for}

-- What a pass may have seen since: events of seats that there are, and none of those that are elsewhere.

-- The seat of the event is one that there is, and none of these.
abbrev pub is_mine : Config → List Seat → Event → Bool
is_mine c elsewhere e = seat_exists c e.seat && not (is_one_of elsewhere e.seat)

abbrev pub AreMine : Config → List Seat → List Event → Type 0
AreMine c elsewhere es = list_all (is_mine c elsewhere) es ≡ true

pub are_mine : (c : Config) (w : World) (elsewhere : List Seat) (es : List Event) → AreEnabledFrom c w es
    → AreOfOthers elsewhere es → AreMine c elsewhere es
unfolding AreEnabledFrom AreOfOthers
are_mine c w elsewhere [] on others = refl
are_mine c w elsewhere (e ∷ es) on others =
    and_from (is_mine c elsewhere e) (list_all (is_mine c elsewhere) es)
    (and_from (seat_exists c e.seat) (not (is_one_of elsewhere e.seat)) (enabled_meets c w.now e on.0).seat
    (ap (λ (b : Bool). not b) others.0)) (are_mine c (world_behind c w e) elsewhere es on.1 others.1)

pub mine_parts : (c : Config) (elsewhere : List Seat) (xs ys : List Event) → AreMine c elsewhere (xs ++ ys)
    → AreMine c elsewhere xs × AreMine c elsewhere ys
mine_parts c elsewhere xs ys h =
    and_parts (list_all (is_mine c elsewhere) xs) (list_all (is_mine c elsewhere) ys)
    (sym (list_all-append (is_mine c elsewhere) xs ys) ∙ h)

-- The pass has all seats but those.
abbrev pub HasTheRest : Config → List Seat → List Seat → Type 0
HasTheRest c elsewhere seats = HasAll c (elsewhere ++ seats)

-- Where all events are of the one caller.
abbrev pub OneSeat : Config → List Seat → Type 0
OneSeat c elsewhere = HasTheRest c elsewhere (Caller 0 ∷ [])

pub has_mine : (c : Config) (elsewhere seats : List Seat) (e : Event) → HasTheRest c elsewhere seats
    → is_mine c elsewhere e ≡ true → Has seats e.seat
has_mine c elsewhere seats e all mine =
    let parts = and_parts (seat_exists c e.seat) (not (is_one_of elsewhere e.seat)) mine in
    ⊎_elim (λ (there : Has elsewhere e.seat). absurd (true≢false (sym there ∙ not-true (is_one_of elsewhere e.seat)
    parts.1))) (λ (here : Has seats e.seat). here) (has_either elsewhere seats _ (all _ parts.0))

-- So there are no others.
pub none_of_others : (c : Config) (elsewhere seats : List Seat) (es : List Event) → HasTheRest c elsewhere seats
    → AreMine c elsewhere es → AreOfOthers seats es → es ≡ []
unfolding AreOfOthers
none_of_others c elsewhere seats [] all mine others = refl
none_of_others c elsewhere seats (e ∷ es) all mine others =
    absurd (not_both seats e.seat others.0 (has_mine c elsewhere seats e all
    (and_parts (is_mine c elsewhere e) (list_all (is_mine c elsewhere) es) mine).0))

-- and who waits for the turn makes no step but takes.
pub waiting_lacks : (kind : Step → Bool) (c : Config) (elsewhere : List Seat) (p : PassState) (es : List Event)
    → ((x : Option Op) → kind (Step.Take x) ≡ false) → HasTheRest c elsewhere p.seats → AreMine c elsewhere es
    → list_all (waits_for p) es ≡ true → has_step kind es ≡ false
waiting_lacks kind c elsewhere p [] apart all mine waits = refl
waiting_lacks kind c elsewhere p (e ∷ es) apart all mine waits =
    let mines = and_parts (is_mine c elsewhere e) (list_all (is_mine c elsewhere) es) mine in
    let parts = and_parts (waits_for p e) (list_all (waits_for p) es) waits in
    or_from (kind _) (has_step kind es) (⊎_elim (λ (out : not (is_one_of p.seats e.seat) ≡ true). absurd (true≢false
    (sym (has_mine c elsewhere p.seats e all mines.0) ∙ not-true (is_one_of p.seats e.seat) out))) (λ (take : (is_take
    e.step && is_same_seat e.seat p.seat) ≡ true).
    grind arith) (or_cases (not _) _ parts.0)) (waiting_lacks kind c elsewhere p es apart all mines.1 parts.1)

pub others_lack : (kind : Step → Bool) (c : Config) (elsewhere seats : List Seat) (es : List Event)
    → HasTheRest c elsewhere seats → AreMine c elsewhere es → AreOfOthers seats es → has_step kind es ≡ false
others_lack kind c elsewhere seats es all mine others =
    ap (has_step kind) (none_of_others c elsewhere seats es all mine others)

-- Of all seats one is elsewhere, and comes back.
pub all_again : (c : Config) (s : Seat) (seats : List Seat) → HasAll c seats
    → HasTheRest c (without_seat s seats) (s ∷ [])
all_again c s seats all x exists = ⊎_elim same other (cases_Bool (is_same_seat s x))
  where
    same : is_same_seat s x ≡ true → Has (without_seat s seats ++ s ∷ []) x
    same is = has_right (without_seat s seats) (s ∷ []) x (subst (Has (s ∷ [])) (same_seat s x is) (has_first s []))

    other : is_same_seat s x ≡ false → Has (without_seat s seats ++ s ∷ []) x
    other out = has_left (without_seat s seats) (s ∷ []) x (without_keeps s seats x out (all x exists))

-- What is seen of a call under the turn: the wait for the turn and its `take`, what the turn does, and its `give`.

module _ {on : Bool} {p : PassState} {o : Op} {a : Answer} {q : PassState} (h : CalledInTurn on p o a q) where
  abbrev waits : List Event
  waits = h.takes.waits.more

  abbrev taking : List Event
  taking = h.takes.takes.makes.others ++ event_of h.takes.waited (Step.Take (Some o)) ∷ []

  -- up to the `take`, and with it
  abbrev pub before_turn : List Event
  before_turn = waits ++ taking

  abbrev pub giving : List Event
  giving = event_of h.done Step.Give ∷ []

  done_seen : h.done.seen ++ h.gives.others ≡ (p.seen ++ before_turn) ++ h.ends.turn.behind
  done_seen = grind (arith, seen_behind, append_assoc, before_turn, seen_then, waits, taking, seen_made)

  pub turn_seen : q.seen ≡ p.seen ++ (before_turn ++ (h.ends.turn.behind ++ giving))
  turn_seen =
      seen_made h.done q Step.Give h.gives ∙ sym (append_assoc h.done.seen h.gives.others giving)
      ∙ ap (λ (l : List Event). l ++ giving) done_seen ∙ append_assoc (p.seen ++ before_turn) h.ends.turn.behind giving
      ∙ append_assoc p.seen before_turn (h.ends.turn.behind ++ giving)

  -- what the turn has seen so far
  pub within_is : (part : List Event) → within_turn h.ends.turn part ≡ p.seen ++ (before_turn ++ part)
  within_is part =
      let take : Event = record { seat = p.seat; step = Step.Take h.ends.turn.op } in
      let before : p.seen ++ before_turn ≡ h.ends.turn.before ++ take ∷ [] =
      append_cancel_right (p.seen ++ before_turn) (h.ends.turn.before ++ take ∷ []) h.ends.turn.behind
      (sym done_seen ∙ h.ends.turn.is ∙ sym (append_assoc h.ends.turn.before (take ∷ []) h.ends.turn.behind)) in
      cc (append_assoc h.ends.turn.before (take ∷ []) part, before, append_assoc p.seen before_turn part)

  -- Before the turn there are only takes.
  pub before_turn_lacks : (kind : Step → Bool) → ((x : Option Op) → kind (Step.Take x) ≡ false)
      → (elsewhere : List Seat) → HasTheRest p.table.config elsewhere p.seats
      → AreMine p.table.config elsewhere before_turn → has_step kind before_turn ≡ false
  before_turn_lacks kind apart elsewhere all mine =
      let parts = mine_parts p.table.config elsewhere waits taking mine in
      let taken = mine_parts p.table.config elsewhere h.takes.takes.makes.others
      (event_of h.takes.waited (Step.Take (Some o)) ∷ []) parts.1 in
      lacks_append kind waits taking (waiting_lacks kind p.table.config elsewhere p waits apart all parts.0
      h.takes.waits.only) (lacks_append kind h.takes.takes.makes.others (event_of h.takes.waited (Step.Take (Some o)) ∷
      []) (others_lack kind p.table.config elsewhere p.seats h.takes.takes.makes.others all taken.0
      (rw h.takes.waits.is at h.takes.takes.makes.of_others)) (lacks_one kind
      (event_of h.takes.waited (Step.Take (Some o))) (apart (Some o))))
