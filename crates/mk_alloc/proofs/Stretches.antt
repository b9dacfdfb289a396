-- Stretches of a turn: events of its holder, of some kinds, and of others. What each of them keeps, all keep.
use Rattle.std.proofs.lemmas.List.Folds.{list_all-append}
use Rattle.mk_alloc.proofs.Vocabulary.{AreOfOthers, Bool, Config, Does, Event, Finding, Flight, Has, Holds, HoldsTurn}
use Rattle.mk_alloc.proofs.Vocabulary.{IsHistory, IsTurn, List, Makes, Moment, PassState, Seat, Step, World, and_parts}
use Rattle.mk_alloc.proofs.Vocabulary.{ap, append-nil, append_assoc, are_of, comes_last, does_step, does_then}
use Rattle.mk_alloc.proofs.Vocabulary.{does_wider, earlier_part_is_history, event_of, false, flight_of, found}
use Rattle.mk_alloc.proofs.Vocabulary.{holds_turn, if◌then◌else◌, inl, inr, is_same_seat, known_left, left, left_after}
use Rattle.mk_alloc.proofs.Vocabulary.{now_of, refl, same_seat, same_self, subst, sym, true, true≢false, turn_stays}
use Rattle.mk_alloc.proofs.Vocabulary.{view_of, world_behind, [], ◌++◌, ◌∙◌, ◌∷◌, ◌≡◌, ◌≢◌, ◌⊎◌}
use Rattle.mk_core.specs.History.{own_from}
use Rattle.mk_caller.proofs.Below.{Laws.Basics.{Known, Meets, same_holder}, Words.Doing.{none_own, others_are_so}}
use Rattle.mk_caller.proofs.Below.Words.{Doing.own_in_parts, Seats.others_none}
use Rattle.mk_caller.{proofs.Below.Words.TurnSteps.{still_turn}, specs.Below.Words.Steps.{AreOwnOrOfOthers}}

-- the pass, where it has seen these
abbrev pub seeing : PassState → List Event → PassState
seeing p es = record p { seen = es }

-- its call there
abbrev pub call_in : PassState → List Event → Flight
call_in p es = flight_of (left p.table.config es).now p.seat

abbrev pub SomeKinds : Type 0
SomeKinds = Step → Bool

-- The first kinds are among the second,
abbrev pub Within : SomeKinds → SomeKinds → Type 0
Within narrow wide = (x : Step) → narrow x ≡ true → wide x ≡ true

-- or those of the holder of a turn that goes on.
abbrev pub AreOfTurn : SomeKinds → Type 0
AreOfTurn kinds = Within kinds turn_stays

-- what a pass did by steps of some kinds: of more kinds, in two parts, and by one step

pub widened : {narrow wide : SomeKinds} {p q : PassState} → Within narrow wide → Does narrow p q → Does wide p q
widened {narrow} {wide} {p} {q} within d = does_wider narrow wide within p q d

pub does_both : {kinds : SomeKinds} {p q r : PassState} → Does kinds p q → Does kinds q r → Does kinds p r
does_both {kinds} {p} {q} {r} one two = does_then kinds p q r one two

pub does_once : {kinds : SomeKinds} {p : PassState} {s : Step} {q : PassState} → Makes p s q → kinds s ≡ true
    → Does kinds p q
does_once {kinds} {p} {s} {q} m allowed = does_step kinds p q s m allowed

-- After the first list, where the pass's seat holds the turn, come these events: its own are of these kinds.
pub record Stretch (p : PassState) (kinds : SomeKinds) (es more : List Event) : Type 0 where
  pub history : IsHistory p.table.config (es ++ more)
  pub holds : Holds p.table.config (left p.table.config es).now p.seat
  pub own_or_others : AreOwnOrOfOthers p.seat p.seats more
  pub of_kinds : are_of kinds (own_from p.table.config p.seat (left p.table.config es) more) ≡ true

-- one event of it
pub record Here (p : PassState) (es : List Event) (e : Event) : Type 0 where
  pub history : IsHistory p.table.config es
  pub whole : IsHistory p.table.config (es ++ e ∷ [])
  pub known : Known p.table.config (left p.table.config es).now
  pub meets : Meets p.table.config (left p.table.config es).now e.seat e.step
  pub holds : Holds p.table.config (left p.table.config es).now p.seat
  pub behind : left p.table.config (es ++ e ∷ []) ≡ world_behind p.table.config (left p.table.config es) e

abbrev pub IsOwn : PassState → SomeKinds → Event → Type 0
IsOwn p kinds e = (e.seat ≡ p.seat) × (kinds e.step ≡ true)

here : (p : PassState) (es : List Event) (e : Event) → IsHistory p.table.config (es ++ e ∷ [])
    → Holds p.table.config (left p.table.config es).now p.seat → Here p es e
here p es e whole holds =
    let last = comes_last p.table.config es e whole in
    record {
      history = last.before;
      whole = whole;
      known = known_left p.table.config es last.before.within_limits last.before.enabled;
      meets = last.meets;
      holds = holds;
      behind = last.leaves;
    }

-- Who doesn't have the seat doesn't hold the turn.
pub holds_none : {p : PassState} {es : List Event} {e : Event} → Here p es e → e.seat ≢ p.seat
    → HoldsTurn p.table.config (view_of (left p.table.config es).now) e.seat → ⊥
holds_none {p} {es} h ne out =
    let m : Moment = (left p.table.config es).now in
    ne (same_holder _ (view_of m) _ _ h.known.orderly out (holds_turn _ m _ h.known.orderly h.holds))

holds_own : (p : PassState) (es : List Event) (x : Step) → Has p.seats p.seat → Here p es (event_of p x)
    → turn_stays x ≡ true → Holds p.table.config (left p.table.config (es ++ event_of p x ∷ [])).now p.seat
holds_own p es x own h stays =
    let t : IsTurn (seeing p es) = record { own = own; holds = h.holds; history = h.history } in
    (still_turn (seeing p es) x (seeing p (es ++ event_of p x ∷ [])) (record {
      others = [];
      of_others = others_none p.seats;
      is = ap (λ (l : List Event). seeing p (l ++ event_of p x ∷ []))
          (sym (append-nil es));
      pass = record { own = own; history = h.whole };
    }) stays t).holds

holds_other : (p : PassState) (es : List Event) (e : Event) → Here p es e → e.seat ≢ p.seat
    → Holds p.table.config (left p.table.config (es ++ e ∷ [])).now p.seat
holds_other p es e h ne =
    rw h.behind ((left_after p.table.config (left p.table.config es) e.seat p.seat e.step h.known h.meets
    ne).own.holding h.holds).0

-- the first event, and the stretch after it
pub record First (p : PassState) (kinds : SomeKinds) (es : List Event) (e : Event) (rest : List Event) : Type 0 where
  pub at : Here p es e
  pub who : IsOwn p kinds e ⊎ (e.seat ≢ p.seat)
  pub on : Stretch p kinds (es ++ e ∷ []) rest

pub first_of : {p : PassState} {kinds : SomeKinds} {es : List Event} (e : Event) (rest : List Event) → AreOfTurn kinds
    → Has p.seats p.seat → Stretch p kinds es (e ∷ rest) → First p kinds es e rest
unfolding AreOwnOrOfOthers own_from
first_of {p} {kinds} {es} e rest stays own s = by (is_same_seat p.seat e.seat) refl s.of_kinds
  where
    whole : IsHistory p.table.config ((es ++ e ∷ []) ++ rest)
    whole = subst (λ (l : List Event). IsHistory p.table.config l) (sym (append_assoc es (e ∷ []) rest)) s.history

    at : Here p es e
    at = here p es e (earlier_part_is_history p.table.config (es ++ e ∷ []) rest whole) s.holds

    on : are_of kinds (own_from p.table.config p.seat (world_behind p.table.config (left p.table.config es) e) rest)
        ≡ true
        → Holds p.table.config (left p.table.config (es ++ e ∷ [])).now p.seat → Stretch p kinds (es ++ e ∷ []) rest
    on all holds = record {
      history = whole;
      holds = holds;
      own_or_others = s.own_or_others.1;
      of_kinds = cc (at.behind, all);
    }

    by : (b : Bool) → is_same_seat p.seat e.seat ≡ b → are_of kinds
        (if b then record { event = e; found = found p.table.config (left p.table.config es).now e } ∷ own_from
        p.table.config p.seat (world_behind p.table.config (left p.table.config es) e) rest else own_from p.table.config
        p.seat (world_behind p.table.config (left p.table.config es) e) rest) ≡ true → First p kinds es e rest
    by true is all =
        let same : e.seat ≡ p.seat = sym (same_seat p.seat e.seat is) in
        let parts = and_parts (kinds e.step) (are_of kinds
        (own_from p.table.config p.seat (world_behind p.table.config (left p.table.config es) e) rest)) all in
        let own_event : event_of p e.step ≡ e = ap (λ (t : Seat). record { seat = t; step = e.step }) (sym same) in
        let holds = subst (λ (x : Event). Holds p.table.config (left p.table.config (es ++ x ∷ [])).now p.seat)
        own_event
        (holds_own p es e.step own (subst (λ (x : Event). Here p es x) (sym own_event) at) (stays e.step parts.0)) in
        record { at = at; who = inl (same, parts.0); on = on parts.1 holds }
    by false is all =
        let ne : e.seat ≢ p.seat = λ same.
        true≢false (sym (subst (λ (t : Seat). is_same_seat p.seat t ≡ true) (sym same) (same_self p.seat)) ∙ is) in
        record { at = at; who = inr ne; on = on all (holds_other p es e at ne) }

-- What each event keeps, all keep.
module _ (p : PassState) (kinds : SomeKinds) (stays : AreOfTurn kinds) (own : Has p.seats p.seat) where
  pub along : (R : List Event → Type 0)
      → ((es : List Event) (x : Step) → Here p es (event_of p x) → kinds x ≡ true → R es → R (es ++ event_of p x ∷ []))
      → ((es : List Event) (e : Event) → Here p es e → e.seat ≢ p.seat → R es → R (es ++ e ∷ []))
      → (es more : List Event) → Stretch p kinds es more → R es → R (es ++ more)
  along R mine others es [] s r = subst R (sym (append-nil es)) r
  along R mine others es (e ∷ rest) s r =
      subst R (append_assoc es (e ∷ []) rest) (along R mine others (es ++ e ∷ []) rest f.on (by f.who))
    where
      f : First p kinds es e rest
      f = first_of e rest stays own s

      by : IsOwn p kinds e ⊎ (e.seat ≢ p.seat) → R (es ++ e ∷ [])
      by (inl is) =
          let same : event_of p e.step ≡ e = ap (λ (t : Seat). record { seat = t; step = e.step }) (sym is.0) in
          subst (λ (x : Event). R (es ++ x ∷ [])) same
          (mine es e.step (subst (λ (x : Event). Here p es x) (sym same) f.at) is.1 r)
      by (inr ne) = others es e f.at ne r

  -- the turn is held after it
  pub holds_behind : {es more : List Event} → Stretch p kinds es more
      → Holds p.table.config (left p.table.config (es ++ more)).now p.seat
  holds_behind {es} {more} s =
      along (λ (l : List Event). Holds p.table.config (left p.table.config l).now p.seat) (λ fs x h kind held. holds_own
      p fs x own h (stays x kind)) (λ fs e h ne held. holds_other p fs e h ne) es more s s.holds

-- parts of a stretch

own_first : (s : Seat) (seats : List Seat) (xs ys : List Event) → AreOwnOrOfOthers s seats (xs ++ ys)
    → AreOwnOrOfOthers s seats xs
unfolding AreOwnOrOfOthers
own_first s seats [] ys h = tt
own_first s seats (x ∷ xs) ys h = (h.0, own_first s seats xs ys h.1)

pub first_part : (p : PassState) (kinds : SomeKinds) (es xs ys : List Event) → Stretch p kinds es (xs ++ ys)
    → Stretch p kinds es xs
first_part p kinds es xs ys s =
    let c : Config = p.table.config in
    let w : World = left c es in
    record {
      history = earlier_part_is_history c (es ++ xs) ys
          (subst (λ (l : List Event). IsHistory c l) (sym (append_assoc es xs ys)) s.history);
      holds = s.holds;
      own_or_others = own_first p.seat p.seats xs ys s.own_or_others;
      of_kinds = (and_parts (are_of kinds (own_from c p.seat w xs)) _
          (sym (list_all-append (λ (x : Finding). kinds x.event.step) (own_from c p.seat w xs) _)
          ∙ ap (λ (l : List Finding). are_of kinds l) (sym (own_in_parts c p.seat w xs ys)) ∙ s.of_kinds)).0;
    }

-- what a pass did
pub does_stretch : {p q : PassState} {kinds : SomeKinds} (d : Does kinds p q) → IsHistory q.table.config q.seen
    → Holds p.table.config (now_of p) p.seat → Stretch p kinds p.seen d.more
does_stretch d history holds = record {
  history = subst (λ (x : PassState). IsHistory x.table.config x.seen) d.is history;
  holds = holds;
  own_or_others = d.own_or_others;
  of_kinds = d.of_kinds;
}

abbrev pub no_kinds : SomeKinds
no_kinds _ = false

-- what others did
pub others_stretch : (p : PassState) (es others : List Event) → Has p.seats p.seat
    → IsHistory p.table.config (es ++ others) → Holds p.table.config (left p.table.config es).now p.seat
    → AreOfOthers p.seats others → Stretch p no_kinds es others
others_stretch p es others own history holds of_others = record {
  history = history;
  holds = holds;
  own_or_others = others_are_so p.seats p.seat others own of_others;
  of_kinds = ap (λ (l : List Finding). are_of no_kinds l)
      (none_own p.table.config p.seats p.seat (left p.table.config es) others own of_others);
}
