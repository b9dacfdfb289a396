-- Cycles and turns in lists that go on.
use Rattle.mk_laws.proofs.Vocabulary.{At, Bool, Config, Cycle, Event, List, Marking, Releasing, Seat, Step, TurnOf}
use Rattle.mk_laws.proofs.Vocabulary.{World, ap, append_assoc, false, first_world, left, left_append, left_from}
use Rattle.mk_laws.proofs.Vocabulary.{list_any, list_any-append, refl, sym, true, world_behind, [], ◌&&◌, ◌++◌, ◌||◌}
use Rattle.mk_laws.proofs.Vocabulary.{◌∙◌, ◌∷◌, ◌≡◌}
use Rattle.mk_core.specs.Placement.{FirstServed, NoneServesFrom, event_serves}
use Rattle.mk_core.specs.{Cycles.{Next, is_give}, History.is_same_seat}

-- Cycles in lists that go on.

-- a list without an event that passes the test, and one event more that doesn't
pub none_more : (test : Event → Bool) (es : List Event) (e : Event) → list_any test es ≡ false → test e ≡ false
    → list_any test (es ++ e ∷ []) ≡ false
none_more test es e none last =
    list_any-append test es (e ∷ []) ∙ ap (λ b. b || (test e || false)) none ∙ ap (λ b. b || false) last

-- A cycle of the earlier part is one of the whole list.

abbrev pub longer_at : {kind : Step → Bool} {es : List Event} (more : List Event) → At kind es → At kind (es ++ more)
longer_at more at = record {
  before = at.before;
  event = at.event;
  behind = at.behind ++ more;
  is = rw at.is (append_assoc at.before (at.event ∷ at.behind) more);
  of_kind = at.of_kind;
}

abbrev pub longer_next : {kind : Step → Bool} {es : List Event} (more : List Event) → Next kind es
    → Next kind (es ++ more)
longer_next more next = record { at = longer_at more next.at; none_before = next.none_before }

abbrev pub longer_marking : {es : List Event} (more : List Event) → Marking es → Marking (es ++ more)
longer_marking more k = record { begin = longer_at more k.begin; close = longer_next more k.close }

abbrev pub longer_releasing : {es : List Event} (more : List Event) → Releasing es → Releasing (es ++ more)
longer_releasing more k = record { marking = longer_marking more k.marking; release = longer_next more k.release }

abbrev pub longer_cycle : {es : List Event} (more : List Event) → Cycle es → Cycle (es ++ more)
longer_cycle more k = record { releasing = longer_releasing more k.releasing; end = longer_next more k.end }

-- one of its kind, and the next one, at the end

abbrev pub at_end : {kind : Step → Bool} (es : List Event) (e : Event) → kind e.step ≡ true → At kind (es ++ e ∷ [])
at_end es e is = record { before = es; event = e; behind = []; is = refl; of_kind = is }

abbrev pub next_at_end : {kind : Step → Bool} (es : List Event) (e : Event)
    → list_any (λ (x : Event). kind x.step) es ≡ false → kind e.step ≡ true → Next kind (es ++ e ∷ [])
next_at_end es e none is = record { at = at_end es e is; none_before = none }

-- The event gives the seat's turn back.
abbrev pub gives_turn : Seat → Event → Bool
gives_turn s e = is_same_seat s e.seat && is_give e.step

-- A turn goes on by an event that doesn't give it back, and what served it first stays so.

abbrev pub taken : {c : Config} {s : Seat} {es : List Event} → TurnOf c s es → Event
taken {s = s} t = record { seat = s; step = Step.Take t.op }

abbrev pub longer_turn : {c : Config} {s : Seat} {es : List Event} (t : TurnOf c s es) (e : Event)
    → gives_turn s e ≡ false → TurnOf c s (es ++ e ∷ [])
longer_turn {s = s} t e on = record {
  before = t.before;
  op = t.op;
  behind = t.behind ++ e ∷ [];
  is = ap (λ (xs : List Event). xs ++ e ∷ []) t.is ∙ append_assoc t.before (taken t ∷ t.behind) (e ∷ []);
  took = t.took;
  goes_on = none_more (gives_turn s) t.behind e t.goes_on on;
}

abbrev pub longer_first : {c : Config} {s : Seat} {es : List Event} (t : TurnOf c s es) (e : Event)
    (on : gives_turn s e ≡ false) → FirstServed c t → FirstServed c (longer_turn t e on)
longer_first t e on first = record {
  before = first.before;
  event = first.event;
  behind = first.behind ++ e ∷ [];
  is = cc (first.is, append_assoc first.before (first.event ∷ first.behind) (e ∷ []));
  none_before = first.none_before;
  serves = first.serves;
}

-- what the turn's events leave, from after its `take` on
pub left_in_turn : (c : Config) (s : Seat) (es : List Event) (t : TurnOf c s es)
    → left_from c (left c (t.before ++ taken t ∷ [])) t.behind ≡ left c es
left_in_turn c s es t = sym (left_append c (first_world c) _ t.behind)
    ∙ ap (λ (xs : List Event). left c xs) (append_assoc t.before (taken t ∷ []) t.behind ∙ sym t.is)

pub none_serves_more : (c : Config) (w : World) (es : List Event) (e : Event) → NoneServesFrom c w es
    → event_serves c (left_from c w es) e ≡ false → NoneServesFrom c w (es ++ e ∷ [])
unfolding NoneServesFrom left_from
none_serves_more c w [] e none last = (last, tt)
none_serves_more c w (x ∷ es) e none last = (none.0, none_serves_more c (world_behind c w x) es e none.1 last)
