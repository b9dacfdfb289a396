-- `take` and `give` keep the rule, and hand the page map over.
use Rattle.std.proofs.Common.{set}
use Rattle.mk_laws.proofs.Vocabulary.{Config, Event, Holds, IsHistory, List, Op, Option, Seat, Step, TalliesAreTidy}
use Rattle.mk_laws.proofs.Vocabulary.{World, ℕ, ap, arith, first_world, left, left_more, refl, slice_index, subst, sym}
use Rattle.mk_laws.proofs.Vocabulary.{true, [], ◌++◌, ◌∙◌, ◌∷◌, ◌≡◌, ◌≢◌}
use Rattle.mk_core.specs.Below.Books.KnownPages.{KnownPages}
use Rattle.mk_core.specs.{Cycles.is_give, Words.becomes}
use Rattle.atomic_table.proofs.Lists.{exchanged, set_here}
use Rattle.mk_words.proofs.{FreeTurns.{map_left, map_there, page_words}, Keeps.{access_there, place_there, steps_at}}
use Rattle.mk_words.{proofs.Seats.{others_own}, specs.{States.{Has, HasCallers, is_over}, declared.rule.View.View}}
use Rattle.mk_words.specs.{Rule.{Adds, IsHome, Kept, Mine, gives_map, no_part, takes_map}, PageMaps.IsMapOf}
use Rattle.atomic_table.specs.Table.{Allows, Step as TableStep, gives, keeps, put_back, takes}
use mathlib.Core.Option.{Option as Maybe, none as nothing, some}
use mathlib.Core.Logic.{dite}
use native.Mathlib.Decide.{ℕ_discrete}
use lib.ListN.{get_elem?}

-- the event of each, the turn word after a `take`, and the pages after both

abbrev pub take_event : Seat → Option Op → Event
take_event seat o = record { seat = seat; step = Step.Take o }

abbrev pub give_event : Seat → Event
give_event seat = record { seat = seat; step = Step.Give }

taken_turn : (c : Config) (es : List Event) (seat : Seat) (o : Option Op) → (left c es).now.words.turn ≡ 0
    → (left c (es ++ take_event seat o ∷ [])).now.words.turn ≢ 0
taken_turn c es seat o free = grind (arith, left_more, take_event, exchanged)

missed_turn : (c : Config) (es : List Event) (seat : Seat) (o : Option Op) → (left c es).now.words.turn ≢ 0
    → (left c (es ++ take_event seat o ∷ [])).now.words.turn ≢ 0
missed_turn c es seat o held = grind (arith, left_more, take_event, exchanged)

taken_pages : (c : Config) (es : List Event) (seat : Seat) (o : Option Op)
    → page_words (left c (es ++ take_event seat o ∷ [])).now.words ≡ page_words (left c es).now.words
taken_pages c es seat o = grind (arith, page_words, left_more, take_event)

given_pages : (c : Config) (es : List Event) (seat : Seat)
    → page_words (left c (es ++ give_event seat ∷ [])).now.words ≡ page_words (left c es).now.words
given_pages c es seat = ap (λ (v : World). page_words v.now.words) (left_more c (first_world c) es (give_event seat))

-- what a `take` says that finds the turn free, and one that doesn't

says_taken : (me : Mine) (seat : Seat) (o : Option Op) (st : TableStep KnownPages) (found : ℕ) (w : View)
    (map : KnownPages) (a : Adds (take_event seat o) me.0 found w) (es : List Event) → es ≡ me.0.own.seen ++ a.others
    → (left me.0.config es).now.words.turn ≡ 0 → IsMapOf map (left me.0.config es).now.words
    → takes_map (take_event seat o) st me found (w, (0, map) ∷ me.1)
says_taken me seat o st found w map a es is free shows =
    let c : Config = me.0.config in
    let e : Event = take_event seat o in
    let before : List Event = me.0.own.seen ++ a.others in
    let none : found ≡ 0 = a.finds ∙ subst (λ (l : List Event). (left c l).now.words.turn ≡ 0) is free in
    let shown : IsMapOf map (left c (before ++ e ∷ [])).now.words =
    map_there c before e map a.history refl (taken_pages c before seat o)
    (subst (λ (l : List Event). IsMapOf map (left c l).now.words) is shows) in (
      a,
      (λ z. (map, refl, subst (λ (v : View). IsMapOf map (left v.config v.own.seen).now.words) (sym a.is) shown)),
      (λ some. absurd {A = (0, map) ∷ me.1 ≡ me.1} (some none)),
    )

says_missed : (me : Mine) (seat : Seat) (o : Option Op) (st : TableStep KnownPages) (found : ℕ) (w : View)
    (a : Adds (take_event seat o) me.0 found w) (es : List Event) → es ≡ me.0.own.seen ++ a.others
    → (left me.0.config es).now.words.turn ≢ 0 → takes_map (take_event seat o) st me found (w, me.1)
says_missed me seat o st found w a es is held = grind arith

-- With a `take` that finds the turn free comes the map.
pub takes_at : (slots id : ℕ) (me : Mine) (seat : Seat) (o : Option Op) (st : TableStep KnownPages)
    → me.0.came ≡ no_part → Has me.0.own.seats seat → IsHistory me.0.config (me.0.own.seen ++ take_event seat o ∷ [])
    → Allows (Kept me.0.config) slots id me (place_there me (take_event seat o))
    (becomes (access_there me (take_event seat o))) (λ n m. takes_map (take_event seat o) st me n m)
takes_at slots id me seat o st alone has may s k long at small =
    let c : Config = me.0.config in
    let e : Event = take_event seat o in
    let found : ℕ = slice_index s.words (place_there me e) in
    let none_given : is_give e.step ≡ true → TalliesAreTidy c me.0.own.seen = λ g. cc in
    let none_over : is_over e.step ≡ true → HasCallers c me.0.own.seats = λ g. cc in
    dite (ℕ_discrete (left c k.events).now.words.turn 0) (λ free.
    let m = k.home free in
    let t = steps_at id me e alone has may none_given none_over s k at (set s.homes 0 nothing)
    (λ es is h z. absurd {A = IsHome (set s.homes 0 nothing) (left c (es ++ e ∷ [])).now.words}
    (taken_turn c es seat o (subst (λ (l : List Event). (left c l).now.words.turn ≡ 0) is free) z)) in
    (t.0, takes 0 m.0, m.1, t.1, says_taken me seat o st found t.0 m.0 t.2.0 k.events t.2.1 free m.2)) (λ held.
    let t = steps_at id me e alone has may none_given none_over s k at s.homes
    (λ es is h z. absurd {A = IsHome s.homes (left c (es ++ e ∷ [])).now.words}
    (missed_turn c es seat o (subst (λ (l : List Event). (left c l).now.words.turn ≢ 0) is held) z)) in
    (t.0, keeps, tt, t.1, says_missed me seat o st found t.0 t.2.0 k.events t.2.1 held))

-- With a `give` the map lies in the slot again.
pub gives_at : (id : ℕ) (me : Mine) (seat : Seat) (map : KnownPages) (st : TableStep KnownPages) → me.0.came ≡ no_part
    → Has me.0.own.seats seat → IsHistory me.0.config (me.0.own.seen ++ give_event seat ∷ [])
    → TalliesAreTidy me.0.config me.0.own.seen → Holds me.0.config (left me.0.config me.0.own.seen).now seat
    → me.1 ≡ (0, map) ∷ [] → IsMapOf map (left me.0.config me.0.own.seen).now.words → (stored : ℕ)
    → Allows (Kept me.0.config) 1 id me (place_there me (give_event seat))
    (becomes (access_there me (give_event seat))) (λ n w. gives_map (give_event seat) st me stored w)
gives_at id me seat map st alone has may tidy holds carried shows stored s k long at small =
    let c : Config = me.0.config in
    let e : Event = give_event seat in
    let none_over : is_over e.step ≡ true → HasCallers c me.0.own.seats = λ g. cc in
    let sees = (k.sees id me.0 at).0 in
    let others = others_own me.0.own.seats seat sees.more has sees.of_others in
    let still = map_left c me.0.own.seen sees.more seat map
    (subst (λ (l : List Event). IsHistory c l) sees.is k.history) others holds shows in
    let homes : List (Maybe KnownPages) = put_back s.homes me.1 in
    let there : get_elem? homes 0 ≡ some (some map) = cc (carried, set_here s.homes 0 (some map) (omega arith)) in
    let t = steps_at id me e alone has may (λ g. tidy) none_over s k at homes (λ es is h z. (
      map,
      there,
      map_there c es e map h refl (given_pages c es seat)
          (subst (λ (l : List Event). IsMapOf map (left c l).now.words) (sym sees.is ∙ is) still),
    )) in
    (t.0, gives, tt, t.1, (refl, (slice_index s.words (place_there me e), t.2.0)))
