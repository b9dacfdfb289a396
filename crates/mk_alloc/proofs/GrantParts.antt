-- Parts of a New's turn: what was granted in them, and what is let go after that.
use Rattle.mk_alloc.proofs.Vocabulary.{AsksRoom, At, BeginsCycle, Config, Does, Event, FinishesCycle, GrantsNone}
use Rattle.mk_alloc.proofs.Vocabulary.{HasNoPlace, IsHistory, IsTurn, List, None, Object, PassState, Storage, ap}
use Rattle.mk_alloc.proofs.Vocabulary.{append-nil, append_assoc, append_cancel_left, arith, asks_room, call_of, false}
use Rattle.mk_alloc.proofs.Vocabulary.{has_step, is_grant, is_pending_free, lets_go, place_after, refl, sym, [], ⊎_elim}
use Rattle.mk_alloc.proofs.{Vocabulary.{◌++◌, ◌∙◌, ◌∷◌, ◌≡◌}, CycleParts.{closing, gives_room_back}}
use Rattle.mk_alloc.proofs.{CycleParts.{part_behind_closing, part_closing}, ListParts.{InFirst, InSecond, Lacks}}
use Rattle.mk_alloc.proofs.{ListParts.{lacks_append, lacks_at, lacks_second, stands}, Parts.{AreApart, Part}}
use Rattle.mk_alloc.proofs.{Parts.{part_lacks, seen_by, seen_by_both}, Stretches.{SomeKinds, does_both, does_once}}
use Rattle.mk_alloc.{proofs.Stretches.{does_stretch, first_part, widened}, specs.Rooms.{GrantsLast}}
use Rattle.mk_alloc.proofs.{CalmStretches.{releases_none, stays_reserved}, Going.IsCallers}
use Rattle.mk_geom.specs.Storages.{Fits}

-- lists

-- After each grant nothing is let go.
abbrev pub LastIn : List Event → Type 0
LastIn es = (g : At is_grant es) → Lacks lets_go g.behind

behind_lacks : (e : Event) (es : List Event) → Lacks lets_go (e ∷ es) → Lacks lets_go es
behind_lacks e es h = lacks_second lets_go (e ∷ []) es h

last_of_calm : (es : List Event) → Lacks lets_go es → LastIn es
last_of_calm es calm g =
    behind_lacks g.event g.behind
    (lacks_second lets_go g.before (g.event ∷ g.behind) (ap (λ (l : List Event). has_step lets_go l) (sym g.is) ∙ calm))

-- what stands after an event of the first part
pub first_behind : (xs ys before : List Event) (e : Event) (behind rest : List Event) → xs ++ ys ≡ before ++ e ∷ behind
    → xs ≡ before ++ e ∷ rest → behind ≡ rest ++ ys
first_behind xs ys before e behind rest is first =
    let same : e ∷ behind ≡ e ∷ (rest ++ ys) = append_cancel_left before (e ∷ behind) (e ∷ (rest ++ ys))
    (sym is ∙ ap (λ (l : List Event). l ++ ys) first ∙ append_assoc before (e ∷ rest) ys) in
    let tail : behind ≡ rest ++ ys = cc in tail

pub last_then : (xs ys : List Event) → Lacks is_grant xs → LastIn ys → LastIn (xs ++ ys)
last_then xs ys none last g =
    ⊎_elim (λ (x : InFirst xs g.before g.event). absurd (lacks_at is_grant xs g.before g.event x.behind none x.is
    g.of_kind)) (λ (x : InSecond xs ys g.before g.event g.behind). last (record {
      before = x.rest;
      event = g.event;
      behind = g.behind;
      is = x.is;
      of_kind = g.of_kind;
    })) (stands xs ys g.before g.event g.behind g.is)

-- After the last part none is granted, and nothing is let go.
pub last_before : (xs ys : List Event) → LastIn xs → Lacks is_grant ys → Lacks lets_go ys → (g : At is_grant (xs ++ ys))
    → Lacks lets_go g.behind
last_before xs ys last none calm g =
    ⊎_elim (λ (x : InFirst xs g.before g.event). ap (λ (l : List Event). has_step lets_go l)
    (first_behind xs ys g.before g.event g.behind x.behind g.is x.is) ∙ lacks_append lets_go x.behind ys
    (last (record { before = g.before; event = g.event; behind = x.behind; is = x.is; of_kind = g.of_kind })) calm)
    (λ (x : InSecond xs ys g.before g.event g.behind). absurd
    (lacks_at is_grant ys x.rest g.event g.behind none x.is g.of_kind)) (stands xs ys g.before g.event g.behind g.is)

-- passes

pub grants_none : {kinds : SomeKinds} {p q : PassState} → Part kinds p q → AreApart kinds is_grant → GrantsNone p q
grants_none {p = p} x apart all is =
    ap (λ (l : List Event). has_step is_grant l) (append_cancel_left p.seen all x.does.more (sym is ∙ seen_by x.does))
    ∙ part_lacks is_grant x (λ x h. grind arith) apart

pub none_last : (p q : PassState) → GrantsNone p q → GrantsLast p q
none_last p q none more is g = absurd (lacks_at is_grant more g.before g.event g.behind (none more is) g.is g.of_kind)

pub calm_last : {kinds : SomeKinds} {p q : PassState} → Part kinds p q → AreApart kinds lets_go → GrantsLast p q
calm_last {p = p} x apart all is =
    last_of_calm all (ap (λ (l : List Event). has_step lets_go l) (append_cancel_left p.seen all x.does.more
    (sym is ∙ seen_by x.does)) ∙ part_lacks lets_go x (λ x h. grind arith) apart)

module _ {first second : SomeKinds} {p q r : PassState} (one : Does first p q) (two : Does second q r) where
  both_are : (all : List Event) → r.seen ≡ p.seen ++ all → all ≡ one.more ++ two.more
  both_are all is = append_cancel_left p.seen all (one.more ++ two.more) (sym is ∙ seen_by_both one two)

  pub none_then : GrantsNone p q → GrantsNone q r → GrantsNone p r
  none_then a b all is =
      ap (λ (l : List Event). has_step is_grant l) (both_are all is)
      ∙ lacks_append is_grant one.more two.more (a one.more (seen_by one)) (b two.more (seen_by two))

  pub last_behind : GrantsNone p q → GrantsLast q r → GrantsLast p r
  last_behind none last all is =
      rw (both_are all is) (last_then one.more two.more (none one.more (seen_by one)) (last two.more (seen_by two)))

-- Where a New asks for room: its cycle's begin and its end come while its object has no place.

-- What has no place among some storage

abbrev NoRoom : Config → Object → List Storage → Type 0
NoRoom c o xs = Fits c.pages c.resident o.words o.leaf xs → ⊥

pub no_place : (c : Config) (es : List Event) (o : Object) → place_after c es o ≡ None → HasNoPlace c o es
no_place c es o none fits = grind arith

pub nowhere_then : (c : Config) (es : List Event) (o : Object) → HasNoPlace c o es → place_after c es o ≡ None
nowhere_then c es o none = grind arith

-- Where all that was seen since asks for no room, or the object has no place at each of it.

pub room_lacks : {kinds : SomeKinds} {p q : PassState} (o : Object) → Part kinds p q → AreApart kinds asks_room
    → AsksRoom o p q
room_lacks {kinds} {p} {q} o x apart part e behind is asks =
    absurd (lacks_at asks_room x.does.more part e behind (part_lacks asks_room x (λ x h. grind arith) apart)
    (append_cancel_left p.seen x.does.more (part ++ e ∷ behind)
    (sym (seen_by x.does) ∙ is ∙ append_assoc p.seen part (e ∷ behind))) asks)

pub room_then : {first second : SomeKinds} {p q r : PassState} (o : Object) → Does first p q → Does second q r
    → AsksRoom o p q → AsksRoom o q r → AsksRoom o p r
room_then {first} {second} {p} {q} {r} o one two a b part e behind is asks =
    let seen = seen_by two in
    ⊎_elim (λ (x : InFirst q.seen (p.seen ++ part) e). a part e x.behind x.is asks) (λ (x : InSecond q.seen two.more
    (p.seen ++ part) e behind). rw x.first (rw (ap (λ (y : PassState). y.table.config) one.is) at (b x.rest
    e behind (seen ∙ ap (λ (l : List Event). q.seen ++ l) x.is ∙ sym (append_assoc q.seen x.rest (e ∷ behind))) asks)))
    (stands _ two.more (p.seen ++ part) e behind (sym seen ∙ is))

-- Up to a `release` an object without a place has none.
module _ {p q : PassState} (o : Object) (seat : IsCallers p) (free : is_pending_free (call_of p) ≡ false)
    (none : HasNoPlace p.table.config o p.seen) (x : Part releases_none p q) where
  none_there : (part rest : List Event) → x.does.more ≡ part ++ rest → HasNoPlace p.table.config o (p.seen ++ part)
  none_there part rest is =
      rw ((stays_reserved p seat x.turn.own free (first_part p releases_none p.seen part rest
      (rw is at (does_stretch x.does x.history x.turn.holds)))).storage) none

  pub room_kept : AsksRoom o p q
  room_kept part e behind is asks =
      none_there part (e ∷ behind) (append_cancel_left p.seen x.does.more (part ++ e ∷ behind)
      (sym (seen_by x.does) ∙ is ∙ append_assoc p.seen part (e ∷ behind)))

  pub none_behind : HasNoPlace p.table.config o q.seen
  none_behind = rw (seen_by x.does) (none_there x.does.more [] (sym (append-nil x.does.more)))

-- So it is after a `begin`, and up to the `close` of a cycle.
pub part_begun : {p q : PassState} → BeginsCycle p q → IsTurn p → IsHistory q.table.config q.seen
    → Part releases_none p q
part_begun {p} {q} law t history =
    let m = law.makes in
    record {
      turn = t;
      stays = λ x h. grind arith;
      does = does_both (widened (λ x h. grind arith) m.before)
          (does_both (does_once m.begin refl) (widened (λ x h. grind arith) m.behind));
      history = history;
    }

pub finish_room : {p q : PassState} (o : Object) → IsCallers p → is_pending_free (call_of p) ≡ false
    → HasNoPlace p.table.config o p.seen → FinishesCycle p q → IsTurn p → IsHistory q.table.config q.seen
    → AsksRoom o p q
finish_room {p} {q} o seat free none law t history =
    let x = part_closing law t in
    let d : Does releases_none p (closing law) = widened (λ x h. grind arith) x.does in
    room_then o d (gives_room_back law)
    (room_kept o seat free none (record { turn = t; stays = λ x h. grind arith; does = d; history = x.history }))
    (room_lacks o (part_behind_closing law t history) (λ x h. grind arith))
