-- Turns that are held: the turn word meanwhile, that a turn of a seat is one, and who begins a cycle in one.
use Rattle.std.proofs.lemmas.List.{append_cancel_left}
use Rattle.mk_caller.proofs.{Below.Laws.Vocabulary.{enabled_meets, ◌≢◌}, Below.Laws.Actors.is_holders}
use Rattle.mk_caller.proofs.{Below.Laws.Basics.{actor_of, known_behind}, Below.Laws.CyclePhases.begin_is}
use Rattle.mk_caller.proofs.{Below.Laws.FramesHolders.acts_as_holder, Below.Laws.LayoutHolders.giver_has_turn}
use Rattle.mk_alloc.proofs.QuarantineVocabulary.{At, Bool, Caller, Config, Event, GivesNone, HoldsTurn, InFirst}
use Rattle.mk_alloc.proofs.QuarantineVocabulary.{InSecond, IsHistory, Known, Lacks, List, Meets, Next, Seat, Step}
use Rattle.mk_alloc.proofs.QuarantineVocabulary.{TurnOf, World, WorldBehind, ℕ, and-false, and_from, ap, append-nil}
use Rattle.mk_alloc.proofs.QuarantineVocabulary.{append_assoc, arith, before_it, cases_Bool, earlier_part_is_history}
use Rattle.mk_alloc.proofs.QuarantineVocabulary.{enabled_in_parts, eq-eqb, false, has_step, inl, inr, is_begin, is_give}
use Rattle.mk_alloc.proofs.QuarantineVocabulary.{is_same_seat, known_left, lacks_first, left, left_in_parts, left_more}
use Rattle.mk_alloc.proofs.QuarantineVocabulary.{list_any, list_any-append, ltb-true, ne_eqb, or_from, or_parts}
use Rattle.mk_alloc.proofs.QuarantineVocabulary.{own_give, refl, reg_leaves, stands, subst, sym, taken, tally_keeps}
use Rattle.mk_alloc.proofs.QuarantineVocabulary.{true, true≢false, turn_of, view_of, world_behind, [], ⊎_elim, ◌++◌}
use Rattle.mk_alloc.proofs.QuarantineVocabulary.{◌+◌, ◌<◌, ◌∙◌, ◌∷◌, ◌≡◌}
use Rattle.mk_core.specs.History.{AreEnabledFrom, left_from}

-- The turn word while nobody gives the turn back, and that a turn of a seat is one.

-- with one event more at the front
abbrev pub one_later : {kind : Step → Bool} {es : List Event} (e : Event) → At kind es → At kind (e ∷ es)
one_later e at = record {
  before = e ∷ at.before;
  event = at.event;
  behind = at.behind;
  is = ap (λ (l : List Event). e ∷ l) at.is;
  of_kind = at.of_kind;
}

-- the first event of a kind, if there is one
pub next_of : (kind : Step → Bool) (es : List Event) → (Lacks kind es → ⊥) → Next kind es
next_of kind [] some = absurd (some refl)
next_of kind (e ∷ es) some = elim (cases_Bool (kind e.step)) [
  | inl is ↦ record { at = record { before = []; event = e; behind = es; is = refl; of_kind = is }; none_before = refl }
  | inr none ↦
      let rest = next_of kind es (λ lacks. some (or_from (kind e.step) (has_step kind es) none lacks)) in
      record { at = one_later e rest.at; none_before = or_from _ (has_step kind rest.at.before) none rest.none_before }
]

-- the last event of a kind, if there is one

pub record Last (kind : Step → Bool) (es : List Event) : Type 0 where
  pub at : At kind es
  pub none : Lacks kind at.behind

pub last_of : (kind : Step → Bool) (es : List Event) → (Lacks kind es → ⊥) → Last kind es
last_of kind [] some = absurd (some refl)
last_of kind (e ∷ es) some = elim (cases_Bool (has_step kind es)) [
  | inl has ↦
      let rest = last_of kind es (λ lacks. true≢false (sym has ∙ lacks)) in
      record { at = one_later e rest.at; none = rest.none }
  | inr lacks ↦ elim (cases_Bool (kind e.step)) [
    | inl is ↦ record { at = record { before = []; event = e; behind = es; is = refl; of_kind = is }; none = lacks }
    | inr off ↦ absurd (some (or_from (kind e.step) (has_step kind es) off lacks))
  ]
]

-- One event: a turn that is held stays so, unless it is given back.
turn_kept : (c : Config) (w : World) (seat : Seat) (x : Step) → w.now.words.turn ≢ 0 → is_give x ≡ false
    → (WorldBehind c w seat x).now.words.turn ≡ w.now.words.turn
turn_kept c w seat x4 held none = grind (arith, ne_eqb, reg_leaves, tally_keeps)

-- Whatever seat holds it, it stays held where nobody gives a turn back.

kept_from : (c : Config) (w : World) (es : List Event) → w.now.words.turn ≢ 0 → Lacks is_give es
    → (left_from c w es).now.words.turn ≡ w.now.words.turn
unfolding left_from
kept_from c w [] held none = refl
kept_from c w (e ∷ es) held none =
    let parts = or_parts (is_give e.step) (has_step is_give es) none in
    let same = turn_kept c w e.seat e.step held parts.0 in
    kept_from c (world_behind c w e) es (λ z. held (sym same ∙ z)) parts.1 ∙ same

pub turn_stays_taken : (c : Config) (es more : List Event) → (left c es).now.words.turn ≢ 0 → Lacks is_give more
    → (left c (es ++ more)).now.words.turn ≡ (left c es).now.words.turn
turn_stays_taken c es more held none = grind (arith, left_in_parts, kept_from)

-- A caller is the one that gives its turn back.
giver_is : {c : Config} (w : World) (seat : Seat) (k : ℕ) → Known c w.now → k < c.callers → w.now.words.turn ≡ 1 + k
    → Meets c w.now seat Step.Give → seat ≡ Caller k
giver_is {c} w seat k known lt turn meets = by seat (giver_has_turn c w.now seat known meets)
  where
    by : (seat : Seat) → HoldsTurn c (view_of w.now) seat → seat ≡ Caller k
    by x1 holds = grind (arith, turn_of, view_of)

give_is : (x : Step) → is_give x ≡ true → x ≡ Step.Give
give_is x1 h = grind arith

same_caller : (k : ℕ) → is_same_seat (Caller k) (Caller k) ≡ true
same_caller k = eq-eqb k k refl

held_by_one : {c : Config} (w : World) (e : Event) (k : ℕ) → Known c w.now → k < c.callers → w.now.words.turn ≡ 1 + k
    → Meets c w.now e.seat e.step → own_give (Caller k) e ≡ false → (world_behind c w e).now.words.turn ≡ 1 + k
held_by_one {c} w e k known lt turn meets none =
    ⊎_elim (λ (gives : is_give e.step ≡ true). absurd (true≢false (sym (and_from (is_same_seat (Caller k) e.seat)
    (is_give e.step) (subst (λ (s : Seat). is_same_seat (Caller k) s ≡ true) (sym (giver_is w e.seat k known lt turn
    (subst (λ (x : Step). Meets c w.now e.seat x) (give_is e.step gives) meets))) (same_caller k)) gives) ∙ none))) (λ
    (off : is_give e.step ≡ false). turn_kept c w e.seat e.step (λ z. omega arith) off ∙ turn) (cases_Bool _)

held_from : {c : Config} (w : World) (k : ℕ) (es : List Event) → Known c w.now → AreEnabledFrom c w es → k < c.callers
    → w.now.words.turn ≡ 1 + k → GivesNone (Caller k) es → (left_from c w es).now.words.turn ≡ 1 + k
unfolding AreEnabledFrom left_from
held_from w k [] known on lt turn none = turn
held_from {c} w k (e ∷ es) known on lt turn none =
    let parts = or_parts (own_give (Caller k) e) (list_any (own_give (Caller k)) es) none in
    held_from (world_behind c w e) k es (known_behind c w.now e known on.0) on.1 lt
    (held_by_one w e k known lt turn (enabled_meets c w.now e on.0) parts.0) parts.1

-- In a history the caller's turn word stays where it gives no turn back.
pub turn_stays_held : {c : Config} (es more : List Event) (k : ℕ) → IsHistory c (es ++ more) → k < c.callers
    → (left c es).now.words.turn ≡ 1 + k → GivesNone (Caller k) more → (left c (es ++ more)).now.words.turn ≡ 1 + k
turn_stays_held es more k h lt turn none =
    grind (arith, earlier_part_is_history, left_in_parts, held_from, known_left, enabled_in_parts)

-- Where nobody gives a turn back, this caller doesn't.
pub lacks_own : (s : Seat) (es : List Event) → Lacks is_give es → GivesNone s es
lacks_own s [] none = refl
lacks_own s (e ∷ es) none =
    let parts = or_parts (is_give e.step) (has_step is_give es) none in
    or_from (own_give s e) (list_any (own_give s) es) (grind (arith, and-false)) (lacks_own s es parts.1)

-- The first `give` is the holder's.
pub first_giver : (c : Config) (es : List Event) {more : List Event} (k : ℕ) → IsHistory c (es ++ more) → k < c.callers
    → (left c es).now.words.turn ≡ 1 + k → (g : Next is_give more)
    → (g.at.event.step ≡ Step.Give) × (g.at.event.seat ≡ Caller k)
first_giver c es {more = more} k h lt turn g =
    let here = before_it c (es ++ more) (es ++ g.at.before) g.at.event g.at.behind h (grind (arith, append_assoc)) in
    let gives = give_is g.at.event.step g.at.of_kind in
    let held = turn_stays_held es g.at.before k here.0 lt turn (lacks_own (Caller k) g.at.before g.none_before) in (
      gives,
      giver_is (left c _) g.at.event.seat k (known_left c (es ++ g.at.before) here.0.within_limits here.0.enabled) lt
          held (subst (λ (x : Step). Meets c (left c (es ++ g.at.before)).now g.at.event.seat x) gives here.1),
    )

-- After a list a caller is in one turn: where it took it, for what, and what came then.

module _ {c : Config} {k : ℕ} {es : List Event} (h : IsHistory c es) (t : TurnOf c (Caller k) es) where
  pub taker_exists : k < c.callers
  taker_exists = ltb-true k c.callers (before_it c es t.before (taken t) t.behind h t.is).1.seat

  -- up to any event of the turn
  pub turn_held_in : (part rest : List Event) → t.behind ≡ part ++ rest
      → (left c (t.before ++ taken t ∷ part)).now.words.turn ≡ 1 + k
  turn_held_in part rest is =
      let whole : es ≡ (t.before ++ taken t ∷ part) ++ rest = grind (arith, append_assoc, taken) in
      let first : IsHistory c (t.before ++ taken t ∷ part) = grind (arith, earlier_part_is_history, taken) in
      let split = append_assoc t.before (taken t ∷ []) part in
      grind (arith, or_parts, own_give, list_any-append, turn_stays_held, taken, taker_exists, left_more, eq-eqb)

pub record IsSameTurn (c : Config) (k : ℕ) (es : List Event) (t u : TurnOf c (Caller k) es) : Type 0 where
  pub before : u.before ≡ t.before
  pub op : u.op ≡ t.op
  pub behind : u.behind ≡ t.behind

-- A turn isn't taken within another.
apart : (c : Config) (k : ℕ) (es : List Event) (t u : TurnOf c (Caller k) es) → IsHistory c es → (part : List Event)
    → t.before ≡ u.before ++ taken u ∷ part → ⊥
apart c k es t u h part is =
    let whole : u.before ++ taken u ∷ u.behind ≡ u.before ++ taken u ∷ (part ++ taken t ∷ t.behind) =
    cc (u.is, t.is, is, append_assoc u.before (taken u ∷ part) (taken t ∷ t.behind)) in
    let same : taken u ∷ u.behind ≡ taken u ∷ (part ++ taken t ∷ t.behind) = grind (arith, append_cancel_left, taken) in
    let held = turn_held_in h u part (taken t ∷ t.behind) cc in
    grind (arith, taken)

pub one_turn : {c : Config} {k : ℕ} {es : List Event} (t u : TurnOf c (Caller k) es) → IsHistory c es
    → IsSameTurn c k es t u
one_turn {c} {k} {es} t u h =
    ⊎_elim (λ (f : InFirst t.before u.before (taken u)). absurd (apart c k es t u h f.behind f.is))
    (λ (s : InSecond t.before (taken t ∷ t.behind) u.before (taken u) u.behind). by s.rest s.first s.is)
    (stands t.before (taken t ∷ t.behind) u.before (taken u) u.behind (sym t.is ∙ u.is))
  where
    by : (rest : List Event) → u.before ≡ t.before ++ rest → taken t ∷ t.behind ≡ rest ++ taken u ∷ u.behind
        → IsSameTurn c k es t u
    by [] first is = grind (arith, taken, append-nil)
    by (y ∷ ys) first is = absurd (apart c k es u t h ys (first ∙ ap (λ (e : Event). t.before ++ e ∷ ys) (sym cc)))

-- Who begins a cycle holds the turn, so a turn that was taken before goes on over the `begin`.

pub beginner_holds : {c : Config} {es : List Event} (b : At is_begin es) → IsHistory c es
    → HoldsTurn c (view_of (left c b.before).now) b.event.seat
beginner_holds {c} {es} b h =
    let here = before_it c es b.before b.event b.behind h b.is in
    acts_as_holder c (left c b.before).now _ _ (actor_of c (left c b.before).now _ _
    (known_left c b.before here.0.within_limits here.0.enabled).orderly here.1) (ap is_holders (begin_is _ b.of_kind))

pub begun_under_turn : {c : Config} {es : List Event} (b : At is_begin es) → IsHistory c es
    → (left c b.before).now.words.turn ≢ 0
begun_under_turn {c} {es} b h none =
    let here = before_it c es b.before b.event b.behind h b.is in
    let known = known_left c b.before here.0.within_limits here.0.enabled in
    let held = turn_of c (view_of (left c b.before).now) b.event.seat known.orderly (beginner_holds b h) in
    omega arith

pub begin_gives_none : (x : Step) → is_begin x ≡ true → is_give x ≡ false
begin_gives_none x1 is = grind arith

-- The `begin` stands in a turn that goes on after it, where nobody gave a turn back since.
pub record BeginsInTurn {c : Config} {k : ℕ} {es : List Event} (t : TurnOf c (Caller k) es) (b : Event)
    (behind : List Event) : Type 0 where
  pub before : List Event
  pub is : t.behind ≡ before ++ b ∷ behind

pub begun_in_turn : {c : Config} {k : ℕ} {es : List Event} (b : At is_begin es) → IsHistory c es
    → Lacks is_give b.behind → (t : TurnOf c (Caller k) es) → BeginsInTurn t b.event b.behind
begun_in_turn b h none t =
    ⊎_elim (λ (f : InFirst t.before b.before b.event). absurd (grind (
      arith,
      taken,
      append_assoc,
      append_cancel_left,
      lacks_first,
      begun_under_turn,
      turn_stays_taken,
      or_from,
      begin_gives_none,
    )))
    (λ (s : InSecond t.before (taken t ∷ t.behind) b.before b.event b.behind). by s.rest s.is)
    (stands t.before (taken t ∷ t.behind) b.before b.event b.behind (sym t.is ∙ b.is))
  where
    by : (rest : List Event) → taken t ∷ t.behind ≡ rest ++ b.event ∷ b.behind → BeginsInTurn t b.event b.behind
    by [] is = grind (arith, taken)
    by (y ∷ ys) is = grind arith
