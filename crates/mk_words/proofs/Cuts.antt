-- Splits and joins of passes keep the rule.
use Rattle.std.proofs.Common.{set, ⊎_elim}
use Rattle.mk_laws.proofs.Vocabulary.{AreEnabled, Caller, Config, Event, Host, IsHistory, List, Seat, ℕ, ap}
use Rattle.mk_laws.proofs.Vocabulary.{enabled_parts, false, first_world, inl, inr, left, length, refl, subst, suc, sym}
use Rattle.mk_laws.proofs.Vocabulary.{true, zero, [], ◌++◌, ◌∙◌, ◌∷◌, ◌≡◌, ◌≢◌, ◌⊎◌}
use Rattle.mk_core.specs.History.{is_same_seat}
use Rattle.atomic_table.{proofs.Lists.{at_set, set_else}, specs.Table.{Joins, Splits}}
use Rattle.mk_words.proofs.Keeps.{Apart, Both, Sees, apart_stays, sees_fewer, sees_none}
use Rattle.mk_words.proofs.Seats.{has_either, has_left, has_right, only_one, without_it, without_keeps, without_less}
use Rattle.mk_words.proofs.Overs.{none_in_parts, none_over, overs_with}
use Rattle.mk_words.specs.Rule.{Kept, beside, goes_with, no_part, nobody, seats_of, stays_with, view}
use Rattle.mk_words.specs.States.{CallersAreBeforeOver, Has, has_over, is_caller, without_seat}
use Rattle.mk_words.specs.declared.rule.{Part.Part, View.View}
use mathlib.Core.Option.{some, some-injective, some-ne-none}
use lib.ListN.{get_elem?}

-- A cut: what stays and what goes have seen as much as the view, and have seats of it, none in common.
pub record Cut (v left right : View) : Type 0 where
  pub stays : (x : Seat) → Has (seats_of left) x → Has (seats_of v) x
  pub goes : (x : Seat) → Has (seats_of right) x → Has (seats_of v) x
  pub alone : (x : Seat) → Has (seats_of left) x → Has (seats_of right) x → ⊥
  pub sees : (es : List Event) → Both es v → Both es left × Both es right
  pub before_over : (c : Config) (es : List Event) → IsHistory c es → Sees es v.own
      → CallersAreBeforeOver c (seats_of v) es
      → CallersAreBeforeOver c (seats_of left) es × CallersAreBeforeOver c (seats_of right) es

snoc_at : (l : List View) (a b : View) (j : ℕ) → get_elem? (l ++ a ∷ []) j ≡ some b
    → (get_elem? l j ≡ some b) ⊎ ((j ≡ length l) × (a ≡ b))
snoc_at [] a b zero e = inr (refl, some-injective a b e)
snoc_at [] a b (suc j) e = absurd (some-ne-none b (sym e))
snoc_at (x ∷ l) a b zero e = inl e
snoc_at (x ∷ l) a b (suc j) e =
    ⊎_elim (λ (t : get_elem? l j ≡ some b). inl t) (λ (t : (j ≡ length l) × (a ≡ b)). inr (ap suc t.0, t.1))
    (snoc_at l a b j e)

pub splits : (c : Config) (id : ℕ) (v left_v right_v : View) → Cut v left_v right_v
    → Splits (Kept c) id v left_v right_v
splits c id v left_v right_v cut s k at =
    let vs : List View = set s.views id left_v in
    let apart : Apart vs = apart_stays s.views id v left_v at cut.stays k.apart in
    -- nobody else has what goes
    let nobody_has : (j : ℕ) (d : View) (x : Seat) → get_elem? vs j ≡ some d → Has (seats_of d) x
    → Has (seats_of right_v) x → ⊥ =
    λ j d x p h r. ⊎_elim
    (λ (t : (j ≡ id) × (left_v ≡ d)). cut.alone x (subst (λ (z : View). Has (seats_of z) x) (sym t.1) h) r)
    (λ (t : (j ≢ id) × (get_elem? s.views j ≡ some d)). t.0 (k.apart j id d v x t.1 at h (cut.goes x r)))
    (at_set s.views id j left_v d p) in
    let sees = cut.sees k.events (k.sees id v at) in
    let overs = cut.before_over c k.events k.history (k.sees id v at).0 (k.before_over id v at) in
    record {
      events = k.events;
      history = k.history;
      tidy = k.tidy;
      words = k.words;
      home = k.home;
      sees = λ j d p. ⊎_elim (λ (u : get_elem? vs j ≡ some d). ⊎_elim
          (λ (t : (j ≡ id) × (left_v ≡ d)). subst (Both k.events) t.1 sees.0)
          (λ (t : (j ≢ id) × (get_elem? s.views j ≡ some d)). k.sees j d t.1) (at_set s.views id j left_v d u))
          (λ (u : (j ≡ length vs) × (right_v ≡ d)). subst (Both k.events) u.1 sees.1) (snoc_at vs right_v d j p);
      apart = λ i j d e x p q hd he. ⊎_elim (λ (a : get_elem? vs i ≡ some d). ⊎_elim
          (λ (b : get_elem? vs j ≡ some e). apart i j d e x a b hd he) (λ (b : (j ≡ length vs) × (right_v ≡ e)). absurd
          (nobody_has i d x a hd (subst (λ (z : View). Has (seats_of z) x) (sym b.1) he))) (snoc_at vs right_v e j q))
          (λ (a : (i ≡ length vs) × (right_v ≡ d)). ⊎_elim (λ (b : get_elem? vs j ≡ some e). absurd
          (nobody_has j e x b he (subst (λ (z : View). Has (seats_of z) x) (sym a.1) hd))) (λ (b : (j ≡ length vs) ×
          (right_v ≡ e)). a.0 ∙ sym b.0) (snoc_at vs right_v e j q)) (snoc_at vs right_v d i p);
      before_over = λ j d p. ⊎_elim (λ (u : get_elem? vs j ≡ some d). overs_with c s.views id left_v k.events
          k.before_over overs.0 j d u) (λ (u : (j ≡ length vs) × (right_v ≡ d)). subst
          (λ (z : View). CallersAreBeforeOver c (seats_of z) k.events) u.1 overs.1) (snoc_at vs right_v d j p);
    }

-- a seat is handed over, or none is

pub hands_over : (x : Seat) (v : View) → v.came ≡ no_part → Has v.own.seats x → Has v.own.seats Host
    → is_same_seat x Host ≡ false
    → (is_caller x ≡ true → has_over v.own.seen ≡ false) → Cut v (stays_with x v) (goes_with x v)
hands_over x v alone has host another early =
    let left_v : View = stays_with x v in
    let right_v : View = goes_with x v in
    let out : (y : Seat) → Has v.came.seats y
    → ⊥ = λ y h. (let n : Has [] y = subst (λ (p : Part). Has p.seats y) alone h in cc) in
    let only : (y : Seat) → Has (seats_of right_v) y → y ≡ x = λ y h. only_one x y h in
    record {
      stays = λ y h. ⊎_elim (λ (t : Has (without_seat x v.own.seats) y). has_left v.own.seats v.came.seats y
          (without_less x v.own.seats y t)) (λ (t : Has v.came.seats y). has_right v.own.seats v.came.seats y t)
          (has_either (without_seat x v.own.seats) v.came.seats y h);
      goes = λ y h. subst (λ (z : Seat). Has (seats_of v) z) (sym (only y h)) (has_left v.own.seats v.came.seats x has);
      alone = λ y h r. ⊎_elim (λ (t : Has (without_seat x v.own.seats) x). without_it x v.own.seats t)
          (λ (t : Has v.came.seats x). out x t) (has_either (without_seat x v.own.seats) v.came.seats x
          (subst (λ (z : Seat). Has (seats_of left_v) z) (only y r) h));
      sees = λ es mine. (
        (sees_fewer es v.own (without_seat x v.own.seats) (λ y h. without_less x v.own.seats y h) mine.0, mine.1),
        (
          sees_fewer es v.own (x ∷ []) (λ y h. subst (λ (z : Seat). Has v.own.seats z) (sym (only_one x y h)) has)
              mine.0,
          sees_none es,
        ),
      );
      before_over = λ c es history sees before. (
        λ i lt h over. has_left (without_seat x v.own.seats) v.came.seats Host
            (without_keeps x v.own.seats Host another host),
        λ i lt h over.
            let caller : is_caller x ≡ true = ap (λ (z : Seat). is_caller z) (sym (only (Caller i) h)) in
            let parts : AreEnabled c (v.own.seen ++ sees.more) =
            subst (λ (l : List Event). AreEnabled c l) sees.is history.enabled in
            let rest = none_over c (left c v.own.seen) v.own.seats sees.more host sees.of_others
            (enabled_parts c (first_world c) v.own.seen sees.more parts).1 in
            let none : has_over es ≡ false = cc (sees.is, none_in_parts v.own.seen sees.more (early caller) rest) in
            let both : true ≡ false = sym over ∙ none in cc,
      );
    }

pub remembers : (v : View) → Cut v v (view v.config [] v.own.seen)
remembers v = record {
  stays = λ y h. h;
  goes = λ y h. cc;
  alone = λ y h r. cc;
  sees = λ es mine. (mine, (sees_fewer es v.own [] (λ y h. cc) mine.0, sees_none es));
  before_over = λ c es history sees before. (before, λ i lt h over. cc);
}

-- where nothing came, its seats are its own
own_only : (v : View) → v.came ≡ no_part → (x : Seat) → Has (seats_of v) x → Has v.own.seats x
own_only v alone x h =
    ⊎_elim (λ (t : Has v.own.seats x). t)
    (λ (t : Has v.came.seats x). (let n : Has [] x = subst (λ (p : Part). Has p.seats x) alone t in cc))
    (has_either v.own.seats v.came.seats x h)

pub joins : (c : Config) (id : ℕ) (v : View) (other : ℕ) (w : View) → v.came ≡ no_part → w.came ≡ no_part
    → Joins (Kept c) id v other w (beside v w) nobody
joins c id v other w v_alone w_alone s k at ne there_set =
    let both : View = beside v w in
    let vs : List View = set s.views id both in
    let there : get_elem? s.views other ≡ some w = sym (set_else s.views id other both ne) ∙ there_set in
    let mine = k.sees id v at in
    let theirs = k.sees other w there in
    let from : (i : ℕ) (d : View) (x : Seat) → get_elem? (set vs other nobody) i ≡ some d → Has (seats_of d) x → (i ≢
    other) × (((b : View) × (get_elem? s.views i ≡ some b) × Has (seats_of b) x) ⊎ ((i ≡ id) × Has (seats_of w) x)) =
    λ i d x p h. ⊎_elim (λ (t : (i ≡ other) × (nobody ≡ d)). (let n : Has [] x = subst
    (λ (z : View). Has (seats_of z) x) (sym t.1) h in cc)) (λ (t : (i ≢ other) × (get_elem? vs i ≡ some d)). (
      t.0,
      ⊎_elim (λ (u : (i ≡ id) × (both ≡ d)). ⊎_elim (λ (a : Has v.own.seats x). inl (
        v,
        subst (λ (z : ℕ). get_elem? s.views z ≡ some v) (sym u.0) at,
        has_left v.own.seats v.came.seats x a,
      )) (λ (b : Has w.own.seats x). inr (u.0, has_left w.own.seats w.came.seats x b))
          (has_either v.own.seats w.own.seats x (subst (λ (z : View). Has (seats_of z) x) (sym u.1) h)))
          (λ (u : (i ≢ id) × (get_elem? s.views i ≡ some d)). inl (d, u.1, h)) (at_set s.views id i both d t.1),
    )) (at_set vs other i nobody d p) in
    record {
      events = k.events;
      history = k.history;
      tidy = k.tidy;
      words = k.words;
      home = k.home;
      sees = λ j d p. ⊎_elim
          (λ (t : (j ≡ other) × (nobody ≡ d)). subst (Both k.events) t.1 (sees_none k.events, sees_none k.events))
          (λ (t : (j ≢ other) × (get_elem? vs j ≡ some d)). ⊎_elim
          (λ (u : (j ≡ id) × (both ≡ d)). subst (Both k.events) u.1 (mine.0, theirs.0))
          (λ (u : (j ≢ id) × (get_elem? s.views j ≡ some d)). k.sees j d u.1) (at_set s.views id j both d t.1))
          (at_set vs other j nobody d p);
      apart = λ i j d e x p q hd he.
          let a = from i d x p hd in
          let b = from j e x q he in
          ⊎_elim (λ (l : (g : View) × (get_elem? s.views i ≡ some g) × Has (seats_of g) x). ⊎_elim
          (λ (r : (g : View) × (get_elem? s.views j ≡ some g) × Has (seats_of g) x). k.apart i j l.0 r.0 x l.1 r.1 l.2
          r.2) (λ (r : (j ≡ id) × Has (seats_of w) x). absurd (a.0 (k.apart i other l.0 w x l.1 there l.2 r.1))) b.1)
          (λ (l : (i ≡ id) × Has (seats_of w) x). ⊎_elim
          (λ (r : (g : View) × (get_elem? s.views j ≡ some g) × Has (seats_of g) x). absurd
          (b.0 (k.apart j other r.0 w x r.1 there r.2 l.1))) (λ (r : (j ≡ id) × Has (seats_of w) x). l.0 ∙ sym r.0) b.1)
          a.1;
      before_over = overs_with c vs other nobody k.events (overs_with c s.views id both k.events k.before_over
          (λ i lt h over. ⊎_elim (λ (a : Has v.own.seats (Caller i)). has_left v.own.seats w.own.seats Host
          (own_only v v_alone Host (k.before_over id v at i lt (has_left v.own.seats v.came.seats (Caller i) a) over)))
          (λ (b : Has w.own.seats (Caller i)). has_right v.own.seats w.own.seats Host (own_only w w_alone Host
          (k.before_over other w there i lt (has_left w.own.seats w.came.seats (Caller i) b) over)))
          (has_either v.own.seats w.own.seats (Caller i) h))) (λ i lt h over. cc);
    }
