-- Each move of a pass keeps the rule.
use Rattle.std.proofs.Common.{set, ⊎_elim}
use Rattle.mk_laws.proofs.Vocabulary.{Access, AreEnabled, AreOfPages, Caller, Config, Event, Host, IsHistory, IsTidy}
use Rattle.mk_laws.proofs.Vocabulary.{IsWithinLimits, List, Seat, TalliesAreTidy, Words, World, ℕ, access, accessed, ap}
use Rattle.mk_laws.proofs.Vocabulary.{append-nil, append_assoc, enabled_meets, enabled_parts, false, first_world}
use Rattle.mk_laws.proofs.Vocabulary.{histories_keep_lengths, left, left_more, refl, set-get_or, slice_index, slice_set}
use Rattle.mk_laws.proofs.Vocabulary.{subst, suc, sym, true, word_accessed, zero, [], ◌++◌, ◌∙◌, ◌∷◌, ◌≡◌, ◌≢◌}
use Rattle.mk_core.specs.Below.Books.KnownPages.{KnownPages}
use Rattle.mk_core.proofs.{Histories.last_enabled, RegionLemmas.{accesses_change, words_stand}}
use Rattle.mk_core.specs.{History.{AreEnabledFrom, calls_from, left_from, AreOfOthers, Grows}, Cycles.is_give}
use Rattle.mk_core.specs.{Layout.{IsOfTable, in_order, index_of}, Words.{becomes, word_in, zero_words_of}}
use Rattle.mk_core.specs.declared.accesses.TableWord.{TableWord}
use Rattle.atomic_table.proofs.Lists.{at_set}
use Rattle.mk_words.proofs.Seats.{has_either, has_left, has_right, not_both, others_append, others_fewer, others_nobody}
use Rattle.mk_words.proofs.{Seats.{others_none, others_one, others_own}, FreeTurns.{free_stays, map_there}}
use Rattle.mk_words.proofs.{LongerLists.longer_lists, Overs.{overs_later, overs_with, set_there}}
use Rattle.mk_words.{proofs.Tidy.{none_tidy, tidy_more, tidy_part}, specs.declared.rule.View.{View}}
use Rattle.mk_words.specs.States.{CallersAreBeforeOver, Has, HasAll, HasCallers, all_seats, is_over}
use Rattle.mk_words.specs.{PageMaps.{IsMapOf, is_handing}, Rule.{Adds, IsHome, Kept, Mine, adds}}
use Rattle.mk_words.specs.{Rule.{no_part, part, seats_of, settles, view}, declared.rule.Part.Part}
use Rattle.atomic_table.specs.Table.{Allows, Final, Seen, State, Step as TableStep, keeps}
use mathlib.Core.Option.{Option as Maybe, some, some-injective, some-ne-none}
use lib.ListN.{get_elem?}

abbrev pub Table : Type 0
Table = State KnownPages View

-- The history begins with what was seen, and goes on with events of others.
abbrev pub Sees : List Event → Part → Type 0
Sees es p = Grows p.seats p.seen es

abbrev pub Both : List Event → View → Type 0
Both es v = Sees es v.own × Sees es v.came

abbrev pub Apart : List View → Type 0
Apart views = (i j : ℕ) (v w : View) (x : Seat) → get_elem? views i ≡ some v → get_elem? views j ≡ some w
    → Has (seats_of v) x → Has (seats_of w) x → i ≡ j

-- one more event, of another
later : (es : List Event) (p : Part) (e : Event) → (Has p.seats e.seat → ⊥) → Sees es p → Sees (es ++ e ∷ []) p
later es p e none s = record {
  more = s.more ++ e ∷ [];
  is = ap (λ (l : List Event). l ++ e ∷ []) s.is ∙ append_assoc p.seen s.more (e ∷ []);
  of_others = others_append p.seats s.more (e ∷ []) s.of_others (others_one p.seats e none);
}

pub sees_all : (seats : List Seat) (es : List Event) → Sees es (part seats es)
sees_all seats es = record { more = []; is = sym (append-nil es); of_others = others_none seats }

pub sees_none : (es : List Event) → Sees es no_part
sees_none es = record { more = es; is = refl; of_others = others_nobody es }

pub sees_fewer : (es : List Event) (p : Part) (fewer : List Seat) → ((x : Seat) → Has fewer x → Has p.seats x)
    → Sees es p → Sees es (part fewer p.seen)
sees_fewer es p fewer sub s =
    record { more = s.more; is = s.is; of_others = others_fewer p.seats fewer s.more sub s.of_others }

-- one view goes, and has no seats that it had not
origin : (vs : List View) (id : ℕ) (v w : View) → get_elem? vs id ≡ some v → ((x : Seat) → Has (seats_of w) x
    → Has (seats_of v) x) → (i : ℕ) (x : Seat) (d : View) → get_elem? (set vs id w) i ≡ some d → Has (seats_of d) x
    → (b : View) × (get_elem? vs i ≡ some b) × Has (seats_of b) x
origin vs id v w at sub i x d p h =
    ⊎_elim (λ (t : (i ≡ id) × (w ≡ d)). (
      v,
      subst (λ (k : ℕ). get_elem? vs k ≡ some v) (sym t.0) at,
      sub x (subst (λ (z : View). Has (seats_of z) x) (sym t.1) h),
    )) (λ (t : (i ≢ id) × (get_elem? vs i ≡ some d)). (d, t.1, h)) (at_set vs id i w d p)

pub apart_stays : (vs : List View) (id : ℕ) (v w : View) → get_elem? vs id ≡ some v
    → ((x : Seat) → Has (seats_of w) x → Has (seats_of v) x) → Apart vs → Apart (set vs id w)
apart_stays vs id v w at sub apart i j d e x p q hd he =
    let a = origin vs id v w at sub i x d p hd in
    let b = origin vs id v w at sub j x e q he in
    apart i j a.0 b.0 x a.1 b.1 a.2 b.2

-- the words as one list, after an access

changed : (pages : ℕ) (w : Words) (x y : TableWord) (a b : Access) (ws : List ℕ) → AreOfPages pages w
    → IsOfTable pages x → y ≡ x → b ≡ a → ws ≡ in_order w
    → slice_set ws (index_of pages x) (becomes a (slice_index ws (index_of pages x))) ≡ in_order (accessed w y b)
changed pages w x y a b ws of table yx ba is = cc (is, accesses_change pages w x a of table, yx, ba)

finds : (pages : ℕ) (w : Words) (x y : TableWord) (ws : List ℕ) → AreOfPages pages w → IsOfTable pages x → y ≡ x
    → ws ≡ in_order w → slice_index ws (index_of pages x) ≡ word_in w y
finds pages w x y ws of table yx is = cc (words_stand pages w x of table)

-- Where the event leaves the turn free, the slot has the map.
abbrev pub HomesThen : Config → Event → List (Maybe KnownPages) → List Event → Type 0
HomesThen c e homes es =
    IsHistory c (es ++ e ∷ []) → (left c (es ++ e ∷ [])).now.words.turn ≡ 0
    → IsHome homes (left c (es ++ e ∷ [])).now.words

abbrev pub place_there : Mine → Event → ℕ
place_there me e = index_of me.0.config.pages (word_accessed me.0.config (left me.0.config me.0.own.seen).now e)

abbrev pub access_there : Mine → Event → Access
access_there me e = access me.0.config (left me.0.config me.0.own.seen).now e

-- The step of an event, whatever its kind, and whatever the slot has after it.
pub steps_at : (id : ℕ) (me : Mine) (e : Event) → me.0.came ≡ no_part → Has me.0.own.seats e.seat
    → IsHistory me.0.config (me.0.own.seen ++ e ∷ []) → (is_give e.step ≡ true
    → TalliesAreTidy me.0.config me.0.own.seen) → (is_over e.step ≡ true → HasCallers me.0.config me.0.own.seats)
    → (s : Table) (k : Kept me.0.config s) → get_elem? s.views id ≡ some me.0 → (homes : List (Maybe KnownPages))
    → ((es : List Event) → k.events ≡ es → HomesThen me.0.config e homes es)
    → (w : View) × Kept me.0.config (record {
      words = slice_set s.words (place_there me e) (becomes (access_there me e)
          (slice_index s.words (place_there me e)));
      homes = homes;
      views = slice_set s.views id w;
    }) ×
    ((adds : Adds e me.0 (slice_index s.words (place_there me e)) w) × (k.events ≡ me.0.own.seen ++ adds.others))
steps_at id me e alone has may give home s k at homes there =
    let v : View = me.0 in
    let c : Config = v.config in
    let mine = k.sees id v at in
    let more : List Event = mine.0.more in
    let es : List Event = v.own.seen ++ more in
    let go = longer_lists c v.own.seen more e may (subst (λ (l : List Event). IsHistory c l) mine.0.is k.history)
    (others_own v.own.seats e.seat more has mine.0.of_others) in
    let tidy : IsTidy c es = subst (λ (l : List Event). IsTidy c l) mine.0.is k.tidy in
    let of = histories_keep_lengths c es in
    let words : s.words ≡ in_order (left c es).now.words = cc (k.words, mine.0.is) in
    let w : View = record { config = c; own = part v.own.seats (es ++ e ∷ []); came = v.came } in
    let out : Has v.came.seats e.seat
    → ⊥ = λ h. (let n : Has [] e.seat = subst (λ (p : Part). Has p.seats e.seat) alone h in cc) in
    let here : Has (seats_of v) e.seat = has_left v.own.seats v.came.seats e.seat has in
    let overs = overs_later c (left c es).now s.views id v w es e at refl k.apart (subst (λ (l : List Event). (i : ℕ)
    (d : View) → get_elem? s.views i ≡ some d → CallersAreBeforeOver c (seats_of d) l) mine.0.is k.before_over)
    (last_enabled c (first_world c) es e go.history.enabled) here
    (λ h i lt. has_left v.own.seats v.came.seats (Caller i) (home h i lt)) in
    let own_before : CallersAreBeforeOver c v.own.seats (es ++ e ∷ []) =
    λ i lt h over. ⊎_elim (λ (t : Has v.own.seats Host). t)
    (λ (t : Has v.came.seats Host). (let n : Has [] Host = subst (λ (p : Part). Has p.seats Host) alone t in cc))
    (has_either v.own.seats v.came.seats Host
    (overs id w (set_there s.views id v w at) i lt (has_left v.own.seats v.came.seats (Caller i) h) over)) in
    let behind : (d : Part) → (Has d.seats e.seat → ⊥) → Sees k.events d → Sees (es ++ e ∷ []) d =
    λ d none sees. subst (λ (l : List Event). Sees (l ++ e ∷ []) d) mine.0.is (later k.events d e none sees) in (
      w,
      record {
        events = es ++ e ∷ [];
        history = go.history;
        tidy = go.tidy (tidy_more c v.own.seen e (tidy_part c v.own.seen more tidy) give) tidy;
        words =
            changed _ (left c es).now.words (word_accessed c (left c v.own.seen).now e) (word_accessed c (left c es).now
            e) (access c (left c v.own.seen).now e) (access c (left c es).now e) _ of go.same.of_the_table go.same.word
            go.same.access words ∙ sym (ap (λ (x : World). in_order x.now.words) (left_more c (first_world c) es e));
        sees = λ j d p. ⊎_elim (λ (t : (j ≡ id) × (w ≡ d)). subst (Both (es ++ e ∷ [])) t.1 (
          sees_all v.own.seats
              (es ++ e ∷ []),
          behind v.came out mine.1,
        )) (λ (t : (j ≢ id) × (get_elem? s.views j ≡ some d)).
            let old = k.sees j d t.1 in
            let none : Has (seats_of d) e.seat
            → ⊥ = λ h. t.0 (k.apart j id d v e.seat t.1 at h (has_left v.own.seats v.came.seats e.seat has)) in (
              behind d.own (λ h. none (has_left d.own.seats d.came.seats e.seat h)) old.0,
              behind d.came (λ h. none (has_right d.own.seats d.came.seats e.seat h)) old.1,
            )) (at_set s.views id j w d p);
        apart = apart_stays s.views id v w at (λ x h. h) k.apart;
        before_over = overs;
        home = there es mine.0.is go.history;
      },
      (
        record {
          others = more;
          of_others = mine.0.of_others;
          is = refl;
          history = go.history;
          tidy = go.tidy (tidy_more c v.own.seen e (tidy_part c v.own.seen more tidy) give) tidy;
          before_over = own_before;
          finds =
              finds _ (left c es).now.words (word_accessed c (left c v.own.seen).now e)
              (word_accessed c (left c es).now e) _ of go.same.of_the_table go.same.word words;
        },
        mine.0.is,
      ),
    )

-- a step that leaves the map where it is
pub performs_at : (slots id : ℕ) (me : Mine) (e : Event) (st : TableStep KnownPages) → me.0.came ≡ no_part
    → Has me.0.own.seats e.seat → IsHistory me.0.config (me.0.own.seen ++ e ∷ [])
    → (is_give e.step ≡ true → TalliesAreTidy me.0.config me.0.own.seen)
    → (is_over e.step ≡ true → HasCallers me.0.config me.0.own.seats) → is_handing e.step ≡ false
    → Allows (Kept me.0.config) slots id me (place_there me e) (becomes (access_there me e)) (λ n m. adds e st me n m)
performs_at slots id me e st alone has may give home kind s k long at small =
    let c : Config = me.0.config in
    let t = steps_at id me e alone has may give home s k at s.homes (λ es is h free.
    let f = free_stays c es e h kind free in
    let m = k.home (ap (λ (l : List Event). (left c l).now.words.turn) is ∙ f.free) in (
      m.0,
      m.1,
      map_there c es e m.0 h f.unmarks f.pages (subst (λ (l : List Event). IsMapOf m.0 (left c l).now.words) is m.2),
    )) in
    (t.0, keeps, tt, t.1, (refl, t.2.0))

-- A look that takes in what came by a join.
pub settles_at : (slots id : ℕ) (me : Mine) (st : TableStep KnownPages)
    → Allows (Kept me.0.config) slots id me 0 (λ n. n) (settles st me)
settles_at slots id me st s k long at small =
    let v : View = me.0 in
    let mine = k.sees id v at in
    let w : View = view v.config (seats_of v) k.events in (
      w,
      keeps,
      tt,
      record {
        events = k.events;
        history = k.history;
        tidy = k.tidy;
        words = set-get_or s.words 0 0 ∙ k.words;
        sees = λ j d p. ⊎_elim
            (λ (t : (j ≡ id) × (w ≡ d)). subst (Both k.events) t.1 (sees_all (seats_of v) k.events, sees_none k.events))
            (λ (t : (j ≢ id) × (get_elem? s.views j ≡ some d)). k.sees j d t.1) (at_set s.views id j w d p);
        home = k.home;
        apart = apart_stays s.views id v w at (λ x h. ⊎_elim (λ (u : Has (seats_of v) x). u) (λ (u : Has [] x). cc)
            (has_either (seats_of v) [] x h)) k.apart;
        before_over = overs_with v.config s.views id w k.events k.before_over (λ i lt h over. has_left
            (seats_of v) [] Host (k.before_over id v at i lt (⊎_elim (λ (u : Has (seats_of v) (Caller i)). u)
            (λ (u : Has [] (Caller i)). cc) (has_either (seats_of v) [] (Caller i) h)) over));
      },
      (
        refl,
        record {
          is = refl;
          own = mine.0;
          came = mine.1;
          history = k.history;
          tidy = k.tidy;
          before_over = k.before_over id v at;
        },
      ),
    )

-- at first

one_view : (i : ℕ) (v w : View) → get_elem? (v ∷ []) i ≡ some w → (i ≡ 0) × (v ≡ w)
one_view zero v w e = (refl, some-injective v w e)
one_view (suc i) v w e = absurd (some-ne-none w (sym e))

pub opens : (c : Config) (s : Table) → IsWithinLimits c → s.words ≡ in_order (zero_words_of c.pages) → s.views
    ≡ view c (all_seats c) [] ∷ [] → (map : KnownPages) → s.homes ≡ some map ∷ []
    → IsMapOf map (zero_words_of c.pages) → Kept c s
unfolding left_from AreEnabledFrom calls_from
opens c s limits words_are views_are map homes_are shows =
    let of_first : (i : ℕ) (d : View) → get_elem? s.views i ≡ some d → (i ≡ 0) × (view c (all_seats c) [] ≡ d) =
    λ i d p. one_view i (view c (all_seats c) []) d (subst (λ (l : List View). get_elem? l i ≡ some d) views_are p) in
    record {
      events = [];
      history = record { within_limits = limits; enabled = tt; admitted = tt };
      tidy = none_tidy c;
      words = words_are;
      sees = λ j d p. subst (Both []) (of_first j d p).1 (sees_all (all_seats c) [], sees_none []);
      apart = λ i j d e x p q hd he. (of_first i d p).0 ∙ sym (of_first j e q).0;
      before_over = λ i d p k lt h over. cc;
      home = λ free. (map, ap (λ (l : List (Maybe KnownPages)). get_elem? l 0) homes_are, shows);
    }

-- At the end a pass that has all seats has seen the history whole.

pub record Ended (c : Config) (seen : List Event) (ws : List ℕ) : Type 0 where
  pub history : IsHistory c seen
  pub tidy : IsTidy c seen
  pub words : ws ≡ in_order (left c seen).now.words

none_left : (c : Config) (w : World) (seats : List Seat) (es : List Event) → HasAll c seats → AreEnabledFrom c w es
    → AreOfOthers seats es → es ≡ []
unfolding AreEnabledFrom AreOfOthers
none_left c w seats [] all on others = refl
none_left c w seats (e ∷ es) all on others =
    absurd (not_both seats e.seat others.0 (all e.seat (enabled_meets c w.now e on.0).seat))

pub closes : (c : Config) (id : ℕ) (me : Mine) (ws : List ℕ) (xs : List KnownPages) → HasAll c me.0.own.seats
    → Final (Seen (Kept c) id me.0) ws xs → Ended c me.0.own.seen ws
closes c id me ws xs all f =
    let k = f.1.0 in
    let v : View = me.0 in
    let mine = (k.sees id v f.1.1).0 in
    let on = (enabled_parts c (first_world c) v.own.seen mine.more
    (subst (λ (l : List Event). AreEnabled c l) mine.is k.history.enabled)).1 in
    let no_rest : mine.more ≡ [] = none_left c (left c v.own.seen) v.own.seats mine.more all on mine.of_others in
    let whole : k.events ≡ v.own.seen = cc (mine.is, no_rest, append-nil v.own.seen) in
    record {
      history = subst (λ (l : List Event). IsHistory c l) whole k.history;
      tidy = subst (λ (l : List Event). IsTidy c l) whole k.tidy;
      words = sym f.2 ∙ k.words ∙ ap (λ (l : List Event). in_order (left c l).now.words) whole;
    }
