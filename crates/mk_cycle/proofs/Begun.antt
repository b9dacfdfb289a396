-- What an engine does after each `begin`, in parts, by kinds of step, and at the `begin` itself.
use Rattle.std.proofs.{Common.⊎_elim, lemmas.List.{append_cancel_left, Folds.list_all-append}}
use Rattle.mk_words.proofs.Below.Laws.Vocabulary.{At, Bool, Config, Event, List, Seat, Step, World, and_parts}
use Rattle.mk_words.proofs.Below.Laws.Vocabulary.{ap, append-nil, append_assoc, arith, false}
use Rattle.mk_words.proofs.Below.Laws.Vocabulary.{is_begin, left, not, not-true, refl, subst, sym, through, true}
use Rattle.mk_words.proofs.Below.Laws.Vocabulary.{true≢false, [], ◌++◌, ◌∙◌, ◌∷◌, ◌≡◌}
use Rattle.mk_words.proofs.{Doing.{not_own, own_in_parts}, Sweeping.only_seen}
use Rattle.mk_words.specs.Steps.{Does, are_of}
use Rattle.mk_cycle.proofs.Vocabulary.{Has, Makes, PassState, does_step, event_of, holds_gates, is_giving_back}
use Rattle.mk_cycle.proofs.{Vocabulary.{only_seen_by, sets_tallies}, InParts.{InFirst, InSecond, in_parts}}
use Rattle.mk_core.specs.History.{AreOfOthers, is_same_seat, own_from}
use Rattle.mk_cycle.specs.BeginCycle.{AreBegun, DoesNothing, EachIsBegun, HoldsFirst, IsBegun, IsBegunUpTo, are_own_of}
use Rattle.mk_cycle.specs.{BeginCycle.only_holds, FinishCycle.FinishesCycle, TurnKeeps.begins_marking}
use Rattle.mk_cycle.specs.Tracing.{is_tracing}
use Rattle.mk_cycle.proofs.HeldFirst.{holds_longer, holds_on, own_kinds}
use Rattle.mk_words.{proofs.Seats.{same_self}, specs.Steps.{is_open}}

-- These kinds of step have no `begin` among them.
abbrev pub HaveNoBegin : (Step → Bool) → Type 0
HaveNoBegin kinds = (x : Step) → kinds x ≡ true → is_begin x ≡ false

pub begins_none : (kinds : Step → Bool) → kinds Step.Begin ≡ false → HaveNoBegin kinds
begins_none kinds none x2 h = grind arith

-- The own events of a list are of these kinds.

own_kind : (kinds : Step → Bool) (c : Config) (s : Seat) (w : World) (before : List Event) (e : Event)
    (behind : List Event) → are_of kinds (own_from c s w (before ++ e ∷ behind)) ≡ true → is_same_seat s e.seat ≡ true
    → kinds e.step ≡ true
unfolding own_from
own_kind kinds c s w before e behind all same = grind (arith, and_parts, list_all-append, own_in_parts)

pub its_own : (s : Seat) (e : Event) → e.seat ≡ s → is_same_seat s e.seat ≡ true
its_own s e is = subst (λ (t : Seat). is_same_seat s t ≡ true) (sym is) (same_self s)

pub kinds_begin_none : (kinds : Step → Bool) (c : Config) (s : Seat) (w : World) (es : List Event) → HaveNoBegin kinds
    → are_of kinds (own_from c s w es) ≡ true → (b : At is_begin es) → b.event.seat ≡ s → ⊥
kinds_begin_none kinds c s w es none all b own =
    true≢false (sym b.of_kind ∙ none b.event.step (own_kind kinds c s w b.before b.event b.behind
    (subst (λ (l : List Event). are_of kinds (own_from c s w l) ≡ true) b.is all) (its_own s b.event own)))

-- No event of others is an own `begin`.
pub others_begin_none : (seats : List Seat) (s : Seat) (es : List Event) → Has seats s → AreOfOthers seats es
    → (before : List Event) (e : Event) (behind : List Event) → es ≡ before ++ e ∷ behind → e.seat ≡ s → ⊥
unfolding AreOfOthers
others_begin_none seats s [] has others [] e behind is own = cc
others_begin_none seats s [] has others (b ∷ bs) e behind is own = cc
others_begin_none seats s (x ∷ xs) has others [] e behind is own =
    let head : x ≡ e = cc in
    true≢false (sym (its_own s x (ap (λ (y : Event). y.seat) head ∙ own)) ∙ not_own seats s x.seat has others.0)
others_begin_none seats s (x ∷ xs) has others (b ∷ bs) e behind is own =
    let tail : xs ≡ bs ++ e ∷ behind = cc in
    others_begin_none seats s xs has others.1 bs e behind tail own

-- An engine that does nothing as a cycle begins.
pub does_no_part : (p : PassState) → IsBegun DoesNothing p p
does_no_part p = record { more = []; is = sym (append-nil p.seen); part = refl }

pub has_on : (p q : PassState) → q ≡ record p { seen = q.seen } → Has p.seats p.seat → Has q.seats q.seat
has_on p q same has = subst (λ (x : PassState). Has x.seats x.seat) (sym same) has

module _ (begins : Config → Seat → List Event → List Event → Type 0) {yet : Bool} where
  -- when more was seen after it that begins so
  later : {yes : Bool} {c : Config} {s : Seat} {es xs : List Event} (ys : List Event)
      → ((l : List Event) → only_holds yes s l ≡ true → only_holds yet s (l ++ ys) ≡ true)
      → IsBegunUpTo yes begins c s es xs → IsBegunUpTo yet begins c s es (xs ++ ys)
  later ys on b = record {
    first = b.first;
    rest = b.rest ++ ys;
    is = ap (λ (l : List Event). l ++ ys) b.is ∙ append_assoc b.first b.rest ys;
    part = b.part;
    marking = b.marking;
    holds = on b.rest b.holds;
  }

  -- two parts
  parts_append : {yes : Bool} (c : Config) (s : Seat) (es xs ys : List Event)
      → ((l : List Event) → only_holds yes s l ≡ true → only_holds yet s (l ++ ys) ≡ true)
      → AreBegun yes begins c s es xs → AreBegun yet begins c s (es ++ xs) ys
      → AreBegun yet begins c s es (xs ++ ys)
  parts_append c s es xs ys on one two b own =
      ⊎_elim (λ (t : InFirst xs ys b.before b.event b.behind). subst
      (λ (l : List Event). IsBegunUpTo yet begins c s (es ++ through b) l) (sym t.then) (later ys on (one (record
      { before = b.before; event = b.event; behind = t.rest; is = t.is; of_kind = b.of_kind }) own))) (λ (t : InSecond
      xs ys b.before b.event b.behind). subst (λ (l : List Event). IsBegunUpTo yet begins c s l b.behind) (append_assoc
      es xs (t.rest ++ b.event ∷ []) ∙ ap (λ (l : List Event). es ++ l) (sym (append_assoc xs t.rest (b.event ∷ []))
      ∙ ap (λ (l : List Event). l ++ b.event ∷ []) (sym t.first))) (two (record {
        before = t.rest;
        event = b.event;
        behind =
            b.behind;
        is = t.is;
        of_kind = b.of_kind;
      }) own)) (in_parts xs ys b.before b.event b.behind b.is)

  pub begun_append : (c : Config) (s : Seat) (es xs ys : List Event) → AreBegun false begins c s es xs
      → AreBegun yet begins c s (es ++ xs) ys → AreBegun yet begins c s es (xs ++ ys)
  begun_append c s es xs ys one two =
      parts_append {yes = false} c s es xs ys (λ l h. holds_longer yet s l ys h) one two

  pub begun_then : (p q r : PassState) → q ≡ record p { seen = q.seen } → EachIsBegun false begins p q
      → EachIsBegun yet begins q r → EachIsBegun yet begins p r
  begun_then p q r same one two = record {
    more = one.more ++ two.more;
    is = two.is ∙ ap (λ (l : List Event). l ++ two.more) one.is ∙ append_assoc p.seen one.more two.more;
    each = begun_append p.table.config p.seat p.seen one.more two.more one.each
        (subst (λ (l : List Event). AreBegun yet begins p.table.config p.seat l two.more) one.is
        (subst (λ (x : PassState). AreBegun yet begins x.table.config x.seat q.seen two.more) same two.each));
  }

  -- nothing, and steps of other kinds

  pub nothing_begun : (p : PassState) → EachIsBegun yet begins p p
  nothing_begun p = record {
    more = [];
    is = sym (append-nil p.seen);
    each = λ b own. absurd (nowhere b.before b.event b.behind b.is);
  }
    where
      nowhere : (before : List Event) (e : Event) (behind : List Event) → [] ≡ before ++ e ∷ behind → ⊥
      nowhere [] e behind is = cc
      nowhere (x ∷ xs) e behind is = cc

  pub does_begin_none : (kinds : Step → Bool) (p q : PassState) → HaveNoBegin kinds → Does kinds p q
      → EachIsBegun yet begins p q
  does_begin_none kinds p q none d = record {
    more = d.more;
    is = ap (λ (x : PassState). x.seen) d.is;
    each = λ b own. absurd (kinds_begin_none kinds p.table.config p.seat (left p.table.config p.seen) d.more none
        d.of_kinds b own);
  }

  -- one step of another kind

  pub step_begins_none : (p q : PassState) (x : Step) → Has p.seats p.seat → Makes p x q → is_begin x ≡ false
      → EachIsBegun yet begins p q
  step_begins_none p q x own m none =
      does_begin_none (λ (y : Step). not (is_begin y)) p q (λ y h. not-true (is_begin y) h)
      (does_step (λ (y : Step). not (is_begin y)) p q x m (ap not none))

-- The `begin`, and what the engine does after it.
module _ (begins : Config → Seat → List Event → List Event → Type 0) (p d q : PassState) (own : Has p.seats p.seat)
    (m : Makes p Step.Begin d) (does : Does begins_marking d q) (part : IsBegun begins d q) where
  abbrev c : Config
  c = p.table.config

  abbrev e : Event
  e = event_of p Step.Begin

  same_more : does.more ≡ part.more
  same_more = append_cancel_left d.seen does.more part.more (sym (ap (λ (x : PassState). x.seen) does.is) ∙ part.is)

  seat_is : d.seat ≡ p.seat
  seat_is = ap (λ (x : PassState). x.seat) m.is

  -- The engine begins no other cycle,
  no_more : (b : At is_begin part.more) → b.event.seat ≡ p.seat → ⊥
  no_more b is =
      kinds_begin_none begins_marking d.table.config d.seat (left d.table.config d.seen) does.more
      (begins_none begins_marking refl) does.of_kinds (record {
        before = b.before;
        event = b.event;
        behind = b.behind;
        is = same_more ∙ b.is;
        of_kind = b.of_kind;
      }) (is ∙ sym seat_is)

  done : begins c p.seat (p.seen ++ (m.others ++ e ∷ [])) part.more
  done =
      subst (λ (l : List Event). begins c p.seat l part.more) (append_assoc p.seen m.others (e ∷ []))
      (subst (λ (x : PassState). begins x.table.config x.seat x.seen part.more) m.is part.part)

  -- and marks alone.
  marks : are_own_of begins_marking p.seat part.more ≡ true
  marks =
      subst (λ (s : Seat). are_own_of begins_marking s part.more ≡ true) seat_is
      (subst (λ (l : List Event). are_own_of begins_marking d.seat l ≡ true) same_more
      (own_kinds begins_marking d.table.config d.seat (left d.table.config d.seen) does.more does.of_kinds))

  part_done : IsBegunUpTo true begins c p.seat (p.seen ++ (m.others ++ e ∷ [])) part.more
  unfolding only_holds
  part_done = record {
    first = part.more;
    rest = [];
    is = sym (append-nil part.more);
    part = done;
    marking = marks;
    holds = refl;
  }

  here : (x : Event) (before rest behind : List Event) → is_begin x.step ≡ true → x.seat ≡ p.seat
      → before ≡ m.others ++ rest → e ∷ part.more ≡ rest ++ x ∷ behind
      → IsBegunUpTo true begins c p.seat (p.seen ++ (before ++ x ∷ [])) behind
  here x before [] behind of_kind is first second =
      let head : e ≡ x = cc in
      let tail : part.more ≡ behind = cc in
      let start : m.others ≡ before = sym (first ∙ append-nil m.others) in
      subst (λ (l : List Event). IsBegunUpTo true begins c p.seat (p.seen ++ (before ++ x ∷ [])) l) tail
      (subst (λ (l : List Event). IsBegunUpTo true begins c p.seat (p.seen ++ (l ++ x ∷ [])) part.more) start
      (subst (λ (y : Event). IsBegunUpTo true begins c p.seat (p.seen ++ (m.others ++ y ∷ [])) part.more)
      head part_done))
  here x before (y ∷ ys) behind of_kind is first second =
      let tail : part.more ≡ ys ++ x ∷ behind = cc in
      absurd (no_more (record { before = ys; event = x; behind = behind; is = tail; of_kind = of_kind }) is)

  pub begin_begun : EachIsBegun true begins p q
  begin_begun = record {
    more = m.others ++ e ∷ part.more;
    is = part.is ∙ ap (λ (x : PassState). x.seen ++ part.more) m.is
        ∙ append_assoc (p.seen ++ m.others) (e ∷ []) part.more ∙ append_assoc p.seen m.others (e ∷ part.more);
    each = λ b own_event. ⊎_elim (λ (t : InFirst m.others (e ∷ part.more) b.before b.event b.behind). absurd
        (others_begin_none p.seats p.seat m.others own m.of_others b.before b.event t.rest t.is own_event))
        (λ (t : InSecond m.others (e ∷ part.more) b.before b.event b.behind). here b.event b.before t.rest b.behind
        b.of_kind own_event t.first t.is) (in_parts m.others (e ∷ part.more) b.before b.event b.behind b.is);
  }

module _ (begins : Config → Seat → List Event → List Event → Type 0) where
  -- What was begun is left then: after it the seat only holds gates, until it wants the close or gives its turn back.
  pub left_then : {p q r : PassState} → q ≡ record p { seen = q.seen } → EachIsBegun true begins p q
      → EachIsBegun false begins q r → HoldsFirst q r → EachIsBegun false begins p r
  left_then {p} {q} {r} same one two held =
      let holds : only_holds false p.seat two.more ≡ true =
      subst (λ (x : PassState). only_holds false x.seat two.more ≡ true) same
      (subst (λ (l : List Event). only_holds false q.seat l ≡ true)
      (append_cancel_left q.seen held.more two.more (sym held.is ∙ two.is)) held.holds) in
      record {
        more = one.more ++ two.more;
        is = two.is ∙ ap (λ (l : List Event). l ++ two.more) one.is ∙ append_assoc p.seen one.more two.more;
        each = parts_append begins {yet = false} {yes = true} p.table.config p.seat p.seen one.more two.more
            (λ l h. holds_on false p.seat l two.more h holds) one.each
            (subst (λ (l : List Event). AreBegun false begins p.table.config p.seat l two.more) one.is
            (subst (λ (x : PassState). AreBegun false begins x.table.config x.seat q.seen two.more) same two.each));
      }

  -- the end of a cycle
  pub finish_begins_none : (p q : PassState) → Has p.seats p.seat → FinishesCycle p q → EachIsBegun false begins p q
  finish_begins_none p q own law =
      let m = law.makes in
      let r = m.releases in
      let held = only_seen p m.held m.holds.more m.holds.is in
      let closing = only_seen m.held r.closing r.marks.does.more r.marks.does.is in
      let closed = only_seen_by r.closing r.closed Step.Close r.close in
      let released = only_seen_by r.closed m.released Step.Release r.release in
      let opened = only_seen m.released m.opened m.opens.more m.opens.is in
      let freed = only_seen m.opened m.freed m.frees.more m.frees.is in
      let ended = only_seen_by m.freed m.ended Step.End m.end in
      let own_held = has_on p m.held held own in
      let own_closing = has_on m.held r.closing closing own_held in
      let own_closed = has_on r.closing r.closed closed own_closing in
      let own_released = has_on r.closed m.released released own_closed in
      let own_opened = has_on m.released m.opened opened own_released in
      let own_freed = has_on m.opened m.freed freed own_opened in
      begun_then begins p m.held q held
      (does_begin_none begins holds_gates p m.held (begins_none holds_gates refl) m.holds)
      (begun_then begins m.held r.closing q closing
      (does_begin_none begins is_tracing m.held r.closing (begins_none is_tracing refl) r.marks.does)
      (begun_then begins r.closing r.closed q closed
      (step_begins_none begins r.closing r.closed Step.Close own_closing r.close refl)
      (begun_then begins r.closed m.released q released
      (step_begins_none begins r.closed m.released Step.Release own_closed r.release refl)
      (begun_then begins m.released m.opened q opened
      (does_begin_none begins is_open m.released m.opened (begins_none is_open refl) m.opens)
      (begun_then begins m.opened m.freed q freed
      (does_begin_none begins is_giving_back m.opened m.freed (begins_none is_giving_back refl) m.frees)
      (begun_then begins m.freed m.ended q ended
      (step_begins_none begins m.freed m.ended Step.End own_freed m.end refl)
      (does_begin_none begins sets_tallies m.ended q (begins_none sets_tallies refl) m.behind)))))))
