-- Cycles that are finished at once, in parts of a turn.
use Rattle.mk_alloc.proofs.Vocabulary.{At, BeginsCycle, SeesNone, Bool, Config, Event, Has, List, PassState, Seat, ap}
use Rattle.mk_alloc.proofs.Vocabulary.{append-nil, append_assoc, false, is_begin, only_seen, refl, subst, sym, true, []}
use Rattle.mk_alloc.proofs.{Vocabulary.{⊎_elim, ◌++◌, ◌∙◌, ◌∷◌, ◌≡◌}, ListParts.none_at}
use Rattle.mk_alloc.specs.TurnCycles.{AreFinishedAtOnce, EachIsFinished, IsFinishedAtOnce}
use Rattle.mk_core.specs.{Cycles.through, Frames.Steady}
use Rattle.mk_cycle.proofs.Begun.{begin_begun, begins_none, begun_then, does_begin_none, has_on}
use Rattle.mk_cycle.proofs.InParts.{InFirst, InSecond, in_parts}
use Rattle.mk_cycle.specs.{Stops.IsClosedBy, TurnKeeps.clears, BeginCycle.{MakesBegin, EachIsBegun, IsBegunUpTo}}

-- No cycle begins so.
abbrev pub Never : Config → Seat → List Event → List Event → Type 0
Never c s es more = ⊥

pub never_by_none : {p q : PassState} → SeesNone is_begin p q → EachIsBegun false Never p q
never_by_none none = record {
  more = none.more;
  is = none.is;
  each = λ b own. absurd (none_at is_begin none.more none.none b);
}

-- when more was seen after a cycle that was closed so
pub closed_longer : {closes : PassState → PassState → Type 0} {p q r : PassState} → IsClosedBy closes p q
    → (more : List Event) → r.seen ≡ q.seen ++ more → IsClosedBy closes p r
closed_longer k more is = record {
  held = k.held;
  released = k.released;
  holds = k.holds;
  makes = k.makes;
  part = k.part;
  rest = k.rest ++ more;
  is = is ∙ ap (λ (l : List Event). l ++ more) k.is ∙ append_assoc k.released.seen k.rest more;
}

-- the event between what stands before it and after it
around : (front before : List Event) (e : Event) (behind more all : List Event) → all ≡ front ++ more
    → more ≡ before ++ e ∷ behind → (front ++ (before ++ e ∷ [])) ++ behind ≡ all ++ []
around front before e behind more all is split =
    append_assoc front (before ++ e ∷ []) behind
    ∙ ap (λ (l : List Event). front ++ l) (append_assoc before (e ∷ []) behind ∙ sym split) ∙ sym is
    ∙ sym (append-nil all)

module _ {V : Type 0} (closes : V → PassState → PassState → Type 0) where
  -- lists

  longer : {c : Config} {s : Seat} {es xs : List Event} (ys : List Event) → IsFinishedAtOnce closes c s es xs
      → IsFinishedAtOnce closes c s es (xs ++ ys)
  longer {es = es} {xs = xs} ys f = record {
    engine = f.engine;
    first = f.first;
    then = f.then ++ ys;
    split = ap (λ (l : List Event). l ++ ys) f.split ∙ append_assoc f.first f.then ys;
    marking = f.marking;
    begun = f.begun;
    finished = f.finished;
    rest = f.rest ++ ys;
    config = f.config;
    seat = f.seat;
    own = f.own;
    phase = f.phase;
    seen = f.seen;
    closed = f.closed;
    is = sym (append_assoc es xs ys) ∙ ap (λ (l : List Event). l ++ ys) f.is
        ∙ append_assoc f.finished.seen f.rest ys;
  }

  pub finished_append : (c : Config) (s : Seat) (es xs ys : List Event) → AreFinishedAtOnce closes c s es xs
      → AreFinishedAtOnce closes c s (es ++ xs) ys → AreFinishedAtOnce closes c s es (xs ++ ys)
  finished_append c s es xs ys one two b own =
      ⊎_elim (λ (t : InFirst xs ys b.before b.event b.behind). subst
      (λ (l : List Event). IsFinishedAtOnce closes c s (es ++ through b) l) (sym t.then) (longer ys (one (record {
        before = b.before;
        event = b.event;
        behind = t.rest;
        is = t.is;
        of_kind = b.of_kind;
      }) own))) (λ (t : InSecond xs ys b.before b.event b.behind). subst
      (λ (l : List Event). IsFinishedAtOnce closes c s l b.behind) (append_assoc es xs (t.rest ++ b.event ∷ [])
      ∙ ap (λ (l : List Event). es ++ l) (sym (append_assoc xs t.rest (b.event ∷ []))
      ∙ ap (λ (l : List Event). l ++ b.event ∷ []) (sym t.first))) (two (record {
        before = t.rest;
        event = b.event;
        behind = b.behind;
        is = t.is;
        of_kind = b.of_kind;
      }) own)) (in_parts xs ys b.before b.event b.behind b.is)

  -- parts

  pub finished_then : (p q r : PassState) → q ≡ record p { seen = q.seen } → EachIsFinished closes p q
      → EachIsFinished closes q r → EachIsFinished closes p r
  finished_then p q r same one two = record {
    more = one.more ++ two.more;
    is = two.is ∙ ap (λ (l : List Event). l ++ two.more) one.is ∙ append_assoc p.seen one.more two.more;
    each = finished_append p.table.config p.seat p.seen one.more two.more one.each
        (subst (λ (l : List Event). AreFinishedAtOnce closes p.table.config p.seat l two.more) one.is
        (subst (λ (x : PassState). AreFinishedAtOnce closes x.table.config x.seat q.seen two.more) same two.each));
  }

  pub unbegun_finished : {yet : Bool} {p q : PassState} → EachIsBegun yet Never p q → EachIsFinished closes p q
  unbegun_finished none =
      record { more = none.more; is = none.is; each = λ b own. absurd (none.each b own).part }

  -- A cycle begins, and is finished before another begins.
  module _ (engine : V) {p b q : PassState} (own : Has p.seats p.seat) (law : BeginsCycle p b)
      (closed : IsClosedBy (closes engine) b q) (none : EachIsBegun false Never b q) where
    abbrev m : MakesBegin p b
    m = law.makes

    -- This is what had been seen then.
    abbrev IsUpToIt : Config → Seat → List Event → List Event → Type 0
    IsUpToIt c s es first = es ++ first ≡ b.seen

    begun : EachIsBegun true IsUpToIt p b
    begun =
        let same = only_seen p m.cleared m.before.more m.before.is in
        let seen = ap (λ (x : PassState). x.seen) m.behind.is in
        begun_then IsUpToIt p m.cleared b same (does_begin_none IsUpToIt clears p m.cleared (begins_none clears refl)
        m.before) (begin_begun IsUpToIt m.cleared m.begun b (has_on p m.cleared same own) m.begin m.behind
        (record { more = m.behind.more; is = seen; part = sym seen }))

    seen_is : q.seen ≡ p.seen ++ (begun.more ++ none.more)
    seen_is =
        none.is ∙ ap (λ (l : List Event). l ++ none.more) begun.is ∙ append_assoc p.seen begun.more none.more

    seat_is : b.seat ≡ p.seat
    seat_is = ap (λ (x : PassState). x.seat) law.pass

    here : (k : At is_begin (begun.more ++ none.more)) → k.event.seat ≡ p.seat
        → InFirst begun.more none.more k.before k.event k.behind
        → IsFinishedAtOnce closes p.table.config p.seat (p.seen ++ through k) k.behind
    here k is t =
        let u : IsBegunUpTo true IsUpToIt p.table.config p.seat (p.seen ++ through k) t.rest = begun.each (record {
          before = k.before;
          event = k.event;
          behind = t.rest;
          is = t.is;
          of_kind = k.of_kind;
        }) is in
        record {
          engine = engine;
          first = u.first;
          then = u.rest ++ none.more;
          split = t.then ∙ ap (λ (l : List Event). l ++ none.more) u.is
              ∙ append_assoc u.first u.rest none.more;
          marking = u.marking;
          begun = b;
          finished = q;
          rest = [];
          config = ap (λ (x : PassState). x.table.config) law.pass;
          seat = seat_is;
          own = has_on p b law.pass own;
          phase = ap (λ (x : Steady). x.phase) law.steady;
          seen = sym u.part;
          closed = closed;
          is = around p.seen k.before k.event k.behind (begun.more ++ none.more) q.seen seen_is k.is;
        }

    pub begun_and_finished : EachIsFinished closes p q
    begun_and_finished = record {
      more = begun.more ++ none.more;
      is = seen_is;
      each = λ k is. ⊎_elim (λ (t : InFirst begun.more none.more k.before k.event k.behind). here k is t)
          (λ (t : InSecond begun.more none.more k.before k.event k.behind). absurd (none.each (record {
            before = t.rest;
            event = k.event;
            behind = k.behind;
            is = t.is;
            of_kind = k.of_kind;
          }) (is ∙ sym seat_is)).part) (in_parts begun.more none.more k.before k.event k.behind k.is);
    }
