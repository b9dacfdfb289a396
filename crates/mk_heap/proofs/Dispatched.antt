-- A caller makes one call more, or finds its gate held, and what is known then.
use Rattle.std.specs.List.{list_all}
use Rattle.mk_alloc.proofs.Below.Laws.Vocabulary.{Answer, Bool, Event, KeepsRegisters, List, Op, Seat, Stage, Step, ℕ}
use Rattle.mk_alloc.proofs.Below.Laws.Vocabulary.{and_from, ap, append-nil, arith, false, flagged, is_under_turn}
use Rattle.mk_alloc.proofs.Below.Laws.Vocabulary.{length, map, refl, subst, sym, true, true≢false, [], ◌&&◌, ◌++◌, ◌<◌}
use Rattle.mk_alloc.{proofs.Below.Laws.Vocabulary.{◌∙◌, ◌∷◌, ◌≡◌}, specs.Below.Words.States.{PassState, world_of}}
use Rattle.mk_alloc.proofs.ExactTurns.{stay_exact_behind_calls, stay_exact_behind_turns, stay_exact_where_held}
use Rattle.mk_alloc.proofs.{FinishedCycles.unbegun_finished, Parts.seen_then, SaidCloses.kinds_close_none}
use Rattle.mk_alloc.proofs.{UnsweptTurns.keeps_then, Below.Cycles.Begun.kinds_begin_none}
use Rattle.mk_alloc.proofs.Below.Words.Doing.{does_step, done_in_parts, of_kinds_in_parts}
use Rattle.mk_alloc.proofs.Below.Words.{Made.own_before, Seats.has_first, Sweeping.kinds_sweep}
use Rattle.mk_alloc.specs.{Below.Callers.Called.{Called, own_calls, stages_made, step_at}, TurnCalls.CalledInTurn}
use Rattle.mk_alloc.specs.Below.Callers.{Called.FindsGateHeld, States.{Admits, CallerState}}
use Rattle.mk_alloc.specs.Below.{Callers.States.{caller_of_pass, never_of}, Words.Steps.{are_of, done_in}}
use Rattle.mk_alloc.specs.{Below.{Cycles.EngineLaw.Ways, Words.States.Has}, Rooms.PassKeeps}
use Rattle.mk_never.proofs.Later.{calls_stay}
use Rattle.mk_core.specs.History.{Finding, own_from}
use Rattle.mk_heap.specs.Dispatching.{Answers, IsCalled, IsPutOff, MakesNoCall, StaysAdmitted, StaysBeside, as_told}
use Rattle.mk_heap.specs.Dispatching.{is_beside_turns, unflagged}

-- Calls that need no turn, and those that find their gate held, make only steps beside all turns.

nothing_done : (p : PassState) → are_of is_beside_turns (done_in p []) ≡ true
unfolding own_from
nothing_done p = refl

pub stays_still : (p : PassState) → StaysBeside p p
stays_still p = record { more = []; is = sym (append-nil p.seen); steps = nothing_done p }

pub beside_then : {p q r : PassState} → q ≡ record p { seen = q.seen } → StaysBeside p q → StaysBeside q r
    → StaysBeside p r
beside_then {p} {q} {r} same x y = record {
  more = x.more ++ y.more;
  is = seen_then p.seen q.seen r.seen x.more y.more x.is y.is;
  steps =
      ap (λ (l : List Finding). are_of is_beside_turns l) (done_in_parts p x.more y.more)
      ∙ of_kinds_in_parts is_beside_turns (done_in p x.more) (done_in (record p { seen = p.seen ++ x.more }) y.more)
      x.steps (rw (same ∙ ap (λ (l : List Event). record p { seen = l }) x.is) at y.steps);
}

steps_of_all : (xs : List Finding)
    → list_all is_beside_turns (map (λ (x : Finding). x.event.step) xs) ≡ are_of is_beside_turns xs
steps_of_all [] = refl
steps_of_all (x ∷ xs) = ap (λ (b : Bool). is_beside_turns x.event.step && b) (steps_of_all xs)

stages_beside : (xs : List Stage) → list_all is_beside_turns (map step_at xs) ≡ true
stages_beside [] = refl
stages_beside (x ∷ xs) = and_from _ _ (grind arith) (stages_beside xs)

called_beside : {p : PassState} {o : Op} {a : Answer} {q : PassState} → Called p o a q → StaysBeside p q
called_beside {p} {o} {a} called = record {
  more = called.more;
  is = ap (λ (x : PassState). x.seen) called.is;
  steps = sym (steps_of_all (done_in p called.more))
      ∙ (ap (λ (l : List Step). list_all is_beside_turns l) called.steps ∙ stages_beside (stages_made o a));
}

pub held_beside : {p : PassState} {o : Op} {q : PassState} → FindsGateHeld p o q → StaysBeside p q
held_beside {p} {o} {q} held =
    let d = does_step is_beside_turns p q (Step.Enter o) held.finds.makes refl in
    record { more = d.more; is = ap (λ (x : PassState). x.seen) d.is; steps = d.of_kinds }

-- So they keep to what an engine does.
pub beside_keeps : {V : Type 0} {ways : Ways V} {p q : PassState} → StaysBeside p q → PassKeeps false ways p q
beside_keeps {ways = ways} {p = p} h = record {
  reached = λ off. record {
    more = h.more;
    is = h.is;
    none = kinds_sweep is_beside_turns p.table.config p.seat (world_of p) h.more (λ x beside. grind arith) h.steps;
  };
  begun = record {
    more = h.more;
    is = h.is;
    each = λ b own. absurd (kinds_begin_none is_beside_turns p.table.config p.seat (world_of p) h.more
        (λ x beside. grind arith) h.steps b own);
  };
  said = record {
    more = h.more;
    is = h.is;
    each = λ k own. absurd (kinds_close_none is_beside_turns p.table.config p.seat (world_of p) h.more
        (λ x beside. grind arith) h.steps k own);
  };
  finished = λ off. unbegun_finished ways.closes {yet = false} (record {
    more = h.more;
    is = h.is;
    each = λ b own. absurd (kinds_begin_none is_beside_turns p.table.config p.seat (world_of p) h.more
        (λ x beside. grind arith) h.steps b own);
  });
}

-- A caller that waits makes no call.

-- own calls are the same for passes of one seat
same_own : (p q : PassState) (es : List Event) → q ≡ record p { seen = q.seen } → own_calls q es ≡ own_calls p es
same_own p q es is = ap (λ (r : PassState). own_calls r es) is

pub then_seen : (p q r : PassState) → q ≡ record p { seen = q.seen } → r ≡ record q { seen = r.seen }
    → r ≡ record p { seen = r.seen }
then_seen p q r is next = next ∙ ap (λ (s : PassState). record s { seen = r.seen }) is

pub waits_not : (p : PassState) → MakesNoCall p p
waits_not p =
    record { is = refl; entries = refl; registers = λ r lt. refl; exact = λ on e. e; beside = stays_still p }

pub makes_none : {p : PassState} {o : Op} {q : PassState} → FindsGateHeld p o q → MakesNoCall p q
makes_none {p} {o} {q} h = record {
  is = h.finds.makes.is ∙ ap (λ (r : PassState). record p { seen = r.seen }) (sym h.finds.makes.is);
  entries = h.entries;
  registers = h.registers;
  exact = λ on. stay_exact_where_held on p o q (own_before h.finds.makes) h;
  beside = held_beside h;
}

pub none_then_none : {p q r : PassState} → MakesNoCall p q → MakesNoCall q r → MakesNoCall p r
none_then_none {p} {q} {r} h g = record {
  is = then_seen p q r h.is g.is;
  entries = sym (same_own p q r.seen h.is) ∙ g.entries ∙ same_own p q q.seen h.is ∙ h.entries;
  registers = λ x lt.
      subst (λ (k : ℕ). KeepsRegisters k (never_of q) (never_of r)) (ap caller_of_pass h.is) g.registers x lt
      ∙ h.registers x lt;
  exact = λ on e. g.exact on (h.exact on e);
  beside = beside_then h.is h.beside g.beside;
}

pub none_then_answers : {on : Bool} {p q : PassState} {o : Op} {told : Answer} {r : PassState} → MakesNoCall p q
    → is_under_turn o ≡ false → Answers on q o told r → Answers on p o told r
none_then_answers {on} {p} {q} {r} h entered g = record {
  answer = g.answer;
  is_told = g.is_told;
  is = then_seen p q r h.is g.is;
  entry = cc (same_own p q r.seen h.is, g.entry, same_own p q q.seen h.is, h.entries, h.is);
  exact = λ e. g.exact (h.exact on e);
  in_turn = λ under. absurd (true≢false (sym under ∙ entered));
  beside = λ besides. beside_then h.is h.beside (g.beside entered);
  called = λ besides.
      let later = g.called entered in
      record {
        waited = later.waited;
        waits = none_then_none h later.waits;
        is_called = later.is_called;
      };
}

pub stays_admitted_after : {p : PassState} (o : Op) {q : PassState} → StaysAdmitted p o → MakesNoCall p q
    → StaysAdmitted q o
stays_admitted_after o stays h = λ r history more. stays r history (none_then_none h more)

pub admitted_now : (s : CallerState) {o : Op} → s.home ≡ true → StaysAdmitted s.pass o → Admits s.pass o
admitted_now s home stays = stays s.pass (s.in_order home).pass.history (waits_not s.pass)

-- One call, of an operation that takes no turn

seen_alone : (p : PassState) (more : List Event) (q : PassState) → q ≡ record p { seen = p.seen ++ more }
    → q ≡ record p { seen = q.seen }
seen_alone p more q is = is ∙ ap (λ (r : PassState). record p { seen = r.seen }) (sym is)

pub answered_by_call : (on : Bool) {p : PassState} {o : Op} {told : Answer} {q : PassState} → Has p.seats p.seat
    → is_under_turn o ≡ false → IsCalled p o told q → Answers on p o told q
answered_by_call on {p = p} {o = o} {q = q} own entered h = record {
  answer = h.answer;
  is_told = h.is_told;
  is = seen_alone p h.called.more q h.called.is;
  entry = ap (λ (r : PassState). own_calls p r.seen) h.called.is ∙ h.called.entry;
  exact = stay_exact_behind_calls on p o h.answer q own h.called;
  in_turn = λ under. absurd (true≢false (sym under ∙ entered));
  beside = λ besides. called_beside h.called;
  called = λ besides. record { waited = p; waits = waits_not p; is_called = h };
}

-- A New or a Free

answered_in_turn : {on : Bool} {p : PassState} {o : Op} {a : Answer} {q : PassState} → p.seats ≡ p.seat ∷ []
    → unflagged o ≡ o → is_under_turn o ≡ true → CalledInTurn on p o a q → Answers on p o (as_told a) q
answered_in_turn {on} {p} {o} {a} {q} alone plain turn h = record {
  answer = a;
  is_told = refl;
  is = seen_alone p h.more q h.is;
  entry = ap (λ (r : PassState). own_calls p r.seen) h.is ∙ h.entry;
  exact =
      stay_exact_behind_turns on p o a q (subst (λ (l : List Seat). Has l p.seat) (sym alone) (has_first p.seat [])) h;
  in_turn = λ under. subst (λ (x : Op). CalledInTurn on p x a q) (sym plain) h;
  beside = λ besides. absurd (true≢false (sym turn ∙ besides));
  called = λ besides. absurd (true≢false (sym turn ∙ besides));
}

pub type_exists : (p : PassState) {o : Op} {d ty : ℕ} {full : Bool} → o ≡ Op.New d ty full → Admits p o
    → ty < length p.table.config.types
type_exists p is admits = grind (arith, calls_stay)

flagged_alike : (d ty : ℕ) (full : Bool) (a : Answer) → flagged (Op.New d ty false) a ≡ flagged (Op.New d ty full) a
flagged_alike d ty full x3 = grind arith

pub answered_new : {on : Bool} {p : PassState} {o : Op} {d ty : ℕ} {full : Bool} {a told : Answer} {q : PassState}
    → p.seats ≡ p.seat ∷ [] → o ≡ Op.New d ty full → told ≡ as_told a → CalledInTurn on p (Op.New d ty false) a q
    → Answers on p o told q
unfolding answered_in_turn
answered_new {on} {p} {o} {d} {ty} {full} {a} {q = q} alone is told h =
    let made = answered_in_turn alone refl refl h in
    rw (is, told) (record {
      answer = a;
      is_told = refl;
      is = made.is;
      entry = cc (made.entry, flagged_alike d ty full a);
      exact = made.exact;
      in_turn = λ under. h;
      beside = λ besides. absurd (true≢false besides);
      called = λ besides. absurd (true≢false besides);
    })

pub answered_free : {on : Bool} {p : PassState} {o : Op} {r : ℕ} {a told : Answer} {q : PassState}
    → p.seats ≡ p.seat ∷ [] → o ≡ Op.Free r → told ≡ as_told a → CalledInTurn on p (Op.Free r) a q
    → Answers on p o told q
answered_free alone is told h = rw (is, told) (answered_in_turn alone refl refl h)

-- An operation that isn't answered at once, and what it is answered later

pub turn_put_off : (p : PassState) (o : Op) → is_under_turn o ≡ true → IsPutOff p o p
turn_put_off p o under = record { turn = λ is. refl; held = λ beside. absurd (true≢false (sym under ∙ beside)) }

pub held_put_off : {p : PassState} {o : Op} {q : PassState} → is_under_turn o ≡ false → FindsGateHeld p o q
    → IsPutOff p o q
held_put_off beside held = record { turn = λ under. absurd (true≢false (sym under ∙ beside)); held = λ is. held }

module _ {p : PassState} {o : Op} {q : PassState} (h : IsPutOff p o q) where
  off_by_test : (b : Bool) → is_under_turn o ≡ b → MakesNoCall p q
  off_by_test true under = subst (λ (r : PassState). MakesNoCall p r) (sym (h.turn under)) (waits_not p)
  off_by_test false beside = makes_none (h.held beside)

  pub put_off_waits : MakesNoCall p q
  put_off_waits = off_by_test (is_under_turn o) refl

  pub put_off_keeps : {V : Type 0} {ways : Ways V} {r : PassState}
      → PassKeeps false ways q r → PassKeeps false ways p r
  put_off_keeps more = keeps_then put_off_waits.is (beside_keeps put_off_waits.beside) more

  module _ {on : Bool} {told : Answer} {r : PassState} (later : Answers on q o told r) where
    answers_by_test : (b : Bool) → is_under_turn o ≡ b → Answers on p o told r
    answers_by_test true under = subst (λ (x : PassState). Answers on x o told r) (h.turn under) later
    answers_by_test false beside = none_then_answers put_off_waits beside later

    pub put_off_then : Answers on p o told r
    put_off_then = answers_by_test (is_under_turn o) refl
