-- A heap of one caller: all calls are its own, so it is known what the heap that never reuses storage replied to them.
use Rattle.mk_alloc.proofs.Below.Laws.Vocabulary.{AreAdmitted, Answer, Bool, Caller, Config, Decided, Event, IsAdmitted}
use Rattle.mk_alloc.proofs.Below.Laws.Vocabulary.{IsHistory, List, NeverState, Null, Op, Some, after_calls, answer_of}
use Rattle.mk_alloc.proofs.Below.Laws.Vocabulary.{answered, ap, append-nil, arith, asked, bases_of, calls, calls_from}
use Rattle.mk_alloc.proofs.Below.Laws.Vocabulary.{entry_of, eq-eqb, false, if◌then◌else◌, left, length, map}
use Rattle.mk_alloc.proofs.Below.Laws.Vocabulary.{never_behind, refl, replies_of, subst, sym, true, ℕ, [], ◌*◌, ◌++◌}
use Rattle.mk_alloc.proofs.{Below.Laws.Vocabulary.{◌+◌, ◌<◌, ◌∙◌, ◌∷◌, ◌≡◌}, Below.Callers.OwnSteps.calls_by}
use Rattle.mk_alloc.proofs.Below.Laws.Promises.{histories_keep_all_promises}
use Rattle.std.proofs.{Common.{Err, IfErr, Ok, OnOk, Result}, lemmas.List.length-replicate}
use Rattle.mk_never.{proofs.Later.{op_stays}, specs.NeverHeap.{after_op}}
use Rattle.mk_alloc.specs.{Below.Callers.Called.own_calls, Below.Callers.States.{Admits, CallerState, IsAtHome}}
use Rattle.mk_alloc.specs.{Below.Callers.States.{caller_of_pass, never_of}, Below.Words.States.{PassState, WordsState}}
use Rattle.mk_alloc.specs.{TurnCalls.{CalledInTurn, IsAnsweredFull, MayTakeTurns}, declared.making.Full.Full}
use Rattle.mk_core.specs.History.{never_first}
use Rattle.mk_heap.specs.{Dispatching.{Answers, MakesNoCall, StaysAdmitted}, Hosts.{HostState, first_host, pass_for}}

all_own : (globals : List ℕ) (n : NeverState) (xs : List Decided) → length n.registers ≡ 8
    → AreAdmitted globals n (asked xs) → calls_by 0 xs ≡ xs
all_own globals n [] count admitted = refl
all_own globals n (x ∷ xs) count admitted =
    let here : 8 * x.caller + 7 < length n.registers = admitted.0.of_a_caller in
    ap (λ (b : Bool). if b then x ∷ calls_by 0 xs else calls_by 0 xs) (eq-eqb x.caller 0 (omega (arith, count, here)))
    ∙ ap (λ (l : List Decided). x ∷ l) (all_own globals (after_op n x.caller x.op) xs
    ((op_stays n x.caller x.op).registers ∙ count) admitted.1)

-- The pass of the one caller, which made these calls.
pub record Made (c : Config) (p : PassState) (xs : List Decided) : Type 0 where
  pub config : p.table.config ≡ c
  pub number : caller_of_pass p ≡ 0
  pub alone : p.seats ≡ p.seat ∷ []
  pub own : calls_by 0 (calls c p.seen) ≡ xs

module _ {c : Config} {p : PassState} {xs : List Decided} (made : Made c p xs) where
  -- what the pass's own calls are, said of this heap and this caller
  said : (es : List Event) (more : List Decided)
      → calls_by (caller_of_pass p) (calls p.table.config es)
      ≡ calls_by (caller_of_pass p) (calls p.table.config p.seen) ++ more → calls_by 0 (calls c es) ≡ xs ++ more
  said es more is =
      subst (λ (d : Config). calls_by 0 (calls d es) ≡ calls_by 0 (calls d p.seen) ++ more) made.config
      (subst (λ (k : ℕ). calls_by k (calls p.table.config es) ≡ calls_by k (calls p.table.config p.seen) ++ more)
      made.number is) ∙ ap (λ (l : List Decided). l ++ more) made.own

  pub made_more : {q : PassState} (more : List Decided) → q ≡ record p { seen = q.seen }
      → own_calls p q.seen ≡ own_calls p p.seen ++ more → Made c q (xs ++ more)
  made_more {q} more is entries = record {
    config = subst (λ (r : PassState). r.table.config ≡ c) (sym is) made.config;
    number = subst (λ (r : PassState). caller_of_pass r ≡ 0) (sym is) made.number;
    alone = subst (λ (r : PassState). r.seats ≡ r.seat ∷ []) (sym is) made.alone;
    own = said q.seen more entries;
  }

  -- One call more, beside the turn
  pub made_one : {on : Bool} {q : PassState} {o : Op} {told : Answer} (answers : Answers on p o told q)
      → Made c q (xs ++ entry_of 0 o (Some answers.answer))
  made_one {q = q} {o = o} answers = made_more (entry_of 0 o (Some answers.answer)) answers.is
      (subst (λ (k : ℕ). own_calls p q.seen ≡ own_calls p p.seen ++ entry_of k o (Some answers.answer)) made.number
      answers.entry)

  made_none : {q : PassState} → MakesNoCall p q → Made c q xs
  made_none {q} none =
      subst (Made c q) (append-nil xs) (made_more [] none.is (none.entries ∙ sym (append-nil (own_calls p p.seen))))

  module _ (one : c.callers ≡ 1) (history : IsHistory p.table.config p.seen) where
    pub all_made : calls c p.seen ≡ xs
    all_made =
        let here = subst (λ (d : Config). IsHistory d p.seen) made.config history in
        let eight = length-replicate (8 * c.callers) Null ∙ ap (λ (n : ℕ). 8 * n) one in
        sym (all_own c.globals (never_first c) (calls c p.seen) eight here.admitted) ∙ made.own

    never_is : never_of p ≡ after_calls (never_first c) (asked xs)
    never_is =
        ap (λ (d : Config). never_behind d p.seen) made.config
        ∙ ap (λ (l : List Decided). after_calls (never_first c) (asked l)) all_made

    -- The answers are those of the heap that never reuses storage.
    pub answers_are : (bases : List ℕ) × (answered xs
        ≡ map (answer_of bases) (replies_of (never_first c) (asked xs)))
    answers_are =
        let here = subst (λ (d : Config). IsHistory d p.seen) made.config history in (
          bases_of (left c p.seen).allocations,
          subst (λ (l : List Decided). answered l ≡ map (answer_of (bases_of (left c p.seen).allocations))
              (replies_of (never_first c) (asked l))) all_made (histories_keep_all_promises c p.seen here).refined,
        )

module _ {c : Config} {xs : List Decided} {o : Op} (one : c.callers ≡ 1)
    (admitted : IsAdmitted c.globals (after_calls (never_first c) (asked xs)) 0 o) where
  -- What the heap that never reuses storage admits after these calls is admitted,
  pub admits_now : {p : PassState} → Made c p xs → IsHistory p.table.config p.seen → Admits p o
  admits_now {p} made history =
      subst (λ (d : Config). IsAdmitted d.globals (never_of p) (caller_of_pass p) o) (sym made.config)
      (subst (λ (n : NeverState). IsAdmitted c.globals n (caller_of_pass p) o) (sym (never_is made one history))
      (rw made.number admitted))

  -- and stays so.
  pub admits : {p : PassState} → Made c p xs → StaysAdmitted p o
  admits made q history none = admits_now (made_none made none) history

-- A New, whatever it was answered
pub record MadeNew (c : Config) (p : PassState) (d ty : ℕ) : Type 0 where
  pub answer : Answer
  pub made : Made c p (entry_of 0 (Op.New d ty false) (Some answer))

in_turn : {c : Config} {on : Bool} {p q : PassState} {d ty : ℕ} (a : Answer) → Made c p []
    → CalledInTurn on p (Op.New d ty false) a q → MadeNew c q d ty
in_turn {p = p} {q = q} {d = d} {ty = ty} a made called = record {
  answer = a;
  made = made_more made (entry_of 0 (Op.New d ty false) (Some a))
      (called.is ∙ ap (λ (es : List Event). record p { seen = es }) (sym (ap (λ (r : PassState). r.seen) called.is)))
      (ap (λ (r : PassState). own_calls p r.seen) called.is ∙ subst (λ (k : ℕ). own_calls p (p.seen ++ called.more)
      ≡ own_calls p p.seen ++ entry_of k (Op.New d ty false) (Some a)) made.number called.entry);
}

pub made_new : {c : Config} (on : Bool) {p q : PassState} {d ty : ℕ} (r : Result (Unit {0}) Full) → Made c p []
    → OnOk r (CalledInTurn on p (Op.New d ty false) Answer.Done q)
    → IfErr r (λ full. IsAnsweredFull on p (Op.New d ty false) full.census q) → MadeNew c q d ty
made_new on (Ok x) made granted full = in_turn Answer.Done made granted
made_new on (Err x) made granted full = in_turn Answer.Full made full.called

-- The one caller, as the host makes it
pub made_first : {c : Config} {w : WordsState} {h : HostState} (s : CallerState) → h ≡ first_host w → w.config ≡ c
    → IsAtHome s (pass_for h (Caller h.callers)) → Made c s.pass []
unfolding calls_from
made_first {c} s host config is = record {
  config = ap (λ (p : PassState). p.table.config) is.pass ∙ ap (λ (g : HostState). g.pass.table.config) host ∙ config;
  number = ap (λ (p : PassState). caller_of_pass p) is.pass ∙ ap (λ (g : HostState). g.callers) host;
  alone = subst (λ (p : PassState). p.seats ≡ p.seat ∷ []) (sym is.pass) refl;
  own = ap (λ (p : PassState). calls_by 0 (calls c p.seen)) is.pass
      ∙ ap (λ (g : HostState). calls_by 0 (calls c g.pass.seen)) host;
}

pub exists : {c : Config} {p : PassState} {xs : List Decided} → c.callers ≡ 1 → Made c p xs
    → caller_of_pass p < p.table.config.callers
exists {p = p} one made =
    subst (λ (d : Config). caller_of_pass p < d.callers) (sym made.config) (omega (arith, made.number, one))

pub may_take : {c : Config} {pages : ℕ} {xs : List Decided} (s : CallerState) → c.callers ≡ 1 → Made c s.pass xs
    → s.home ≡ true → pages ≡ c.pages → MayTakeTurns pages s
may_take s one made home pages = record {
  home = home;
  exists = exists one made;
  alone = made.alone;
  made_for = pages ∙ ap (λ (d : Config). d.pages) (sym made.config);
}
