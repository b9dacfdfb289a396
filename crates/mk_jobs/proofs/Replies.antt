-- One call of a caller, as one more operation with its reply.
use Rattle.mk_jobs.proofs.RunVocabulary.{Answer, AreAdmitted, Call, Called, Config, Decided, Event, IsHistory, IsTyped}
use Rattle.mk_jobs.proofs.RunVocabulary.{NeverState, Op, PassState, Replied, after_calls, after_op, answer_of, asked}
use Rattle.mk_jobs.proofs.RunVocabulary.{caller_of_pass, calls, calls_from, flagged, left, never_behind, never_first}
use Rattle.mk_jobs.proofs.RunVocabulary.{never_of, own_replied, register_at, replied_in, replied_to, reply_of, value_of}
use Rattle.mk_jobs.proofs.OwnCalls.{none_since}
use Rattle.mk_heap.proofs.Below.Laws.Vocabulary.{Bool, KeepsRegisters, List, ℕ, ap, append-nil, arith, bases_of, eq-eqb}
use Rattle.mk_heap.proofs.Below.Laws.Vocabulary.{false}
use Rattle.mk_heap.proofs.Below.Laws.Vocabulary.{if◌then◌else◌, is_under_turn, length, map-append, refl, subst, sym, []}
use Rattle.mk_heap.proofs.Below.Laws.Vocabulary.{◌++◌, ◌<◌}
use Rattle.mk_heap.proofs.Below.Laws.{Vocabulary.{◌==◌, ◌∙◌, ◌∷◌, ◌≡◌}, CallSorts.flag_is}
use Rattle.mk_heap.proofs.Below.Laws.LastEvents.{comes_last, stands}
use Rattle.mk_never.specs.Admitted.{IsCaller}
use Rattle.mk_core.proofs.{Histories.calls_more, HistoryParts.calls_in_parts}
use Rattle.mk_heap.proofs.Below.Objects.OneCalls.{OneCall, before_call, one_call, through_call}
use Rattle.mk_heap.{proofs.Below.Callers.OwnSteps.{calls_by}, specs.Dispatching.{Answers, MakesNoCall, as_told}}
use Rattle.mk_heap.specs.{Below.Objects.TurnCalls.CalledInTurn, Below.Callers.Called.{IsDecidedIn, own_calls}}

-- A caller's operations in two parts

pub own_in_parts : (k : ℕ) (n : NeverState) (xs ys : List Call)
    → own_replied k n (xs ++ ys) ≡ own_replied k n xs ++ own_replied k (after_calls n xs) ys
own_in_parts k n [] ys = refl
own_in_parts k n (x ∷ xs) ys =
    by (x.caller == k) (record { op = x.op; reply = reply_of n x.caller x.op }) _ _ _
    (own_in_parts k (after_op n x.caller x.op) xs ys)
  where
    by : (b : Bool) (r : Replied) (all these those : List Replied) → all ≡ these ++ those
        → (if b then r ∷ all else all) ≡ (if b then r ∷ these else these) ++ those
    by x0 r all these those is = grind arith

-- Calls among which the caller has none
none_replied : (k : ℕ) (n : NeverState) (xs : List Decided) → calls_by k xs ≡ [] → own_replied k n (asked xs) ≡ []
none_replied k n [] h = refl
none_replied k n (x ∷ xs) h = by (x.caller == k) (calls_by k xs) _ h (none_replied k (after_op n x.caller x.op) xs)
  where
    by : (b : Bool) (own : List Decided) (rest : List Replied) → (if b then x ∷ own else own) ≡ [] → (own ≡ []
        → rest ≡ []) → (if b then record { op = x.op; reply = reply_of n x.caller x.op } ∷ rest else rest) ≡ []
    by x0 own rest is next = grind arith

asked_in_two : (xs ys : List Decided) → asked (xs ++ ys) ≡ asked xs ++ asked ys
asked_in_two xs ys = map-append (λ (x : Decided). record { caller = x.caller; op = x.op }) xs ys

-- What is asked in a list that goes on
pub asked_grown : (c : Config) (es more : List Event) {fs : List Event} → fs ≡ es ++ more
    → asked (calls c fs) ≡ asked (calls c es) ++ asked (calls_from c (left c es) more)
asked_grown c es more is = cc (calls_in_parts c es more, asked_in_two (calls c es) (calls_from c (left c es) more))

-- Events that decide no call of the caller leave what it was replied.
pub same_replied : (c : Config) (k : ℕ) (es more : List Event) → calls_by k (calls_from c (left c es) more) ≡ []
    → replied_in c k (es ++ more) ≡ replied_in c k es
same_replied c k es more none =
    let later : List Decided = calls_from c (left c es) more in
    ap (own_replied k (never_first c)) (asked_grown c es more refl)
    ∙ own_in_parts k (never_first c) (asked (calls c es)) (asked later) ∙ ap (λ (l : List Replied). replied_in c k es ++
    l) (none_replied k (never_behind c es) later none) ∙ append-nil (replied_in c k es)

-- What is known of the place at which an operation was decided: the heap that never reuses storage there, in which the
-- caller's registers are those before the call, and leave those after it.
pub record Happens (p : PassState) (o : Op) (a : Answer) (q : PassState) : Type 0 where
  pub is : q ≡ record p { seen = q.seen }
  pub n : NeverState
  pub types : n.types ≡ p.table.config.types
  pub typed : IsTyped p.table.config.globals n
  pub count : length n.globals ≡ 64
  pub caller : IsCaller n (caller_of_pass p)
  pub before : KeepsRegisters (caller_of_pass p) (never_of p) n
  pub after : (r : ℕ) → r < 8 → value_of q r ≡ register_at (after_op n (caller_of_pass p) o) (caller_of_pass p) r
  pub bases : List ℕ
  pub image : a ≡ answer_of bases (reply_of n (caller_of_pass p) o)
  pub did : replied_to q ≡ replied_to p ++ record { op = o; reply = reply_of n (caller_of_pass p) o } ∷ []

module _ {p : PassState} {o : Op} {a : Answer} {more : List Event} {decided : IsDecidedIn p o a more}
    (one : OneCall p o a more decided) where
  abbrev c : Config
  c = p.table.config

  abbrev k : ℕ
  k = caller_of_pass p

  abbrev before : List Event
  before = before_call decided

  abbrev through : List Event
  through = through_call decided

  admitted : AreAdmitted c.globals (never_behind c before) (asked (record { caller = k; op = o; answer = a } ∷ []))
  admitted = rw one.decides at (comes_last c before decided.event one.through).admitted

  abbrev here : Replied
  here = record { op = o; reply = reply_of (never_behind c before) k o }

  pub happens : Happens p o a (record p { seen = p.seen ++ more })
  happens =
      let mirrors = (stands c before one.before).all.mirrors in
      record {
        is = refl;
        n = never_behind c before;
        types = mirrors.types;
        typed = mirrors.typed;
        count = mirrors.global_count;
        caller = admitted.0.of_a_caller;
        before = decided.known;
        after = decided.left_so;
        bases = bases_of (left c (p.seen ++ decided.before ++ decided.event ∷ [])).allocations;
        image = decided.reply;
        did = ap (replied_in c k) one.cut ∙ same_replied c k through decided.behind one.none_behind ∙
            (grind (arith, one, calls_more, before_call, asked_in_two, own_in_parts, here, eq-eqb))
            ∙ ap (λ (l : List Replied). l ++ here ∷ []) (same_replied c k p.seen decided.before one.none_before);
      }

pub from_called : {p q : PassState} {o : Op} {a : Answer} → Called p o a q → flagged o a ≡ o
    → IsHistory q.table.config q.seen → Happens p o a q
from_called {p} {q} {o} {a} h once history =
    subst (Happens p o a) (sym h.is)
    (happens (one_call once (subst (λ (r : PassState). IsHistory r.table.config r.seen) h.is history) (h.entry ∙ ap
    (λ (y : Op). own_calls p p.seen ++ record { caller = caller_of_pass p; op = y; answer = a } ∷ []) once) h.decided))

flagged_once : (o : Op) (a : Answer) → flagged (flagged o a) a ≡ flagged o a
flagged_once x0 a = grind arith

pub from_turn : {on : Bool} {p q : PassState} {o : Op} {a : Answer} → CalledInTurn on p o a q
    → IsHistory q.table.config q.seen → Happens p (flagged o a) a q
from_turn {on} {p} {q} {o} {a} h history =
    subst (Happens p (flagged o a) a) (sym h.is) (happens (one_call (flagged_once o a)
    (subst (λ (r : PassState). IsHistory r.table.config r.seen) h.is history) h.entry h.decided))

-- The caller made no call, and its registers are as they were.
pub record Stays (p q : PassState) : Type 0 where
  pub is : q ≡ record p { seen = q.seen }
  pub did : replied_to q ≡ replied_to p
  pub registers : (r : ℕ) → r < 8 → value_of q r ≡ value_of p r

pub stays : {p q : PassState} → MakesNoCall p q → Stays p q
stays {p} {q} none =
    let c : Config = p.table.config in
    let k : ℕ = caller_of_pass p in
    let more : List Event = none.beside.more in
    let is : q ≡ record p { seen = p.seen ++ more } =
    none.is ∙ ap (λ (l : List Event). record p { seen = l }) none.beside.is in
    let same : own_calls p (p.seen ++ more) ≡ own_calls p p.seen =
    ap (λ (r : PassState). own_calls p r.seen) (sym is) ∙ none.entries in
    record {
      is = none.is;
      did = rw is (same_replied c k p.seen more (none_since c k p.seen more same));
      registers = λ r lt.
          ap (λ (s : PassState). register_at (never_of q) (caller_of_pass s) r) none.is ∙ none.registers r lt;
    }

-- What happens then happens as it would have before.
pub happens_later : {p w : PassState} {o : Op} {a : Answer} {q : PassState} → Stays p w → Happens w o a q
    → Happens p o a q
happens_later {p} {w} {o} {a} {q} still h =
    let now : Happens (record p { seen = w.seen }) o a q = subst (λ (x : PassState). Happens x o a q) still.is h in
    let did : replied_to (record p { seen = w.seen }) ≡ replied_to p = ap replied_to (sym still.is) ∙ still.did in
    let here : Replied = record { op = o; reply = reply_of now.n (caller_of_pass p) o } in
    record {
      is = now.is;
      n = now.n;
      types = now.types;
      typed = now.typed;
      count = now.count;
      caller = now.caller;
      before = λ r lt.
          now.before r lt ∙ (ap (λ (x : PassState). value_of x r) (sym still.is) ∙ still.registers r lt);
      after = now.after;
      bases = now.bases;
      image = now.image;
      did = now.did ∙ ap (λ (l : List Replied). l ++ here ∷ []) did;
    }

-- An operation that takes no turn, once its gate was open
pub record Opened (p : PassState) (o : Op) (told : Answer) (q : PassState) : Type 0 where
  pub answer : Answer
  pub is_told : told ≡ as_told answer
  pub happens : Happens p o answer q

pub once_open : {on : Bool} {p : PassState} {o : Op} {told : Answer} {q : PassState} → is_under_turn o ≡ false
    → Answers on p o told q → Opened p o told q
once_open {o = o} beside answers =
    let later = answers.called beside in
    let c = later.is_called in
    record {
      answer = c.answer;
      is_told = c.is_told;
      happens =
          happens_later (stays later.waits) (from_called c.called (flag_is o c.answer beside) c.called.pass.history);
    }
