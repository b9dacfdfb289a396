-- Calls on registers that are null.
use Rattle.std.proofs.Common.{IfErr, IfOk, OnErr}
use Rattle.mk_run.proofs.Below.Laws.Vocabulary.{Answer, Bool, Null, Op, Some, ℕ, ap, arith, length, refl, subst, sym}
use Rattle.mk_run.proofs.Below.Laws.Vocabulary.{◌<◌, ◌∙◌}
use Rattle.mk_run.proofs.Below.Laws.Vocabulary.{◌≡◌, ◌≢◌}
use Rattle.mk_heap_tests.proofs.Vocabulary.{Err, HoldsNull, IsCaller, Ok, OnOk, PassState, Result, caller_of_pass}
use Rattle.mk_heap_tests.proofs.Vocabulary.{value_of}
use Rattle.mk_run.proofs.Below.Callers.After.{calls_leave_other_registers}
use Rattle.mk_run.specs.Below.Callers.Called.{Called, IsAnswered, Says}
use Rattle.mk_run.specs.Below.Callers.Called.{FindsGateHeld, IsRefused, destination}
use Rattle.mk_run.specs.Below.Callers.{States.{Admits, never_of}, declared.refusals.Refusal.Refusal}
use Rattle.mk_heap_tests.{proofs.JoinedHosts.{globals_are, has_registers}, specs.HeldObjects.StaysNull}

of_a_caller : {p : PassState} → HoldsNull p → IsCaller (never_of p) (caller_of_pass p)
of_a_caller h = grind (arith, has_registers)

first_global : (p : PassState) → 0 < length (never_of p).globals
first_global p =
    let count = globals_are p.table.config p.seen in
    omega arith

-- what is admitted

pub may_move : {p : PassState} → HoldsNull p → Admits p (Op.Move 0 1)
may_move {p} h = record { of_a_caller = of_a_caller h; in_range = (omega arith, omega arith); access = tt; store = tt }

pub may_load : {p : PassState} → HoldsNull p → Admits p (Op.GetGlobal 2 0)
may_load {p} h =
    record { of_a_caller = of_a_caller h; in_range = (omega arith, first_global p); access = tt; store = tt }

pub may_compare : {p : PassState} → HoldsNull p → Admits p (Op.Same 1 2)
may_compare {p} h =
    record { of_a_caller = of_a_caller h; in_range = (omega arith, omega arith); access = tt; store = tt }

pub may_store : {p : PassState} → HoldsNull p → Admits p (Op.SetGlobal 0 1)
may_store {p} h = grind (arith, of_a_caller, first_global)

pub may_read : {p : PassState} → HoldsNull p → Admits p (Op.GetNum 1 0)
may_read h = grind (arith, of_a_caller)

-- The register stays null, after a call that sets another one, and where there was no call.

later : {p : PassState} (q : PassState) → q ≡ record p { seen = q.seen } → value_of q 1 ≡ value_of p 1 → HoldsNull p
    → HoldsNull q
later q is same h = record {
  number = h.number;
  seat = ap (λ (r : PassState). r.seat) is ∙ h.seat;
  exists = subst (λ (r : PassState). h.number < r.table.config.callers) (sym is) h.exists;
  null = same ∙ h.null;
}

pub stays_called : {p q : PassState} {o : Op} {a : Answer} → Called p o a q → destination o ≢ Some 1 → HoldsNull p
    → StaysNull p q
stays_called {p} {q} {o} {a} c other h =
    let is : q ≡ record p { seen = q.seen } = cc (c.is) in
    record { is = is; null = later q is (calls_leave_other_registers p o a q 1 c (omega arith) other) h }

pub stays_held : {p q : PassState} {o : Op} → FindsGateHeld p o q → HoldsNull p → StaysNull p q
stays_held {p} {q} f h = grind (arith, later)

-- Whatever the answer is.

pub stays_done : {T E : Type 0} {p : PassState} (q : PassState) (o : Op) (a : Answer) (r : Result T E)
    → OnOk r (Called p o a q) → OnErr r (FindsGateHeld p o q) → destination o ≢ Some 1 → HoldsNull p → StaysNull p q
stays_done q o a (Ok x) called held other h = stays_called called other h
stays_done q o a (Err e) called held other h = stays_held held h

pub stays_answered : {T E : Type 0} {p : PassState} (q : PassState) (o : Op) (r : Result T E)
    → OnOk r (IsAnswered p o q) → OnErr r (FindsGateHeld p o q) → destination o ≢ Some 1 → HoldsNull p → StaysNull p q
stays_answered q o (Ok x) answered held other h = stays_called answered.called other h
stays_answered q o (Err e) answered held other h = stays_held held h

pub stays_said : {E : Type 0} {p : PassState} (q : PassState) (o : Op) (r : Result Bool E) → IfOk r (λ b. Says p o b q)
    → OnErr r (FindsGateHeld p o q) → destination o ≢ Some 1 → HoldsNull p → StaysNull p q
stays_said q o (Ok b) said held other h = stays_called said other h
stays_said q o (Err e) said held other h = stays_held held h

stays_refused : {p : PassState} (q : PassState) (o : Op) (e : Refusal) → IsRefused p o e q → destination o ≢ Some 1
    → HoldsNull p → StaysNull p q
stays_refused q o Refusal.Fault refused other h = stays_called refused.0 other h
stays_refused q o Refusal.Null refused other h = stays_called refused.0 other h
stays_refused q o Refusal.Held refused other h = stays_held refused h

pub stays_read : {p : PassState} (q : PassState) (o : Op) (r : Result ℕ Refusal) → IfOk r (λ n. Called p o
    (Answer.Num n) q) → IfErr r (λ e. IsRefused p o e q) → destination o ≢ Some 1 → HoldsNull p → StaysNull p q
stays_read q o (Ok n) called refused other h = stays_called called other h
stays_read {p} q o (Err e) called refused other h = stays_refused q o e refused other h

pub stays_then : {p q r : PassState} → StaysNull p q → StaysNull q r → StaysNull p r
stays_then {r = r} first second =
    record { is = second.is ∙ ap (λ (x : PassState). record x { seen = r.seen }) first.is; null = second.null }

pub stays_there : {p : PassState} → HoldsNull p → StaysNull p p
stays_there h = record { is = refl; null = h }
