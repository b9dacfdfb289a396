-- What the registers of the clients hold after their calls.
use Rattle.std.proofs.Common.{Err, IfOk, Ok, Result}
use Rattle.mk_heap.proofs.Below.Laws.Vocabulary.{Answer, Bool, Config, Event, List, NeverState, Op, ℕ, ap, arith}
use Rattle.mk_heap.proofs.Below.Laws.Vocabulary.{cases_eq, eq-eqb}
use Rattle.mk_heap.proofs.Below.Laws.Vocabulary.{global_at, inl, inr, is_same, never_behind, one_if, refl, subst, sym}
use Rattle.mk_heap.proofs.Below.Laws.Vocabulary.{true, ◌++◌}
use Rattle.mk_heap.proofs.Below.Laws.{Vocabulary.{◌<◌, ◌∙◌, ◌≡◌, ◌≢◌}, OtherCalls.never_continues}
use Rattle.mk_never.{proofs.Sameness.{same_from_equal}, specs.Admitted.{IsCaller}}
use Rattle.mk_heap.proofs.Below.Callers.After.{caller_there, calls_leave_other_registers, set_same, still_caller}
use Rattle.mk_heap.{proofs.Below.Callers.After.{value_left}, specs.Below.Words.declared.call_steps.Held.{Held}}
use Rattle.mk_heap.specs.Below.Callers.States.{Admits, caller_of_pass, never_of, value_of}
use Rattle.mk_heap.specs.Below.{Callers.Called.{Called, IsAnswered}, Words.States.PassState}
use Rattle.mk_clients.proofs.Between.{at_once, before, between, decided, never_later, never_there, none_between, place}
use Rattle.mk_clients.proofs.{Between.same_config, Globals.{calls_keep, set_gives}}
use Rattle.mk_clients.specs.Clients.{HasSeenAllOf, IsOnlyCall, TakesOut, is_set_of}

pub same_is : (p : PassState) (x y : ℕ) → value_of p x ≡ value_of p y → is_same (value_of p x) (value_of p y) ≡ true
same_is p x y e = same_from_equal (value_of p x) (value_of p y) e

-- through registers

pub moved : {p q : PassState} (d x : ℕ) → Admits p (Op.Move d x) → Called p (Op.Move d x) Answer.Done q
    → value_of q d ≡ value_of p x
moved {p} d x ad c =
    value_left c d ad.in_range.0 ∙ set_same (never_behind p.table.config (p.seen ++ c.decided.before))
    (caller_of_pass p) d _ (caller_there c ad.of_a_caller) ad.in_range.0 ∙ c.decided.known x ad.in_range.1

source : {p q : PassState} (d x : ℕ) → Admits p (Op.Move d x) → Called p (Op.Move d x) Answer.Done q
    → value_of q x ≡ value_of p x
source {p} {q} d x ad c = elim (cases_eq d x) [
  | inl e ↦ ap (λ y. value_of q y) (sym e) ∙ moved d x ad c
  | inr ne ↦ calls_leave_other_registers p (Op.Move d x) Answer.Done q x c ad.in_range.1 (λ e. ne (cc e))
]

pub moved_same : {p q : PassState} (d x : ℕ) → Admits p (Op.Move d x) → Called p (Op.Move d x) Answer.Done q
    → is_same (value_of q d) (value_of q x) ≡ true
moved_same {p} {q} d x ad c = same_is q d x (moved d x ad c ∙ sym (source d x ad c))

pub may_compare : {p q : PassState} {o : Op} {a : Answer} (x y : ℕ) → IsCaller (never_of p) (caller_of_pass p) → x < 8
    → y < 8 → Called p o a q → Admits q (Op.Same x y)
may_compare x y is lx ly c = record { of_a_caller = still_caller c is; in_range = (lx, ly); access = tt; store = tt }

-- through a global

pub may_get : {p q : PassState} (d g r : ℕ) → Admits p (Op.SetGlobal g r) → d < 8
    → Called p (Op.SetGlobal g r) Answer.Done q → Admits q (Op.GetGlobal d g)
may_get d g r ad lt c = grind (arith, never_continues, still_caller)

module _ {p0 p1 r1 p2 p3 : PassState} (d g r : ℕ) (word : ℕ) (a : Answer) (o : Op) (ad : Admits p0 (Op.SetGlobal g r))
    (may : Admits r1 (Op.GetGlobal d g)) (set : Called p0 (Op.SetGlobal g r) Answer.Done p1) (later : HasSeenAllOf p1
    r1) (get : Called r1 (Op.GetGlobal d g) (Answer.Word word) p2) (last : Called p2 o a p3) where
  abbrev c : Config
  c = p0.table.config

  abbrev n1 : NeverState
  n1 = never_behind c (before set later get)

  -- The register that is loaded holds what the other one held.
  pub got : IsOnlyCall (is_set_of g) p0 (Op.SetGlobal g r) p3 → value_of p2 d ≡ value_of p0 r
  got only =
      value_left get d may.in_range.0
      ∙ set_same (never_behind r1.table.config (r1.seen ++ get.decided.before)) (caller_of_pass r1) d _
      (caller_there get may.of_a_caller) may.in_range.0
      ∙ ap (λ (k : Config). global_at (never_behind k (r1.seen ++ get.decided.before)) g) (same_config set later get)
      ∙ ap (λ (l : List Event). global_at (never_behind c l) g) (place set later get)
      ∙ (ap (λ (n : NeverState). global_at n g) (never_later set later get)
      ∙ calls_keep (never_behind c (decided set later get)) g (between set later get)
      (none_between set later get (is_set_of g) p3.seen last.more (ap (λ (x : PassState). x.seen) last.is)
      (eq-eqb g g refl) only)
      ∙ ap (λ (n : NeverState). global_at n g) (never_there set later get)
      ∙ set_gives n1 (caller_of_pass p0) g r
      (subst (λ count. g < count) (sym (never_continues c p0.seen set.decided.before).globals) ad.in_range.0)
      ∙ set.decided.known r ad.in_range.1)

  -- Another register stays as it is while the global is loaded.
  pub kept : (x : ℕ) → x < 8 → d ≢ x → value_of p2 x ≡ value_of r1 x
  kept x lt ne = calls_leave_other_registers r1 (Op.GetGlobal d g) (Answer.Word word) p2 x get lt (λ e. ne (cc e))

through_global : {p0 p1 p2 p3 : PassState} (d g r : ℕ) (word : ℕ) (a : Answer) (o : Op) → Admits p0 (Op.SetGlobal g r)
    → d < 8 → d ≢ r → Called p0 (Op.SetGlobal g r) Answer.Done p1 → Called p1 (Op.GetGlobal d g) (Answer.Word word) p2
    → Called p2 o a p3 → IsOnlyCall (is_set_of g) p0 (Op.SetGlobal g r) p3
    → is_same (value_of p2 r) (value_of p2 d) ≡ true
through_global {p0} {p1} {p2} d g r word a o ad lt ne set get last only =
    let may = may_get d g r ad lt set in
    same_is p2 r d (kept d g r word a o ad may set (at_once p1) get last r ad.in_range.1 ne
    ∙ calls_leave_other_registers p0 (Op.SetGlobal g r) Answer.Done p1 r set ad.in_range.1 (λ e. cc)
    ∙ sym (got d g r word a o ad may set (at_once p1) get last only))

-- The answers of the clients.

pub told_of_other : (b p2 p3 : PassState) (y : Result Bool Held) (d g x : ℕ) → Admits b (Op.GetGlobal d g) → x < 8
    → d ≢ x → IsAnswered b (Op.GetGlobal d g) p2 → IfOk y (λ s. Called p2 (Op.Same d x) (Answer.Num (one_if s)) p3)
    → IfOk y (λ s. s ≡ is_same (value_of p2 d) (value_of p2 x)) → IfOk y (λ s. TakesOut b g x s p3)
told_of_other b p2 p3 (Ok s) d g x may lt ne get last is = λ p0 p1 r ad set later only e. is
    ∙ same_is p2 d x (got d g r get.word (Answer.Num (one_if s)) (Op.Same d x) ad may set later get.called last only
    ∙ sym e ∙ sym (kept d g r get.word (Answer.Num (one_if s)) (Op.Same d x) ad may set later get.called last x lt ne))
told_of_other b p2 p3 (Err e) d g x may lt ne get last is = tt

pub told : (x : Result Bool Held) (b : Bool) → IfOk x (λ s. s ≡ b) → b ≡ true → IfOk x (λ s. s ≡ true)
told (Ok s) b is h = is ∙ h
told (Err e) b is h = tt

pub told_of_global : (p0 p1 p2 p3 : PassState) (x : Result Bool Held) (d g r : ℕ) → Admits p0 (Op.SetGlobal g r) → d < 8
    → d ≢ r → Called p0 (Op.SetGlobal g r) Answer.Done p1 → IsAnswered p1 (Op.GetGlobal d g) p2 → IfOk x
    (λ s. Called p2 (Op.Same r d) (Answer.Num (one_if s)) p3) → IfOk x
    (λ s. s ≡ is_same (value_of p2 r) (value_of p2 d))
    → IfOk x (λ s. IsOnlyCall (is_set_of g) p0 (Op.SetGlobal g r) p3 → s ≡ true)
told_of_global p0 p1 p2 p3 (Ok s) d g r ad lt ne set get last is = λ only. is
    ∙ through_global d g r get.word (Answer.Num (one_if s)) (Op.Same r d) ad lt ne set get.called last only
told_of_global p0 p1 p2 p3 (Err e) d g r ad lt ne set get last is = tt
