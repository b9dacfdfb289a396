-- Allocations stay: their types, their sizes, and that they are freed.
use Rattle.std.proofs.Common.{List, ℕ, ap, arith, length, length-append, length-set, refl, set, subst, true, [], ◌<◌}
use Rattle.std.proofs.{Common.{◌∙◌, ◌∷◌, ◌≡◌}, lemmas.List.get_or_append_left}
use Rattle.mk_never.proofs.Edits.{freed_exists, if_by, left_at_by, set_by}
use Rattle.mk_never.specs.{Laws.{Continues, FreedStays, TypeStays}, NeverHeap.{Allocation, Call, NeverState}}
use Rattle.mk_never.specs.NeverHeap.{after_calls, after_free, after_op, allocation_at, is_same, left_at, no_allocation}
use Rattle.mk_never.specs.NeverHeap.{register_at, with_freed, with_global, with_new, with_register, with_word, word_at}
use Rattle.mk_never.specs.{NeverHeap.words_of, declared.operations.Op.TheVariants.{CasPtr, Clear, Free, GetGlobal}}
use Rattle.mk_never.specs.declared.operations.Op.TheVariants.{GetPtr, Lea, Move, New, SetGlobal, SetNum, SetPtr}
use Rattle.mk_never.specs.{declared.values.Value.TheVariants.{Null, Num, Ptr}, declared.operations.Op.Op}
use Rattle.mk_never.specs.{declared.values.Target.Target, declared.values.Value.Value}

-- a state with these allocations, and with other registers or globals
same_allocations : (n m : NeverState) → m.types ≡ n.types → m.allocations ≡ n.allocations
    → length m.registers ≡ length n.registers → length m.globals ≡ length n.globals → Continues n m
same_allocations n m types allocations registers globals = grind arith

pub same : (n : NeverState) → Continues n n
same n = same_allocations n n refl refl refl refl

pub join : {n m o : NeverState} → Continues n m → Continues m o → Continues n o
join first second = grind arith

pub register_stays : (n : NeverState) (c r : ℕ) (v : Value) → Continues n (with_register n c r v)
register_stays n c r v = same_allocations n _ refl refl (length-set _ _ _) refl

pub global_stays : (n : NeverState) (g : ℕ) (v : Value) → Continues n (with_global n g v)
global_stays n g v = same_allocations n _ refl refl refl (length-set _ _ _)

-- an allocation becomes another of the same type and size, freed if it was
pub edit_stays : (n : NeverState) (number : ℕ) (new : Allocation) → new.ty ≡ (allocation_at n number).ty
    → length new.words ≡ length (words_of n number) → ((allocation_at n number).freed ≡ true → new.freed ≡ true)
    → Continues n (record n { allocations = set n.allocations number new })
edit_stays n number new ty size freed = record {
  types = refl;
  registers = refl;
  globals = refl;
  count = omega (arith, length-set n.allocations number new);
  ty = λ k h. set_by (λ a. a.ty ≡ (allocation_at n k).ty) n.allocations number k new no_allocation (λ e. rw e ty) refl;
  size = λ k h. set_by (λ a. length a.words ≡ length (words_of n k)) n.allocations number k new no_allocation
      (λ e. rw e size) refl;
  freed = λ k h. set_by (λ a. a.freed ≡ true) n.allocations number k new no_allocation
      (λ e. freed (subst (λ j. (allocation_at n j).freed ≡ true) e h)) h;
}

pub word_stays : (n : NeverState) (number place : ℕ) (v : Value) → Continues n (with_word n number place v)
word_stays n number place v = edit_stays n number _ refl (length-set _ _ _) (λ h. h)

pub freed_stays : (n : NeverState) (number : ℕ) → Continues n (with_freed n number)
freed_stays n number = edit_stays n number _ refl refl (λ h. refl)

pub old_stays : (n : NeverState) (ty number : ℕ) → number < length n.allocations
    → allocation_at (with_new n ty) number ≡ allocation_at n number
old_stays n ty number h = get_or_append_left _ _ _ _ h

pub new_stays : (n : NeverState) (ty : ℕ) → Continues n (with_new n ty)
new_stays n ty = record {
  types = refl;
  registers = refl;
  globals = refl;
  count = simp length-append (omega arith);
  ty = λ number h. ap (λ a. a.ty) (old_stays n ty number h);
  size = λ number h. ap (λ a. length a.words) (old_stays n ty number h);
  freed = λ number h. let in_it : number < length n.allocations =
      freed_exists n number h in ap (λ a. a.freed) (old_stays n ty number in_it) ∙ h;
}

free_stays : (n : NeverState) (v : Value) → Continues n (after_free n v)
free_stays n Null = same n
free_stays n (Num m) = same n
free_stays n (Ptr number ty offset) = freed_stays n number

-- an access leaves the allocations if what it leaves at each word does
access_stays : {n : NeverState} (t : Target) {refused : NeverState} (at : ℕ → ℕ → NeverState)
    → Continues n refused → ((number place : ℕ) → Continues n (at number place)) → Continues n (left_at t refused at)
access_stays t at kept reached = grind (arith, left_at_by)

pub op_stays : (n : NeverState) (c : ℕ) (op : Op) → Continues n (after_op n c op)
op_stays n c (New d ty full) = if_by (λ m. Continues n m) full _ _ (λ e. same n)
    (λ e. join (new_stays n ty) (register_stays (with_new n ty) c d _))
op_stays n c (Free p) = free_stays n (register_at n c p)
op_stays n c (SetNum q i m) = access_stays _ _ (same n) (λ number place. word_stays n number place _)
op_stays n c (GetPtr d q i) = access_stays _ _ (register_stays n c d _) (λ number place. register_stays n c d _)
op_stays n c (SetPtr q i p) = access_stays _ _ (same n) (λ number place. word_stays n number place _)
op_stays n c (CasPtr q i p r) = access_stays _ _ (same n) (λ number place. if_by (λ m. Continues n m)
    (is_same (word_at n number place) (register_at n c p)) _ _ (λ e. word_stays n number place _) (λ e. same n))
op_stays n c (Lea d q i) = register_stays n c d _
op_stays n c (Move d q) = register_stays n c d _
op_stays n c (Clear d) = register_stays n c d _
op_stays n c (GetGlobal d g) = register_stays n c d _
op_stays n c (SetGlobal g p) = global_stays n g _
op_stays n c _ = same n

pub calls_stay : (n : NeverState) (calls : List Call) → Continues n (after_calls n calls)
calls_stay n [] = same n
calls_stay n (x ∷ xs) = join (op_stays n x.caller x.op) (calls_stay (after_op n x.caller x.op) xs)

pub types_stay : (n : NeverState) (calls : List Call) (number : ℕ) → number < length n.allocations
    → TypeStays n (after_calls n calls) number
types_stay n calls number there = grind (arith, calls_stay)

pub freed_stays_freed : (n : NeverState) (calls : List Call) (number : ℕ) → FreedStays n (after_calls n calls) number
freed_stays_freed n calls number = grind (arith, calls_stay)
