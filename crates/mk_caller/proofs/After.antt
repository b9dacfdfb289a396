-- What a call leaves in its caller's registers.
use Rattle.mk_words.proofs.Below.Laws.Vocabulary.{Answer, Bool, NeverState, Null, Num, Op, Ptr, Some, Unmapped, Value}
use Rattle.mk_words.proofs.Below.Laws.Vocabulary.{WordOf, ℕ, after_free, ap, arith, false, get_or-set_other}
use Rattle.mk_words.proofs.Below.Laws.Vocabulary.{get_or-set_same, if◌then◌else◌, is_same, never_behind, refl}
use Rattle.mk_words.proofs.Below.Laws.Vocabulary.{register_at, true, with_register, with_word, word_at, ◌*◌, ◌++◌, ◌+◌}
use Rattle.mk_words.proofs.Below.Laws.{Vocabulary.{◌<◌, ◌∙◌, ◌≡◌, ◌≢◌}, OtherCalls.never_continues}
use Rattle.mk_never.specs.{NeverHeap.{after_op, left_at}, Admitted.IsCaller, declared.values.Target.Target}
use Rattle.mk_never.specs.declared.values.Target.TheVariants.{Nothing}
use Rattle.mk_caller.specs.{States.{caller_of_pass, never_of, value_of}, Called.Called}
use Rattle.mk_caller.specs.Called.{CallsLeaveOtherRegisters, destination}
use Rattle.mk_words.specs.States.{PassState}

set_other : (n : NeverState) (k d r : ℕ) (v : Value) → Some d ≢ Some r
    → register_at (with_register n k d v) k r ≡ register_at n k r
set_other n k d r v ne = get_or-set_other n.registers (8 * k + d) (8 * k + r) v Null
    (λ e. ne (let same : d ≡ r = omega arith in cc))

pub set_same : (n : NeverState) (k d : ℕ) (v : Value) → IsCaller n k → d < 8
    → register_at (with_register n k d v) k d ≡ v
set_same n k d v is lt = get_or-set_same n.registers (8 * k + d) v Null (omega arith)

free_leaves : (n : NeverState) (k r : ℕ) (v : Value) → register_at (after_free n v) k r ≡ register_at n k r
free_leaves n k r Null = refl
free_leaves n k r (Num m) = refl
free_leaves n k r (Ptr a t o) = refl

write_leaves : (n : NeverState) (k r : ℕ) (t : Target) (v : ℕ → ℕ → Value)
    → register_at (left_at t n (λ a w. with_word n a w (v a w))) k r ≡ register_at n k r
write_leaves n k r Nothing v = refl
write_leaves n k r Unmapped v = refl
write_leaves n k r (WordOf a w) v = refl

cas_leaves : (n : NeverState) (k r : ℕ) (t : Target) (x v : Value) → register_at
    (left_at t n (λ a w. if is_same (word_at n a w) x then with_word n a w v else n)) k r ≡ register_at n k r
cas_leaves n k r Nothing x v = refl
cas_leaves n k r Unmapped x v = refl
cas_leaves n k r (WordOf a w) x v = grind arith

read_leaves : (n : NeverState) (k d r : ℕ) (t : Target) → Some d ≢ Some r → register_at
    (left_at t (with_register n k d Null) (λ a w. with_register n k d (word_at n a w))) k r ≡ register_at n k r
read_leaves n k d r Nothing ne = set_other n k d r Null ne
read_leaves n k d r Unmapped ne = set_other n k d r Null ne
read_leaves n k d r (WordOf a w) ne = set_other n k d r (word_at n a w) ne

new_leaves : (n m : NeverState) (k d r : ℕ) (v : Value) (full : Bool) → m.registers ≡ n.registers → Some d ≢ Some r
    → register_at (if full then n else with_register m k d v) k r ≡ register_at n k r
new_leaves n m k d r v true same ne = refl
new_leaves n m k d r v false same ne = grind (arith, set_other)

leaves : (n : NeverState) (k : ℕ) (o : Op) (r : ℕ) → destination o ≢ Some r
    → register_at (after_op n k o) k r ≡ register_at n k r
leaves n k (Op.New d ty full) r ne = new_leaves n _ k d r _ full refl ne
leaves n k x3 r ne = grind (arith, free_leaves, write_leaves, read_leaves, cas_leaves, set_other)

-- A register after a call is what the operation leaves at its place.
pub value_left : {p q : PassState} {o : Op} {a : Answer} → (c : Called p o a q) → (r : ℕ) → r < 8
    → value_of q r ≡ register_at
    (after_op (never_behind p.table.config (p.seen ++ c.decided.before)) (caller_of_pass p) o) (caller_of_pass p) r
value_left c r lt = ap (λ (x : PassState). value_of x r) c.is ∙ c.decided.left_so r lt

pub calls_leave_other_registers : CallsLeaveOtherRegisters
calls_leave_other_registers p o a q r c lt ne = grind (arith, value_left, leaves)

-- A caller stays one.
pub still_caller : {p q : PassState} {o : Op} {a : Answer} → (c : Called p o a q)
    → IsCaller (never_of p) (caller_of_pass p) → IsCaller (never_of q) (caller_of_pass q)
still_caller c is = grind (arith, never_continues)

pub caller_there : {p q : PassState} {o : Op} {a : Answer} → (c : Called p o a q) → IsCaller (never_of p)
    (caller_of_pass p) → IsCaller (never_behind p.table.config (p.seen ++ c.decided.before)) (caller_of_pass p)
caller_there c is = grind (arith, never_continues)
