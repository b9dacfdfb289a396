-- Each call of a run that can be observed is what its script asks for, told the replies before it.
use Rattle.std.proofs.Common.{eq-eqb}
use Rattle.mk_check.proofs.Vocabulary.{Answer, Blocks, Bool, Fed, Line, List, None, Op, Option, Scope, Some, ap}
use Rattle.mk_check.proofs.Vocabulary.{append-nil}
use Rattle.mk_check.proofs.Vocabulary.{append_assoc, arith, fed_before_answers, feed, first_op, flagged, if◌then◌else◌}
use Rattle.mk_check.proofs.Vocabulary.{length, length-append, map, map-append, note, op_of, refl, script_of}
use Rattle.mk_check.proofs.Vocabulary.{script_scope, sym}
use Rattle.mk_check.proofs.Vocabulary.{take_answer, take_answers, with_answer, ℕ, [], ◌++◌, ◌+◌, ◌==◌, ◌∙◌, ◌∷◌, ◌≡◌}
use Rattle.mk_check.proofs.Vocabulary.{◌≤◌}
use Rattle.mk_never.specs.{NeverHeap.{Call, NeverState, after_calls, after_op, reply_of}}
use Rattle.mk_never.specs.declared.operations.Reply.{Reply}
use Rattle.mk_check.proofs.{AdmittedScripts.first_are_noted, Numbered.{ops-with_answer, run_agrees}}
use Rattle.mk_check.proofs.Observed.{as_many_told}
use Rattle.mk_check.specs.{Laws.ops_of_caller, Observed.{replies_to, told_of}}
use Rattle.mk_check.specs.ObservedLaws.{EachCallIsAskedFor, heap_before}

-- Calls in two parts.

-- what caller k is told of its own calls, from this state on
abbrev told : ℕ → NeverState → List Call → List Answer
told k n xs = map told_of (replies_to k n xs)

replies_parts : (k : ℕ) (n : NeverState) (xs ys : List Call)
    → replies_to k n (xs ++ ys) ≡ replies_to k n xs ++ replies_to k (after_calls n xs) ys
replies_parts k n [] ys = refl
replies_parts k n (x ∷ xs) ys =
    by_test (x.caller == k) (reply_of n x.caller x.op) _ _ _ (replies_parts k (after_op n x.caller x.op) xs ys)
  where
    by_test : (own : Bool) (r : Reply) (all front more : List Reply) → all ≡ front ++ more
        → (if own then r ∷ all else all) ≡ (if own then r ∷ front else front) ++ more
    by_test x0 r all front more e = grind arith

told_parts : (k : ℕ) (n : NeverState) (xs ys : List Call)
    → told k n (xs ++ ys) ≡ told k n xs ++ told k (after_calls n xs) ys
told_parts k n xs ys =
    ap (λ (rs : List Reply). map told_of rs) (replies_parts k n xs ys)
    ∙ map-append told_of (replies_to k n xs) (replies_to k (after_calls n xs) ys)

ops_parts : (k : ℕ) (xs ys : List Call) → ops_of_caller k (xs ++ ys) ≡ ops_of_caller k xs ++ ops_of_caller k ys
ops_parts k [] ys = refl
ops_parts k (x ∷ xs) ys = by_test (x.caller == k) x.op _ _ _ (ops_parts k xs ys)
  where
    by_test : (own : Bool) (o : Op) (all front more : List Op) → all ≡ front ++ more
        → (if own then o ∷ all else all) ≡ (if own then o ∷ front else front) ++ more
    by_test x0 o all front more e = grind arith

-- What answers note.

abbrev noted_by : Option Op → Answer → List Op
noted_by None a = []
noted_by (Some o) a = flagged o a ∷ []

abbrev noted_all : Scope → Fed → List Answer → List Op
noted_all scope fed [] = []
noted_all scope fed (a ∷ xs) =
    noted_by (first_op scope fed fed.left) a ++ noted_all scope (take_answer scope fed fed.left a) xs

ops_note : (fed : Fed) (o : Option Op) (line : ℕ) (a : Answer) → (note fed o line a).ops ≡ fed.ops ++ noted_by o a
ops_note fed None line a = sym (append-nil fed.ops)
ops_note fed (Some o) line a = refl

ops_one : (scope : Scope) (fed : Fed) (left : Blocks) (a : Answer)
    → (take_answer scope fed left a).ops ≡ fed.ops ++ noted_by (first_op scope fed left) a
ops_one scope fed (Line line item rest) a =
    (run_agrees scope rest (with_answer scope (note fed (op_of scope fed item) line a) item a)).answers
    ∙ (ops-with_answer scope (note fed (op_of scope fed item) line a) item a
    ∙ ops_note fed (op_of scope fed item) line a)
ops_one scope fed _ a = sym (append-nil fed.ops)

ops_all : (scope : Scope) (fed : Fed) (xs : List Answer)
    → (take_answers scope fed xs).ops ≡ fed.ops ++ noted_all scope fed xs
ops_all scope fed [] = sym (append-nil fed.ops)
ops_all scope fed (a ∷ xs) =
    let next = take_answer scope fed fed.left a in
    ops_all scope next xs ∙ (ap (λ (os : List Op). os ++ noted_all scope next xs) (ops_one scope fed fed.left a)
    ∙ append_assoc fed.ops (noted_by (first_op scope fed fed.left) a) (noted_all scope next xs))

one_more : (o : Option Op) (a : Answer) (os : List Op) (m : ℕ) → length os ≤ m → length (noted_by o a ++ os) ≤ m + 1
one_more None a os m few = omega arith
one_more (Some o) a os m few = omega arith

few_noted : (scope : Scope) (fed : Fed) (xs : List Answer) → length (noted_all scope fed xs) ≤ length xs
few_noted scope fed [] = omega arith
few_noted scope fed (a ∷ xs) =
    let next = take_answer scope fed fed.left a in
    let more =
    one_more (first_op scope fed fed.left) a (noted_all scope next xs) (length xs) (few_noted scope next xs) in
    omega arith

noted_parts : (scope : Scope) (fed : Fed) (xs ys : List Answer)
    → noted_all scope fed (xs ++ ys) ≡ noted_all scope fed xs ++ noted_all scope (take_answers scope fed xs) ys
noted_parts scope fed [] ys = refl
noted_parts scope fed (a ∷ xs) ys =
    let next = take_answer scope fed fed.left a in
    let first = noted_by (first_op scope fed fed.left) a in
    ap (λ (os : List Op). first ++ os) (noted_parts scope next xs ys)
    ∙ sym (append_assoc first (noted_all scope next xs) (noted_all scope (take_answers scope next xs) ys))

-- As many operations as answers: so each answer notes one.

abbrev head_of : Op → List Op → Op
head_of o [] = o
head_of o (p ∷ os) = p

abbrev tail_of : List Op → List Op
tail_of [] = []
tail_of (p ∷ os) = os

same_head : (fs ns : List Op) (o p : Op) (ms ts : List Op) → length fs ≡ length ns → fs ++ o ∷ ms ≡ ns ++ p ∷ ts → o ≡ p
same_head [] [] o p ms ts long e = ap (head_of o) e
same_head [] (n ∷ ns) o p ms ts long e = absurd (omega arith)
same_head (f ∷ fs) [] o p ms ts long e = absurd (omega arith)
same_head (f ∷ fs) (n ∷ ns) o p ms ts long e = same_head fs ns o p ms ts (omega arith) (ap tail_of e)

abbrev Names : Option Op → Answer → Op → Type 0
Names p t o = (q : Op) × (p ≡ Some q) × (o ≡ flagged q t)

named : (p : Option Op) (t : Answer) (o : Op) (fs ms ns ts : List Op) (a b : ℕ) → length fs ≡ a → length ms ≡ b
    → length ns ≤ a → length ts ≤ b → fs ++ o ∷ ms ≡ ns ++ (noted_by p t ++ ts) → Names p t o
named None t o fs ms ns ts a b la lb ln lt e =
    let same = sym (length-append fs (o ∷ ms)) ∙ (ap length e ∙ length-append ns ts) in absurd (omega arith)
named (Some q) t o fs ms ns ts a b la lb ln lt e =
    let same = sym (length-append fs (o ∷ ms)) ∙ (ap length e ∙ length-append ns (flagged q t ∷ ts)) in
    (q, refl, same_head fs ns o (flagged q t) ms ts (omega arith) e)

own_ops : (x : Call) (xs : List Call) → ops_of_caller x.caller (x ∷ xs) ≡ x.op ∷ ops_of_caller x.caller xs
own_ops x xs = ap (λ (own : Bool). if own then x.op ∷ ops_of_caller x.caller xs else ops_of_caller x.caller xs)
    (eq-eqb x.caller x.caller refl)

own_told : (n : NeverState) (x : Call) (xs : List Call) → told x.caller n (x ∷ xs)
    ≡ told_of (reply_of n x.caller x.op) ∷ told x.caller (after_op n x.caller x.op) xs
own_told n x xs =
    let rest = replies_to x.caller (after_op n x.caller x.op) xs in
    ap (λ (own : Bool). map told_of (if own then reply_of n x.caller x.op ∷ rest else rest))
    (eq-eqb x.caller x.caller refl)

pub each_call_is_asked_for : EachCallIsAskedFor
each_call_is_asked_for program bytes run front more x is script =
    let k = x.caller in
    let n = heap_before program in
    let m = after_calls n front in
    let t = told_of (reply_of m k x.op) in
    let next = after_op m k x.op in
    let scope = script_scope program k in
    let fed = fed_before_answers scope (script_of program k) in
    let before = told k n front in
    let after = told k next more in
    let stopped = take_answers scope fed before in
    let all_told : told k n run.calls ≡ before ++ t ∷ after =
    ap (λ (cs : List Call). told k n cs) is
    ∙ (told_parts k n front (x ∷ more) ∙ ap (λ (l : List Answer). before ++ l) (own_told m x more)) in
    let own : ops_of_caller k run.calls ≡ ops_of_caller k front ++ x.op ∷ ops_of_caller k more =
    ap (λ (cs : List Call). ops_of_caller k cs) is
    ∙ (ops_parts k front (x ∷ more) ∙ ap (λ (l : List Op). ops_of_caller k front ++ l) (own_ops x more)) in
    let noted : (feed program k (before ++ t ∷ after)).ops ≡ noted_all scope fed (before ++ t ∷ after) =
    ops_all scope fed (before ++ t ∷ after)
    ∙ ap (λ (os : List Op). os ++ noted_all scope fed (before ++ t ∷ after)) (sym (first_are_noted program k)) in
    let same : ops_of_caller k front ++ x.op ∷ ops_of_caller k more ≡ noted_all scope fed before
    ++ (noted_by (first_op scope stopped stopped.left) t
    ++ noted_all scope (take_answer scope stopped stopped.left t) after) =
    sym own ∙ (run.operations k script ∙ (ap (λ (l : List Answer). (feed program k l).ops) all_told
    ∙ (noted ∙ noted_parts scope fed before (t ∷ after)))) in
    let names = named (first_op scope stopped stopped.left) t x.op (ops_of_caller k front) (ops_of_caller k more)
    (noted_all scope fed before) (noted_all scope (take_answer scope stopped stopped.left t) after)
    (length before) (length after) (sym (as_many_told k n front)) (sym (as_many_told k next more))
    (few_noted scope fed before) (few_noted scope (take_answer scope stopped stopped.left t) after) same in
    record { op = names.0; asked = names.1; is = names.2 }
