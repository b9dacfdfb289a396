-- A global stays as it is set, up to the next call that sets it.
use Rattle.std.proofs.Common.{filter}
use Rattle.mk_heap.proofs.Below.Laws.Vocabulary.{Bool, Decided, List, NeverState, Null, Num, Op, Ptr, Unmapped, Value}
use Rattle.mk_heap.proofs.Below.Laws.Vocabulary.{WordOf, ℕ}
use Rattle.mk_heap.proofs.Below.Laws.Vocabulary.{after_calls, after_free, arith, asked, cond, eq-eqb, false}
use Rattle.mk_heap.proofs.Below.Laws.Vocabulary.{get_or-set_other}
use Rattle.mk_heap.proofs.Below.Laws.Vocabulary.{get_or-set_same, global_at, if◌then◌else◌, length, refl, register_at}
use Rattle.mk_heap.proofs.Below.Laws.Vocabulary.{sym, true}
use Rattle.mk_heap.proofs.Below.Laws.Vocabulary.{with_register, with_word, word_at, [], ◌<◌, ◌∙◌, ◌∷◌, ◌≡◌}
use Rattle.mk_never.specs.NeverHeap.{after_op, left_at}
use Rattle.mk_never.specs.declared.values.Target.{Target, TheVariants.Nothing}
use Rattle.mk_clients.specs.Clients.{is_set_of}

-- those of the calls that set the global
abbrev pub set_among : ℕ → List Decided → List Decided
set_among g xs = filter (λ (x : Decided). is_set_of g x.op) xs

free_keeps : (n : NeverState) (g : ℕ) (v : Value) → global_at (after_free n v) g ≡ global_at n g
free_keeps n g Null = refl
free_keeps n g (Num m) = refl
free_keeps n g (Ptr a t o) = refl

left_keeps : (n m : NeverState) (g : ℕ) (t : Target) (f : ℕ → ℕ → NeverState) → global_at m g ≡ global_at n g
    → ((a w : ℕ) → global_at (f a w) g ≡ global_at n g) → global_at (left_at t m f) g ≡ global_at n g
left_keeps n m g Nothing f x y = x
left_keeps n m g Unmapped f x y = x
left_keeps n m g (WordOf a w) f x y = y a w

new_keeps : (n m : NeverState) (g : ℕ) (full : Bool) → global_at m g ≡ global_at n g
    → global_at (if full then n else m) g ≡ global_at n g
new_keeps n m g true x = refl
new_keeps n m g false x = x

op_keeps : (n : NeverState) (k : ℕ) (o : Op) (g : ℕ) → is_set_of g o ≡ false
    → global_at (after_op n k o) g ≡ global_at n g
op_keeps n k (Op.New d ty full) g h = new_keeps n _ g full refl
op_keeps n k (Op.Free p) g h = free_keeps n g (register_at n k p)
op_keeps n k (Op.GetNum q i) g h = refl
op_keeps n k (Op.SetNum q i m) g h = left_keeps n n g _ (λ a w. with_word n a w (Num m)) refl (λ a w. refl)
op_keeps n k (Op.GetPtr d q i) g h = left_keeps n _ g _ (λ a w. with_register n k d (word_at n a w)) refl (λ a w. refl)
op_keeps n k (Op.SetPtr q i p) g h = left_keeps n n g _ (λ a w. with_word n a w (register_at n k p)) refl (λ a w. refl)
op_keeps n k (Op.CasPtr q i p r) g h = grind (arith, left_keeps)
op_keeps n k (Op.SetGlobal x p) g h =
    get_or-set_other n.globals x g (register_at n k p) Null
    (λ e. (let t : true ≡ false = sym (eq-eqb x g (sym e)) ∙ h in cc))
op_keeps n k _ g h = refl

unset : (g : ℕ) (x : Decided) (xs : List Decided) → set_among g (x ∷ xs) ≡ []
    → (is_set_of g x.op ≡ false) × (set_among g xs ≡ [])
unset g x xs h = by (is_set_of g x.op) refl h
  where
    by : (b : Bool) → is_set_of g x.op ≡ b → cond b (x ∷ set_among g xs) (set_among g xs) ≡ []
        → (is_set_of g x.op ≡ false) × (set_among g xs ≡ [])
    by true e h = cc
    by false e h = (e, h)

pub calls_keep : (n : NeverState) (g : ℕ) (xs : List Decided) → set_among g xs ≡ []
    → global_at (after_calls n (asked xs)) g ≡ global_at n g
calls_keep n g [] h = refl
calls_keep n g (x ∷ xs) h =
    let u = unset g x xs h in
    calls_keep (after_op n x.caller x.op) g xs u.1 ∙ op_keeps n x.caller x.op g u.0

pub set_gives : (n : NeverState) (k g p : ℕ) → g < length n.globals
    → global_at (after_op n k (Op.SetGlobal g p)) g ≡ register_at n k p
set_gives n k g p lt = get_or-set_same n.globals g (register_at n k p) Null lt
