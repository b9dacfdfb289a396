-- What one operation leaves of a heap: what it changes, and that all else stays.
use Rattle.std.proofs.{Common.set, lemmas.List.get_or_at}
use Rattle.mk_heap.proofs.Below.Laws.Vocabulary.{false, List, NeverState, Null, Ptr, Value, allocation_at, ap, arith}
use Rattle.mk_heap.proofs.Below.Laws.Vocabulary.{get_or}
use Rattle.mk_heap.proofs.Below.Laws.Vocabulary.{get_or-set_other, get_or-set_same, global_at, kinds_of, length}
use Rattle.mk_heap.proofs.Below.Laws.Vocabulary.{no_allocation}
use Rattle.mk_heap.proofs.Below.Laws.Vocabulary.{refl, register_at, set_by, suc, sym, with_freed, with_global, with_new}
use Rattle.mk_heap.proofs.Below.Laws.Vocabulary.{with_register, with_word, word_at, words_of, zero, ℕ, [], ◌*◌, ◌++◌}
use Rattle.mk_heap.proofs.Below.Laws.Vocabulary.{◌+◌, ◌<◌}
use Rattle.mk_heap.proofs.Below.Laws.Vocabulary.{◌∙◌, ◌∷◌, ◌≡◌, ◌≢◌}
use Rattle.mk_never.specs.{NeverHeap.Allocation, Types.zero_words}

-- Register d of caller k is set to v.
pub record Sets (k d : ℕ) (v : Value) (n m : NeverState) : Type 0 where
  pub here : register_at m k d ≡ v
  pub others : (r : ℕ) → r ≢ d → register_at m k r ≡ register_at n k r
  pub allocations : m.allocations ≡ n.allocations
  pub globals : (g : ℕ) → global_at m g ≡ global_at n g

-- Word i of allocation a is set to v.
pub record Stores (a i : ℕ) (v : Value) (n m : NeverState) : Type 0 where
  pub here : word_at m a i ≡ v
  pub beside : (j : ℕ) → j ≢ i → word_at m a j ≡ word_at n a j
  pub others : (b : ℕ) → b ≢ a → words_of m b ≡ words_of n b
  pub types : (b : ℕ) → (allocation_at m b).ty ≡ (allocation_at n b).ty
  pub registers : (k r : ℕ) → register_at m k r ≡ register_at n k r
  pub globals : (g : ℕ) → global_at m g ≡ global_at n g

-- An object of type ty is created, and register d of caller k points to it.
pub record Creates (k d ty : ℕ) (n m : NeverState) : Type 0 where
  pub here : register_at m k d ≡ Ptr (length n.allocations) ty 0
  pub others : (r : ℕ) → r ≢ d → register_at m k r ≡ register_at n k r
  pub created : allocation_at m (length n.allocations) ≡ record {
    ty = ty;
    words = zero_words (kinds_of n.types ty);
    freed = false;
  }
  pub old : (b : ℕ) → b ≢ length n.allocations → allocation_at m b ≡ allocation_at n b
  pub globals : (g : ℕ) → global_at m g ≡ global_at n g

-- An allocation is freed: its words stay.
pub record Frees (n m : NeverState) : Type 0 where
  pub words : (b : ℕ) → words_of m b ≡ words_of n b
  pub types : (b : ℕ) → (allocation_at m b).ty ≡ (allocation_at n b).ty
  pub registers : (k r : ℕ) → register_at m k r ≡ register_at n k r
  pub globals : (g : ℕ) → global_at m g ≡ global_at n g

pub sets : (n : NeverState) (k d : ℕ) (v : Value) → 8 * k + d < length n.registers
    → Sets k d v n (with_register n k d v)
sets n k d v there = record {
  here = get_or-set_same n.registers (8 * k + d) v Null there;
  others = λ r other. get_or-set_other n.registers (8 * k + d) (8 * k + r) v Null (λ e. other (omega arith));
  allocations = refl;
  globals = λ g. refl;
}

pub stores : (n : NeverState) (a i : ℕ) (v : Value) → a < length n.allocations → i < length (words_of n a)
    → Stores a i v n (with_word n a i v)
stores n a i v there inside =
    let same = get_or-set_same n.allocations a
    (record (allocation_at n a) { words = set (words_of n a) i v }) no_allocation there in
    record {
      here = ap (λ (b : Allocation). get_or b.words i Null) same ∙ get_or-set_same (words_of n a) i v Null inside;
      beside = λ j other. ap (λ (b : Allocation). get_or b.words j Null) same
          ∙ get_or-set_other (words_of n a) i j v Null other;
      others = λ b other. ap (λ (x : Allocation). x.words) (get_or-set_other n.allocations a b _ no_allocation other);
      types = λ b. set_by (λ (x : Allocation). x.ty ≡ (allocation_at n b).ty) n.allocations a b _ no_allocation
          (λ e. ap (λ (x : ℕ). (allocation_at n x).ty) (sym e)) refl;
      registers = λ k r. refl;
      globals = λ g. refl;
    }

push_other : (xs : List Allocation) (x : Allocation) (b : ℕ) → b ≢ length xs
    → get_or (xs ++ x ∷ []) b no_allocation ≡ get_or xs b no_allocation
push_other [] x zero other = absurd (other refl)
push_other [] x (suc b) other = refl
push_other (y ∷ xs) x zero other = refl
push_other (y ∷ xs) x (suc b) other = push_other xs x b (λ e. other (ap suc e))

pub creates : (n : NeverState) (k d ty : ℕ) → 8 * k + d < length n.registers
    → Creates k d ty n (with_register (with_new n ty) k d (Ptr (length n.allocations) ty 0))
creates n k d ty there =
    let set = sets (with_new n ty) k d (Ptr (length n.allocations) ty 0) there in
    record {
      here = set.here;
      others = set.others;
      created = get_or_at n.allocations _ [] no_allocation (length n.allocations) refl;
      old = λ b other. push_other n.allocations _ b other;
      globals = λ g. refl;
    }

pub frees : (n : NeverState) (a : ℕ) → Frees n (with_freed n a)
frees n a = record {
  words = λ b. set_by (λ (x : Allocation). x.words ≡ words_of n b) n.allocations a b _ no_allocation
      (λ e. ap (λ (x : ℕ). words_of n x) (sym e)) refl;
  types = λ b. set_by (λ (x : Allocation). x.ty ≡ (allocation_at n b).ty) n.allocations a b _ no_allocation
      (λ e. ap (λ (x : ℕ). (allocation_at n x).ty) (sym e)) refl;
  registers = λ k r. refl;
  globals = λ g. refl;
}

pub global_set : (n : NeverState) (g : ℕ) (v : Value) → g < length n.globals → global_at (with_global n g v) g ≡ v
global_set n g v there = get_or-set_same n.globals g v Null there
