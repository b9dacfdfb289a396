-- What an operation of a caller at a point leaves, by what its registers hold there.
use Rattle.std.proofs.Common.{le-ltb}
use Rattle.mk_heap.proofs.Below.Laws.Vocabulary.{Bool, IsSound, Kind, List, NeverState, Null, Num, Op, Ptr, Value}
use Rattle.mk_heap.proofs.Below.Laws.Vocabulary.{WordOf}
use Rattle.mk_heap.proofs.Below.Laws.Vocabulary.{allocation_at, and_right, ap, arith, bit, cond, false, global_at}
use Rattle.mk_heap.proofs.Below.Laws.Vocabulary.{is_large}
use Rattle.mk_heap.proofs.Below.Laws.Vocabulary.{is_same, is_unmapped, kinds_of, length, number_of, refl, register_at}
use Rattle.mk_heap.proofs.Below.Laws.Vocabulary.{subst, sym}
use Rattle.mk_heap.proofs.Below.Laws.Vocabulary.{target_of, Option, true, with_register, with_word, word_at, words_of}
use Rattle.mk_heap.proofs.Below.Laws.Vocabulary.{ℕ, ◌*◌, ◌+◌}
use Rattle.mk_heap.proofs.Below.Laws.Vocabulary.{◌<◌, ◌∙◌, ◌≡◌, ◌≢◌, ◌≤◌, nat_lt, ltb-true}
use Rattle.mk_never.specs.{Laws.{Reaches, StoresTo}, NeverHeap.{Allocation, after_free, after_op, reply_of}}
use Rattle.mk_never.{specs.declared.operations.Reply.{Reply}, proofs.Sameness.{equal_from_same, same_from_equal}}
use Rattle.mk_jobs.specs.{Keeping.{IsThere, Unborn, World}, Typing.Plan}
use Rattle.mk_jobs.proofs.Heaps.{Creates, Frees, Sets, Stores, creates, frees, global_set, sets, stores}

bit_is_one : (b : Bool) → bit b ≡ 1 → b ≡ true
bit_is_one x0 e = grind arith

num_is : (a b : ℕ) → Reply.Num a ≡ Reply.Num b → a ≡ b
num_is a b e = cc

small_is_mapped : (a : Allocation) → length a.words ≤ 32 → is_unmapped a ≡ false
small_is_mapped a small = and_right a.freed (is_large a.words) (le-ltb 32 (length a.words) (omega arith))

-- What IsNull says
pub is_null : (n : NeverState) (k r : ℕ) → reply_of n k (Op.IsNull r) ≡ Reply.Num 1 → register_at n k r ≡ Null
is_null n k r said = equal_from_same _ Null (bit_is_one _ (num_is _ 1 said))

pub not_null : (n : NeverState) (k r : ℕ) → (reply_of n k (Op.IsNull r) ≡ Reply.Num 1 → ⊥) → register_at n k r ≢ Null
not_null n k r said e =
    said (ap (λ (b : Bool). Reply.Num (bit b)) (same_from_equal (register_at n k r) Null e))

-- what a pointer points to, whose type has these words
pub record Has (n : NeverState) (kinds : List Kind) (a ty : ℕ) : Type 0 where
  pub exists : a < length n.allocations
  pub is_of : (allocation_at n a).ty ≡ ty
  pub size : length (words_of n a) ≡ length kinds

module _ {Job Done Point State : Type 0} {p : Plan Job Done Point} {left_by : State → Job → Done → Option State}
    {callers : ℕ} {w : World} {k : ℕ} {s : Point} (there : IsThere p left_by callers w k s) where
  register_there : (d : ℕ) → nat_lt d 8 ≡ true → 8 * k + d < length w.n.registers
  register_there d lt =
      let e = there.registers in let exists = there.exists in let below = ltb-true d 8 lt in omega arith

  sound_has : (a ty : ℕ) (v : Value) → IsSound w.n v → v ≡ Ptr a ty 0 → Has w.n (kinds_of p.types ty) a ty
  sound_has a ty v sound is =
      let at : IsSound w.n (Ptr a ty 0) = subst (IsSound w.n) is sound in
      let kinds : kinds_of w.n.types (allocation_at w.n a).ty ≡ kinds_of p.types ty =
      ap (kinds_of w.n.types) (sym at.1) ∙ ap (λ (ts : List (List Kind)). kinds_of ts ty) there.types in
      record {
        exists = at.0;
        is_of = sym at.1;
        size = (there.typed.allocations a at.0).size ∙ ap length kinds;
      }

  pub register_has : (q : ℕ) {a ty : ℕ} → register_at w.n k q ≡ Ptr a ty 0 → Has w.n (kinds_of p.types ty) a ty
  register_has q {a} {ty} is = sound_has a ty _ (there.typed.registers (8 * k + q)) is

  -- The next allocation isn't one yet.
  pub next_is_unborn : w.role (length w.n.allocations) ≡ Unborn
  next_is_unborn = (there.fits (length w.n.allocations)).unborn (omega arith)

  pub sets_there : (d : ℕ) (v : Value) → nat_lt d 8 ≡ true → Sets k d v w.n (with_register w.n k d v)
  sets_there d v lt = sets w.n k d v (register_there d lt)

  pub creates_there : (d ty : ℕ) → nat_lt d 8 ≡ true → Creates k d ty w.n (after_op w.n k (Op.New d ty false))
  creates_there d ty lt = creates w.n k d ty (register_there d lt)

  pub frees_there : (r : ℕ) {a ty : ℕ} → register_at w.n k r ≡ Ptr a ty 0 → Frees w.n (after_op w.n k (Op.Free r))
  frees_there r {a = a} is = subst (λ (v : Value). Frees w.n (after_free w.n v)) (sym is) (frees w.n a)

  pub global_there : (g r : ℕ) → nat_lt g 64 ≡ true
      → global_at (after_op w.n k (Op.SetGlobal g r)) g ≡ register_at w.n k r
  global_there g r lt =
      let e = there.globals in let below = ltb-true g 64 lt in global_set w.n g (register_at w.n k r) (omega arith)

  -- An access to a word of a small object
  module _ (q i : ℕ) {a ty : ℕ} (is : register_at w.n k q ≡ Ptr a ty 0) (small : length
      (kinds_of p.types ty) ≤ 32) where
    at_target : target_of w.n (register_at w.n k q) i ≡ WordOf a i
    at_target =
        let e = (register_has q is).size in
        let mapped = small_is_mapped (allocation_at w.n a) (omega arith) in
        let none : 0 + i ≡ i = omega arith in
        rw is (rw mapped (ap (λ (j : ℕ). WordOf a j) none))

    -- It reaches no other word.
    pub reached : {b j : ℕ} → Reaches w.n (register_at w.n k q) i b j → b ≡ a
    reached {b} {j} h = (let e : WordOf b j ≡ WordOf a i = sym h ∙ at_target in cc e)

    pub loads : (d : ℕ) → nat_lt d 8 ≡ true → Sets k d (word_at w.n a i) w.n (after_op w.n k (Op.GetPtr d q i))
    loads d lt = rw at_target (sets_there d (word_at w.n a i) lt)

    pub number_loaded : reply_of w.n k (Op.GetNum q i) ≡ Reply.Num (number_of (word_at w.n a i))
    number_loaded = rw at_target refl

    -- It compares the word with a register,
    module _ (x r : ℕ) where
      compared : reply_of w.n k (Op.CasPtr q i x r) ≡ Reply.Num (bit (is_same (word_at w.n a i) (register_at w.n k x)))
      compared = rw at_target refl

      same_there : reply_of w.n k (Op.CasPtr q i x r) ≡ Reply.Num 1
          → is_same (word_at w.n a i) (register_at w.n k x) ≡ true
      same_there said = bit_is_one _ (num_is _ 1 (sym compared ∙ said))

      pub was_same : reply_of w.n k (Op.CasPtr q i x r) ≡ Reply.Num 1 → word_at w.n a i ≡ register_at w.n k x
      was_same said = equal_from_same _ _ (same_there said)

      exchange_leaves : (b : Bool) → is_same (word_at w.n a i) (register_at w.n k x) ≡ b
          → after_op w.n k (Op.CasPtr q i x r) ≡ cond b (with_word w.n a i (register_at w.n k r)) w.n
      exchange_leaves b e = rw (at_target, e) refl

      other_there : (b : Bool) → is_same (word_at w.n a i) (register_at w.n k x) ≡ b
          → (reply_of w.n k (Op.CasPtr q i x r) ≡ Reply.Num 1 → ⊥) → b ≡ false
      other_there true e said = absurd (said (compared ∙ ap (λ (b : Bool). Reply.Num (bit b)) e))
      other_there false e said = refl

      -- and where they differ leaves all as it was, and stores nowhere,
      pub leaves_all : (reply_of w.n k (Op.CasPtr q i x r) ≡ Reply.Num 1 → ⊥) → after_op w.n k (Op.CasPtr q i x r) ≡ w.n
      leaves_all said = exchange_leaves false (other_there _ refl said)

      pub stores_nowhere : (reply_of w.n k (Op.CasPtr q i x r) ≡ Reply.Num 1 → ⊥) → (b j : ℕ)
          → StoresTo w.n k (Op.CasPtr q i x r) b j → ⊥
      stores_nowhere said b j h =
          let e : WordOf b j ≡ WordOf a i = sym h.0 ∙ at_target in
          let there : WordOf b j ≡ WordOf a i
          → word_at w.n a i ≡ word_at w.n b j = (λ (f : WordOf b j ≡ WordOf a i). cc f) in
          said (compared ∙ ap (λ (b : Bool). Reply.Num (bit b)) (same_from_equal _ _ (there e ∙ h.1)))

    module _ (inside : nat_lt i (length (kinds_of p.types ty)) ≡ true) where
      stores_there : (v : Value) → Stores a i v w.n (with_word w.n a i v)
      stores_there v =
          let at = register_has q is in
          let e = at.size in
          let below = ltb-true i _ inside in
          stores w.n a i v at.exists (omega arith)

      pub stores_register : (r : ℕ) → Stores a i (register_at w.n k r) w.n (after_op w.n k (Op.SetPtr q i r))
      stores_register r = rw at_target (stores_there (register_at w.n k r))

      pub stores_number : (m : ℕ) → Stores a i (Num m) w.n (after_op w.n k (Op.SetNum q i m))
      stores_number m = rw at_target (stores_there (Num m))

      -- and where they are the same stores another.
      pub exchanges : (x r : ℕ) → reply_of w.n k (Op.CasPtr q i x r) ≡ Reply.Num 1
          → Stores a i (register_at w.n k r) w.n (after_op w.n k (Op.CasPtr q i x r))
      exchanges x r said =
          subst (λ (m : NeverState). Stores a i (register_at w.n k r) w.n m)
          (sym (exchange_leaves x r true (same_there x r said))) (stores_there (register_at w.n k r))
