-- Shared objects that are linked in a row: what leaves their words leaves them linked.
use Rattle.std.proofs.Common.{ap₂}
use Rattle.mk_heap.proofs.Below.Laws.Vocabulary.{List, NeverState, Null, Ptr, Value, allocation_at, ap, get_or, inl}
use Rattle.mk_heap.proofs.Below.Laws.Vocabulary.{inr}
use Rattle.mk_heap.proofs.Below.Laws.Vocabulary.{number_of, refl, subst, sym, word_at, words_of, ℕ, [], ◌∙◌, ◌∷◌, ◌≡◌}
use Rattle.mk_heap.proofs.Below.Laws.Vocabulary.{◌≢◌, ◌⊎◌}
use Rattle.mk_jobs.specs.{Keeping.{Public, World}, Laws.IsOneOf, Jobs.{AreLinked, numbers_in}}

-- Words that are the same are so one by one.
pub word_of : (n m : NeverState) (a i : ℕ) → words_of m a ≡ words_of n a → word_at m a i ≡ word_at n a i
word_of n m a i e = ap (λ (ws : List Value). get_or ws i Null) e

abbrev pub IsNotAmong : ℕ → List ℕ → Type 0
IsNotAmong a [] = Unit {0}
IsNotAmong a (b ∷ bs) = (a ≢ b) × IsNotAmong a bs

-- a shared object of this type
pub record IsPart (w : World) (ty a : ℕ) : Type 0 where
  pub role : w.role a ≡ Public
  pub is_of : (allocation_at w.n a).ty ≡ ty

-- From this pointer on, these are linked by word i, each shared and there once. The last is linked to none.
abbrev pub IsChain : World → ℕ → ℕ → Value → List ℕ → Type 0
IsChain w ty i v [] = v ≡ Null
IsChain w ty i v (a ∷ nodes) =
    (v ≡ Ptr a ty 0) × IsPart w ty a × IsNotAmong a nodes × IsChain w ty i (word_at w.n a i) nodes

-- What isn't among them differs from each.
pub not_one_of : {a b : ℕ} (nodes : List ℕ) → IsNotAmong a nodes → IsOneOf b nodes → b ≢ a
not_one_of [] apart one = absurd one
not_one_of (x ∷ nodes) apart (inl e) = λ same. apart.0 (sym same ∙ e)
not_one_of (x ∷ nodes) apart (inr one) = not_one_of nodes apart.1 one

module _ (w : World) (ty i : ℕ) where
  pub linked : (v : Value) (nodes : List ℕ) → IsChain w ty i v nodes → AreLinked w.n ty i v nodes
  linked v [] chain = chain
  linked v (a ∷ nodes) chain = (chain.0, linked (word_at w.n a i) nodes chain.3)

  pub part_of : {a : ℕ} (v : Value) (nodes : List ℕ) → IsChain w ty i v nodes → IsOneOf a nodes → IsPart w ty a
  part_of v [] chain one = absurd one
  part_of v (b ∷ nodes) chain (inl e) = subst (IsPart w ty) (sym e) chain.1
  part_of v (b ∷ nodes) chain (inr one) = part_of (word_at w.n b i) nodes chain.3 one

  -- Each is linked to none, or to another of them.
  pub next_of : (a : ℕ) (v : Value) (nodes : List ℕ) → IsChain w ty i v nodes → IsOneOf a nodes
      → (word_at w.n a i ≡ Null) ⊎ ((b : ℕ) × (word_at w.n a i ≡ Ptr b ty 0) × IsPart w ty b)
  next_of a v [] chain one = absurd one
  next_of a v (b ∷ []) chain (inl e) = inl (ap (λ (x : ℕ). word_at w.n x i) e ∙ chain.3)
  next_of a v (b ∷ c ∷ nodes) chain (inl e) =
      inr (c, ap (λ (x : ℕ). word_at w.n x i) e ∙ chain.3.0, chain.3.1)
  next_of a v (b ∷ nodes) chain (inr one) = next_of a (word_at w.n b i) nodes chain.3 one

  -- What isn't shared isn't among them.
  pub hidden : {a : ℕ} (v : Value) (nodes : List ℕ) → w.role a ≢ Public → IsChain w ty i v nodes → IsNotAmong a nodes
  hidden v [] other chain = tt
  hidden v (b ∷ nodes) other chain =
      ((λ e. other (ap w.role e ∙ chain.1.role)), hidden (word_at w.n b i) nodes other chain.3)

  pub chain_stays : (w' : World) (v : Value) (nodes : List ℕ) → ((a : ℕ) → IsOneOf a nodes → IsPart w ty a
      → IsPart w' ty a × (word_at w'.n a i ≡ word_at w.n a i)) → IsChain w ty i v nodes → IsChain w' ty i v nodes
  chain_stays w' v [] stays chain = chain
  chain_stays w' v (a ∷ nodes) stays chain =
      let here = stays a (inl refl) chain.1 in (
        chain.0,
        here.0,
        chain.2,
        subst (λ (x : Value). IsChain w' ty i x nodes) (sym here.1)
            (chain_stays w' (word_at w.n a i) nodes (λ b one. stays b (inr one)) chain.3),
      )

  pub numbers_stay : (m : NeverState) (j : ℕ) (v : Value) (nodes : List ℕ) → ((a : ℕ) → IsOneOf a nodes
      → IsPart w ty a → word_at m a j ≡ word_at w.n a j) → IsChain w ty i v nodes
      → numbers_in m j nodes ≡ numbers_in w.n j nodes
  numbers_stay m j v [] stays chain = refl
  numbers_stay m j v (a ∷ nodes) stays chain =
      ap₂ (λ (x : ℕ) (xs : List ℕ). x ∷ xs) (ap number_of (stays a (inl refl) chain.1))
      (numbers_stay m j (word_at w.n a i) nodes (λ b one. stays b (inr one)) chain.3)
