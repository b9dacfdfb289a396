-- An object of a caller's own is linked to the last of a row.
use Rattle.std.proofs.Common.{ap₂}
use Rattle.mk_heap.proofs.Below.Laws.Vocabulary.{List, NeverState, Null, Ptr, Value, allocation_at, ap, cases_eq, inl}
use Rattle.mk_heap.proofs.Below.Laws.Vocabulary.{inr}
use Rattle.mk_heap.proofs.Below.Laws.Vocabulary.{number_of, refl, subst, sym, word_at, ℕ, [], ◌++◌, ◌∙◌, ◌∷◌, ◌≡◌, ◌≢◌}
use Rattle.mk_heap.proofs.Below.Laws.Vocabulary.{◌⊎◌}
use Rattle.mk_jobs.specs.{Keeping.{Private, Public, World}, Laws.IsOneOf, Jobs.numbers_in}
use Rattle.mk_jobs.proofs.{Chains.{IsChain, IsNotAmong, IsPart, numbers_stay, word_of}, Heaps.Stores, Puts.Puts}
use Rattle.mk_jobs.proofs.Rows.{HasRow, not_root}

one_left : (a : ℕ) (xs ys : List ℕ) → IsOneOf a xs → IsOneOf a (xs ++ ys)
one_left a [] ys one = absurd one
one_left a (x ∷ xs) ys (inl e) = inl e
one_left a (x ∷ xs) ys (inr one) = inr (one_left a xs ys one)

one_last : (b : ℕ) (xs : List ℕ) → IsOneOf b (xs ++ b ∷ [])
one_last b [] = inl refl
one_last b (x ∷ xs) = inr (one_last b xs)

not_among_more : (a b : ℕ) (xs : List ℕ) → IsNotAmong a xs → a ≢ b → IsNotAmong a (xs ++ b ∷ [])
not_among_more a b [] apart ne = (ne, tt)
not_among_more a b (x ∷ xs) apart ne = (apart.0, not_among_more a b xs apart.1 ne)

one_number_more : (n : NeverState) (i b : ℕ) (xs : List ℕ)
    → numbers_in n i (xs ++ b ∷ []) ≡ numbers_in n i xs ++ number_of (word_at n b i) ∷ []
one_number_more n i b [] = refl
one_number_more n i b (x ∷ xs) = ap (λ (l : List ℕ). number_of (word_at n x i) ∷ l) (one_number_more n i b xs)

-- A new object is linked to the last one, which is linked to none.
module _ (w w' : World) (ty i a b : ℕ) (null : word_at w.n a i ≡ Null) (here : word_at w'.n a i ≡ Ptr b ty 0)
    (others : (c : ℕ) → c ≢ a → IsPart w ty c → word_at w'.n c i ≡ word_at w.n c i)
    (stays : (c : ℕ) → IsPart w ty c → (c ≢ b) × IsPart w' ty c) (part : IsPart w' ty b)
    (link : word_at w'.n b i ≡ Null) where
  last : (c : ℕ) → c ≡ a → (l : List ℕ) → IsChain w ty i (word_at w.n c i) l
      → IsChain w' ty i (word_at w'.n c i) (l ++ b ∷ [])
  last c e [] on = (ap (λ (x : ℕ). word_at w'.n x i) e ∙ here, part, tt, link)
  last c e (d ∷ l) on =
      absurd (let x : Ptr d ty 0 ≡ Null = sym on.0 ∙ ap (λ (x : ℕ). word_at w.n x i) e ∙ null in cc x)

  one_longer : (c : ℕ) (nodes : List ℕ) → IsPart w ty c → IsChain w ty i (word_at w.n c i) nodes
      → IsOneOf a (c ∷ nodes) → (IsOneOf a nodes → IsChain w' ty i (word_at w.n c i) (nodes ++ b ∷ []))
      → (c ≡ a) ⊎ (c ≢ a) → IsChain w' ty i (word_at w'.n c i) (nodes ++ b ∷ [])
  one_longer c nodes is chain one on (inl e) = last c e nodes chain
  one_longer c nodes is chain (inl e) on (inr ne) = absurd (ne (sym e))
  one_longer c nodes is chain (inr one) on (inr ne) =
      subst (λ (x : Value). IsChain w' ty i x (nodes ++ b ∷ [])) (sym (others c ne is)) (on one)

  longer : (v : Value) (nodes : List ℕ) → IsChain w ty i v nodes → IsOneOf a nodes
      → IsChain w' ty i v (nodes ++ b ∷ [])
  longer v [] chain one = absurd one
  longer v (c ∷ nodes) chain one =
      let now = stays c chain.1 in (
        chain.0,
        now.1,
        not_among_more c b nodes chain.2 now.0,
        one_longer c nodes chain.1 chain.3 one (longer (word_at w.n c i) nodes chain.3) (cases_eq c a),
      )

-- Object b of caller k is linked to a, the last of the row, and shared so.
module _ {w w' : World} {rty at ty i j t a b k : ℕ} {nodes xs : List ℕ} (row : HasRow w rty at ty i j t nodes xs)
    (old : IsPart w ty a) (null : word_at w.n a i ≡ Null) (own : w.role b ≡ Private k)
    (is_of : (allocation_at w.n b).ty ≡ ty) (link : word_at w.n b i ≡ Null)
    (stores : Stores a i (Ptr b ty 0) w.n w'.n) (puts : Puts b Public w.role w'.role) where
  not_new : (c : ℕ) → w.role c ≡ Public → c ≢ b
  not_new c e same = (let x : Private k ≡ Public = sym own ∙ ap w.role (sym same) ∙ e in cc x)

  part_now : (uy c : ℕ) → IsPart w uy c → (c ≢ b) × IsPart w' uy c
  part_now uy c h =
      let new = not_new c h.role in
      (new, record { role = puts.others c new ∙ h.role; is_of = stores.types c ∙ h.is_of })

  word_now : (c l : ℕ) → (c ≢ a) ⊎ (l ≢ i) → word_at w'.n c l ≡ word_at w.n c l
  word_now c l (inl ne) = word_of w.n w'.n c l (stores.others c ne)
  word_now c l (inr ne) = by (cases_eq c a)
    where
      by : (c ≡ a) ⊎ (c ≢ a) → word_at w'.n c l ≡ word_at w.n c l
      by (inl e) = subst (λ (x : ℕ). word_at w'.n x l ≡ word_at w.n x l) (sym e) (stores.beside l ne)
      by (inr ne') = word_of w.n w'.n c l (stores.others c ne')

  among : IsOneOf a nodes
  among = elim (row.all a old.role) [ inl e ↦ absurd (not_root row a old.is_of e) | inr one ↦ one ]

  all_now : (c : ℕ) → w'.role c ≡ Public → (c ≡ b) ⊎ (c ≢ b) → (c ≡ t) ⊎ IsOneOf c (nodes ++ b ∷ [])
  all_now c e (inl same) = inr (subst (λ (x : ℕ). IsOneOf x (nodes ++ b ∷ [])) (sym same) (one_last b nodes))
  all_now c e (inr ne) = elim (row.all c (sym (puts.others c ne) ∙ e)) [
    | inl root ↦ inl root
    | inr one ↦ inr (one_left c nodes (b ∷ []) one)
  ]

  pub row_longer : i ≢ j
      → HasRow w' rty at ty i j t (nodes ++ b ∷ []) (xs ++ number_of (word_at w.n b j) ∷ [])
  row_longer differ = record {
    apart = row.apart;
    root = (part_now rty t row.root).1;
    chain = subst (λ (v : Value). IsChain w' ty i v (nodes ++ b ∷ []))
        (sym (word_now t at (inl (λ e. not_root row a old.is_of (sym e)))))
        (longer w w' ty i a b null stores.here (λ c ne h. word_now c i (inl ne)) (part_now ty)
        (record { role = puts.here; is_of = stores.types b ∙ is_of })
        (word_now b i (inl (λ e. not_new a old.role (sym e))) ∙ link) _ nodes row.chain among);
    numbers = one_number_more w'.n j b nodes ∙ ap₂ (λ (l : List ℕ) (y : ℕ). l ++ y ∷ [])
        (numbers_stay w ty i w'.n j _ nodes (λ c one h. word_now c j (inr (λ e. differ (sym e)))) row.chain
        ∙ row.numbers) (ap number_of (word_now b j (inr (λ e. differ (sym e)))));
    all = λ c e. all_now c e (cases_eq c b);
  }
