-- A root whose word `at` points to a row of objects: those that callers share. They are of type ty, linked by their
-- word i, and have numbers in word j.
use Rattle.std.proofs.Common.{ap₂}
use Rattle.mk_heap.proofs.Below.Laws.Vocabulary.{List, Null, Ptr, Value, allocation_at, ap, cases_eq, inl, inr}
use Rattle.mk_heap.proofs.Below.Laws.Vocabulary.{number_of, subst}
use Rattle.mk_heap.proofs.Below.Laws.Vocabulary.{sym, word_at, ℕ, [], ◌∙◌, ◌∷◌, ◌≡◌, ◌≢◌, ◌⊎◌}
use Rattle.mk_jobs.specs.{Keeping.{Covers, IsShown, Private, Public, Role, Taken, World}, Laws.IsOneOf}
use Rattle.mk_jobs.{specs.Jobs.{numbers_in}, proofs.Puts.{Puts}}
use Rattle.mk_jobs.proofs.Chains.{IsChain, IsNotAmong, IsPart, chain_stays, hidden, next_of, not_one_of, numbers_stay}
use Rattle.mk_jobs.proofs.{Chains.{part_of, word_of}, Having.{PointsTo, not_null, part_is_shown}, Heaps.Stores}

pub record HasRow (w : World) (rty at ty i j t : ℕ) (nodes xs : List ℕ) : Type 0 where
  pub apart : ty ≢ rty
  pub root : IsPart w rty t
  pub chain : IsChain w ty i (word_at w.n t at) nodes
  pub numbers : numbers_in w.n j nodes ≡ xs
  pub all : (a : ℕ) → w.role a ≡ Public → (a ≡ t) ⊎ IsOneOf a nodes

-- The root points to b, the first of the row, and this is after it.
pub record HasFirst (w : World) (rty at ty i j t b : ℕ) (xs : List ℕ) : Type 0 where
  pub rest : List ℕ
  pub left : List ℕ
  pub numbers : xs ≡ number_of (word_at w.n b j) ∷ left
  pub row : HasRow w rty at ty i j t (b ∷ rest) xs

module _ {w : World} {rty at ty i j t : ℕ} where
  pub not_root : {nodes xs : List ℕ} → HasRow w rty at ty i j t nodes xs → (a : ℕ) → (allocation_at w.n a).ty ≡ ty
      → a ≢ t
  not_root row a is e = row.apart (sym is ∙ ap (λ (y : ℕ). (allocation_at w.n y).ty) e ∙ row.root.is_of)

  -- The root points to none, or to one of them.
  pub points_first : {nodes xs : List ℕ} → HasRow w rty at ty i j t nodes xs
      → ((word_at w.n t at ≡ Null) × (xs ≡ [])) ⊎ PointsTo w ty (word_at w.n t at)
  points_first {nodes = []} row = inl (row.chain, sym row.numbers)
  points_first {nodes = a ∷ nodes} row =
      inr (record { a = a; is = row.chain.0; known = part_is_shown row.chain.1 })

  -- One that is shared is linked to none, or to one of them.
  pub points_on : {nodes xs : List ℕ} → HasRow w rty at ty i j t nodes xs → (a : ℕ) → IsPart w ty a
      → (word_at w.n a i ≡ Null) ⊎ PointsTo w ty (word_at w.n a i)
  points_on {nodes = nodes} row a h = elim (row.all a h.role) [
    | inl e ↦ absurd (not_root row a h.is_of e)
    | inr one ↦ elim (next_of w ty i a _ nodes row.chain one) [
      | inl none ↦ inl none
      | inr next ↦ inr (record { a = next.0; is = next.1; known = part_is_shown next.2 })
    ]
  ]

  pub first_of : {b : ℕ} {nodes xs : List ℕ} → HasRow w rty at ty i j t nodes xs → word_at w.n t at ≡ Ptr b ty 0
      → HasFirst w rty at ty i j t b xs
  first_of {b} {nodes = []} row is = absurd (not_null b ty _ is row.chain)
  first_of {b} {nodes = a ∷ nodes} {xs} row is =
      let same : a ≡ b = (let x : Ptr a ty 0 ≡ Ptr b ty 0 = sym row.chain.0 ∙ is in cc x) in
      record {
        rest = nodes;
        left = numbers_in w.n j nodes;
        numbers = sym row.numbers
            ∙ ap (λ (y : ℕ). number_of (word_at w.n y j) ∷ numbers_in w.n j nodes) same;
        row = subst (λ (y : ℕ). HasRow w rty at ty i j t (y ∷ nodes) xs) same row;
      }

  -- The first of them is linked to none: it is the only one.
  pub only_one : {b m : ℕ} {nodes xs : List ℕ} → HasRow w rty at ty i j t (b ∷ nodes) (m ∷ xs)
      → word_at w.n b i ≡ Null → xs ≡ []
  only_one {nodes = []} row null = (let x = row.numbers in cc x)
  only_one {nodes = a ∷ nodes} row null = absurd (not_null a ty _ row.chain.3.0 null)

pub part_role : {w : World} {rty at ty i j t : ℕ} {nodes xs : List ℕ} → HasRow w rty at ty i j t nodes xs → (a : ℕ)
    → IsOneOf a (t ∷ nodes) → w.role a ≡ Public
part_role {w} row a (inl e) = ap w.role e ∙ row.root.role
part_role {w} {ty = ty} {i = i} {nodes = nodes} row a (inr one) = (part_of w ty i _ nodes row.chain one).role

module _ {w w' : World} {rty at ty i j t : ℕ} where
  -- None of their words is stored.
  row_stays : {nodes xs : List ℕ} → HasRow w rty at ty i j t nodes xs
      → ((uy a : ℕ) → IsPart w uy a → IsPart w' uy a)
      → ((a l : ℕ) → IsPart w ty a → word_at w'.n a l ≡ word_at w.n a l) → word_at w'.n t at ≡ word_at w.n t at
      → ((a : ℕ) → w'.role a ≡ Public → w.role a ≡ Public) → HasRow w' rty at ty i j t nodes xs
  row_stays {nodes = nodes} row parts words first back = record {
    apart = row.apart;
    root = parts rty t row.root;
    chain = subst (λ (v : Value). IsChain w' ty i v nodes) (sym first)
        (chain_stays w ty i w' _ nodes (λ a one h. (parts ty a h, words a i h)) row.chain);
    numbers = numbers_stay w ty i w'.n j _ nodes (λ a one h. words a j h) row.chain ∙ row.numbers;
    all = λ a e. row.all a (back a e);
  }

  -- What all callers may know stays,
  pub row_covered : {nodes xs : List ℕ} → Covers w w' → HasRow w rty at ty i j t nodes xs
      → HasRow w' rty at ty i j t nodes xs
  row_covered covers row = row_stays row (λ uy a h. record {
    role = covers.still a h.role;
    is_of = covers.types a (subst IsShown (sym h.role) tt) ∙ h.is_of;
  }) (λ a l h. known a l h.role) (known t at row.root.role) covers.public
    where
      known : (a l : ℕ) → w.role a ≡ Public → word_at w'.n a l ≡ word_at w.n a l
      known a l e = word_of w.n w'.n a l (covers.words a (subst IsShown (sym e) tt))

  -- or another word of the root is stored.
  pub row_beside : {nodes xs : List ℕ} {l : ℕ} {v : Value} → Stores t l v w.n w'.n → at ≢ l
      → ((a : ℕ) → w'.role a ≡ w.role a) → HasRow w rty at ty i j t nodes xs → HasRow w' rty at ty i j t nodes xs
  row_beside stores ne same row =
      row_stays row (λ uy a h. record { role = same a ∙ h.role; is_of = stores.types a ∙ h.is_of })
      (λ a l h. word_of w.n w'.n a l (stores.others a (not_root row a h.is_of))) (stores.beside at ne)
      (λ a e. sym (same a) ∙ e)

  -- The word of the root is stored, and object b gets another role.
  module _ {v : Value} {b : ℕ} {r : Role} (stores : Stores t at v w.n w'.n) (puts : Puts b r w.role w'.role)
      (is_of : (allocation_at w.n b).ty ≡ ty) where
    word_now : {nodes xs : List ℕ} → HasRow w rty at ty i j t nodes xs → (a l : ℕ) → (allocation_at w.n a).ty ≡ ty
        → word_at w'.n a l ≡ word_at w.n a l
    word_now row a l is = word_of w.n w'.n a l (stores.others a (not_root row a is))

    numbers_now : {nodes xs : List ℕ} (ys : List ℕ) (x : Value) → HasRow w rty at ty i j t nodes xs
        → IsChain w ty i x ys → numbers_in w'.n j ys ≡ numbers_in w.n j ys
    numbers_now ys x row chain = numbers_stay w ty i w'.n j x ys (λ a one h. word_now row a j h.is_of) chain

    -- The row is now this one, of which b is no part before and after.
    row_now : {nodes xs : List ℕ} (ys : List ℕ) (x : Value) → HasRow w rty at ty i j t nodes xs → IsNotAmong b ys
        → IsChain w ty i x ys → IsChain w' ty i x ys
    row_now ys x row other chain =
        chain_stays w ty i w' x ys (λ a one h. (
          record { role = puts.others a (not_one_of ys other one) ∙ h.role; is_of = stores.types a ∙ h.is_of },
          word_now row a i h.is_of,
        )) chain

    root_now : {nodes xs : List ℕ} → HasRow w rty at ty i j t nodes xs → IsPart w' rty t
    root_now row = record {
      role = puts.others t (λ e. not_root row b is_of (sym e)) ∙ row.root.role;
      is_of = stores.types t ∙ row.root.is_of;
    }

    -- An object of a caller's own becomes the first of them,
    pub row_pushed : {nodes xs : List ℕ} {k : ℕ} → HasRow w rty at ty i j t nodes xs → w.role b ≡ Private k
        → word_at w.n b i ≡ word_at w.n t at → v ≡ Ptr b ty 0 → r ≡ Public
        → HasRow w' rty at ty i j t (b ∷ nodes) (number_of (word_at w.n b j) ∷ xs)
    row_pushed {nodes} {k = k} row own link is public =
        let new = hidden w ty i _ nodes (λ e. (let x : Private k ≡ Public = sym own ∙ e in cc x)) row.chain in
        record {
          apart = row.apart;
          root = root_now row;
          chain = (
            stores.here ∙ is,
            record { role = puts.here ∙ public; is_of = stores.types b ∙ is_of },
            new,
            subst (λ (y : Value). IsChain w' ty i y nodes) (sym (word_now row b i is_of ∙ link))
                (row_now nodes _ row new row.chain),
          );
          numbers = ap₂ (λ (y : ℕ) (ys : List ℕ). y ∷ ys) (ap number_of (word_now row b j is_of))
              (numbers_now nodes _ row row.chain ∙ row.numbers);
          all = λ a e. by a (cases_eq a b) e;
        }
      where
        by : (a : ℕ) → (a ≡ b) ⊎ (a ≢ b) → w'.role a ≡ Public → (a ≡ t) ⊎ IsOneOf a (b ∷ nodes)
        by a (inl e) is = inr (inl e)
        by a (inr ne) is = elim (row.all a (sym (puts.others a ne) ∙ is)) [ inl e ↦ inl e | inr one ↦ inr (inr one) ]

    -- or the first of them is taken out.
    pub row_popped : {xs : List ℕ} {k : ℕ} (first : HasFirst w rty at ty i j t b xs) → v ≡ word_at w.n b i
        → r ≡ Taken k → HasRow w' rty at ty i j t first.rest first.left
    row_popped {xs} {k} first next taken = record {
      apart = first.row.apart;
      root = root_now first.row;
      chain = subst (λ (y : Value). IsChain w' ty i y first.rest) (sym (stores.here ∙ next))
          (row_now first.rest _ first.row first.row.chain.2 first.row.chain.3);
      numbers = numbers_now first.rest _ first.row first.row.chain.3
          ∙ (let x = first.row.numbers ∙ first.numbers in cc x);
      all = λ a e. by a (cases_eq a b) e;
    }
      where
        by : (a : ℕ) → (a ≡ b) ⊎ (a ≢ b) → w'.role a ≡ Public → (a ≡ t) ⊎ IsOneOf a first.rest
        by a (inl e) is =
            absurd (let x : Taken k ≡ Public = sym (ap w'.role e ∙ puts.here ∙ taken) ∙ is in cc x)
        by a (inr ne) is = elim (first.row.all a (sym (puts.others a ne) ∙ is)) [
          | inl e ↦ inl e
          | inr one ↦ elim one [ inl e ↦ absurd (ne e) | inr later ↦ inr later ]
        ]
