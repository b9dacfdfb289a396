-- An operation and the point that it leads to, from what the step asks.
use Rattle.mk_heap.proofs.Below.Laws.Vocabulary.{NeverState, Op, subst, sym, ℕ, ◌≡◌, ◌⊎◌, inl, inr}
use Rattle.mk_never.specs.{NeverHeap.reply_of, declared.operations.Reply.Reply}

module _ {Point : Type 0} (P : Op → Point → Type 0) where
  -- a step with one way on
  pub one_way : {o o' : Op} {t t' : Point} → (o ≡ o') × (t ≡ t') → P o' t' → P o t
  one_way {o' = o'} {t = t} h shown =
      subst (λ (x : Op). P x t) (sym h.0) (subst (λ (y : Point). P o' y) (sym h.1) shown)

  -- with two, by what is replied,
  pub two_ways : (n : NeverState) (k : ℕ) {o o' : Op} {t so other : Point}
      → (o ≡ o') × (((reply_of n k o ≡ Reply.Num 1) × (t ≡ so)) ⊎ ((reply_of n k o ≡ Reply.Num 1 → ⊥) × (t ≡ other)))
      → (reply_of n k o' ≡ Reply.Num 1 → P o' so) → ((reply_of n k o' ≡ Reply.Num 1 → ⊥) → P o' other) → P o t
  two_ways n k {o} {o'} {t} {so} {other} h on_yes on_no = by h.1
    where
      by : ((reply_of n k o ≡ Reply.Num 1) × (t ≡ so)) ⊎ ((reply_of n k o ≡ Reply.Num 1 → ⊥) × (t ≡ other)) → P o t
      by (inl said) =
          one_way (h.0, said.1) (on_yes (subst (λ (x : Op). reply_of n k x ≡ Reply.Num 1) h.0 said.0))
      by (inr said) =
          one_way (h.0, said.1) (on_no (λ e. said.0 (subst (λ (x : Op). reply_of n k x ≡ Reply.Num 1) (sym h.0) e)))

  -- and that of a New.
  pub new_ways : {o one two : Op} {t to full : Point} → ((o ≡ one) × (t ≡ to)) ⊎ ((o ≡ two) × (t ≡ full)) → P one to
      → P two full → P o t
  new_ways (inl h) made full = one_way h made
  new_ways (inr h) made full = one_way h full
