-- Header words that the turn's holder stores one after the other.
use Rattle.mk_laws.proofs.Vocabulary.{Step, ap, arith, refl, subst, suc, sym, zero, ℕ, ◌+◌, ◌<◌, ◌∙◌, ◌≡◌, ◌≤◌}
use Rattle.mk_words.proofs.TurnSteps.{still_turn}
use Rattle.mk_words.specs.{TurnSteps.{StoresHeads, Acts}, States.{IsTurn, PassState}}

-- it still has the turn
pub heads_keep_turn : (p : PassState) (first n : ℕ) (headers : ℕ → ℕ) (q : PassState)
    → StoresHeads p first n headers q → IsTurn p → IsTurn q
heads_keep_turn p first zero headers q same turn = subst IsTurn same turn
heads_keep_turn p first (suc n) headers q (r, before, acts) turn =
    still_turn r (Step.Head (first + n) (headers n)) q acts.makes refl (heads_keep_turn p first n headers r before turn)

-- in the same table
pub heads_keep_table : (p : PassState) (first n : ℕ) (headers : ℕ → ℕ) (q : PassState)
    → StoresHeads p first n headers q → q.table ≡ p.table
heads_keep_table p first zero headers q same = ap (λ (x : PassState). x.table) (sym same)
heads_keep_table p first (suc n) headers q (r, before, acts) =
    ap (λ (x : PassState). x.table) acts.makes.is ∙ heads_keep_table p first n headers r before

-- What holds before the first of them, and after each if it held before it, holds after all.
pub heads_leave : {p : PassState} (first count : ℕ) (headers : ℕ → ℕ) (P : ℕ → PassState → Type 0) → P 0 p
    → ((n : ℕ) (q r : PassState) → n < count → StoresHeads p first n headers q → P n q
    → Acts q (Step.Head (first + n) (headers n)) r → P (suc n) r)
    → (n : ℕ) (q : PassState) → n ≤ count → StoresHeads p first n headers q → P n q
heads_leave first count headers P none more zero q few same = subst (P 0) same none
heads_leave first count headers P none more (suc n) q few (r, before, acts) =
    more n r q (omega (arith, few)) before
    (heads_leave first count headers P none more n r (omega (arith, few)) before) acts
