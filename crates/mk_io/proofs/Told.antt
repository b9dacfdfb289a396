-- Calls one after another, at what a source or a sink says.
use Rattle.std.proofs.Common.{List, None, Some, ℕ, ap, append_assoc, arith, drop, drop-drop, length, length-append}
use Rattle.std.proofs.{Common.{length-take, refl, subst, take, ◌++◌, ◌+◌, ◌-◌, ◌∙◌, ◌≡◌}, Math.Seq.take-add}
use Rattle.std.{proofs.lemmas.List.{take_rest}, specs.declared.option.Option.{Option}}
use Rattle.mk_io.specs.Bytes.{Appends, Takes, TakesCount}

-- the bytes of a take, and then those of the next
pub Takes-append : (a b c : Option (List ℕ)) (xs ys : List ℕ) →
    Takes a b xs → Takes b c ys → Takes a c (xs ++ ys)
Takes-append None b c xs ys p q = tt
Takes-append (Some left) b c xs ys p q =
    let next : Takes (Some (drop (length xs) left)) c ys = subst (λ o. Takes o c ys) p.1 q in (
      rw (length-append xs ys, take-add (length xs) (length ys) left, p.0, next.0) refl,
      next.1 ∙ rw (length-append xs ys, drop-drop (length ys) (length xs) left) refl,
    )

-- that many bytes were taken
pub Takes-count : (a b : Option (List ℕ)) (xs : List ℕ) → Takes a b xs → TakesCount a b (length xs)
Takes-count None b xs p = tt
Takes-count (Some left) b xs p = (omega (arith, ap length p.0, length-take (length xs) left), p.1)

-- the bytes of an append, and then those of the next
pub Appends-append : (a b c : Option (List ℕ)) (xs ys : List ℕ) →
    Appends a b xs → Appends b c ys → Appends a c (xs ++ ys)
Appends-append None b c xs ys p q = tt
Appends-append (Some taken) b c xs ys p q =
    let next : Appends (Some (taken ++ xs)) c ys = subst (λ o. Appends o c ys) p q in
    next ∙ rw append_assoc refl

-- the next n bytes of a list, after the first m
pub Appends-next : (a b c : Option (List ℕ)) (bytes : List ℕ) (m n : ℕ) →
    Appends a b (take m bytes) → Appends b c (take n (take (length bytes - m) (drop m bytes)))
    → Appends a c (take (m + n) bytes)
Appends-next a b c bytes m n p q =
    let tail : Appends b c (take n (drop m bytes)) = rw take_rest at q in
    rw take-add (Appends-append a b c (take m bytes) (take n (drop m bytes)) p tail)

-- as many bytes as the two parts have
pub TakesCount-append : (a b c : Option (List ℕ)) (xs ys : List ℕ) (n : ℕ) →
    Takes a b xs → Takes b c ys → length xs + length ys ≡ n → TakesCount a c n
TakesCount-append a b c xs ys n p q e =
    subst (TakesCount a c) (length-append xs ys ∙ e)
    (Takes-count a c (xs ++ ys) (Takes-append a b c xs ys p q))
