-- Scripts that are ready: the first of them and those after it, and one more after all.
use Rattle.std.proofs.Common.{slice_get}
use Rattle.mk_heap.proofs.Below.Laws.Vocabulary.{Config, List, Some, ℕ, arith, length, refl, subst, suc, sym, zero, []}
use Rattle.mk_heap.proofs.Below.Laws.Vocabulary.{◌++◌, ◌+◌}
use Rattle.mk_heap.proofs.Below.Laws.Vocabulary.{◌∷◌, ◌≡◌}
use Rattle.mk_run.proofs.Vocabulary.{AreReadyFrom, IsReadyScript, Item}
use Rattle.mk_run.specs.declared.ready.ReadyScript.{ReadyScript}

pub ready_first : {E : Type 0} (made_for : E → ℕ) (program : List Item) (c : Config) (k : ℕ) (first : ReadyScript E)
    (rest : List (ReadyScript E)) → AreReadyFrom made_for program c k (first ∷ rest)
    → IsReadyScript made_for program c.pages k first × AreReadyFrom made_for program c (k + 1) rest
ready_first made_for program c k first rest are = (
  subst (λ n. IsReadyScript made_for program c.pages n first) (omega arith) (are.each 0 first refl),
  record {
    count = omega (arith, are.count);
    each = λ i ready at.
        subst (λ n. IsReadyScript made_for program c.pages n ready) (omega arith) (are.each (suc i) ready at);
  },
)

pub one_more : {E : Type 0} (made_for : E → ℕ) (program : List Item) (pages k : ℕ) (old : List (ReadyScript E))
    (last : ReadyScript E)
    → ((i : ℕ) (ready : ReadyScript E) → slice_get old i ≡ Some ready
    → IsReadyScript made_for program pages (k + i) ready)
    → IsReadyScript made_for program pages (k + length old) last
    → (i : ℕ) (ready : ReadyScript E) → slice_get (old ++ last ∷ []) i ≡ Some ready
    → IsReadyScript made_for program pages (k + i) ready
one_more made_for program pages k [] last each is zero ready at =
    let same : last ≡ ready = cc in subst (λ x. IsReadyScript made_for program pages (k + 0) x) same is
one_more made_for program pages k [] last each is (suc i) ready at = absurd cc
one_more made_for program pages k (first ∷ old) last each is zero ready at = each 0 ready at
one_more made_for program pages k (first ∷ old) last each is (suc i) ready at =
    let shift : (n : ℕ) → (k + 1) + n ≡ k + suc n = λ n. omega arith in
    rw (shift i) at (one_more made_for program pages (k + 1) old last
    (λ j x e. subst (λ n. IsReadyScript made_for program pages n x) (sym (shift j)) (each (suc j) x e))
    (subst (λ n. IsReadyScript made_for program pages n last) (sym (shift (length old))) is) i ready at)
