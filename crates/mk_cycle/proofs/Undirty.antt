-- A dirty word was 0 at a moment, from wider parts of a turn.
use Rattle.mk_words.proofs.Below.Laws.Vocabulary.{List, Step, ℕ, ap, append-nil, append_assoc, arith, cases_lt}
use Rattle.mk_words.proofs.Below.Laws.Vocabulary.{get_or-set_same, get_or_past, inl, inr, length, set_past, slice_index}
use Rattle.mk_words.proofs.Below.Laws.Vocabulary.{slice_set, ◌∙◌, ◌≡◌}
use Rattle.mk_cycle.proofs.Vocabulary.{Acts, Cleans, PassState, WasUndirty, now_of}

-- where it is 0 now
pub undirty_now : {p q : PassState} (page : ℕ) → Cleans p q → slice_index (now_of q).words.dirty page ≡ 0
    → WasUndirty page p q
undirty_now page k x2 = grind (arith, append-nil)

-- when more is cleaned after it, or was before

pub undirty_later : {p q r : PassState} {page : ℕ} → WasUndirty page p q → Cleans q r → WasUndirty page p r
undirty_later u k = grind (arith, append_assoc)

pub undirty_earlier : {o p q : PassState} {page : ℕ} → Cleans o p → WasUndirty page p q → WasUndirty page o q
undirty_earlier k u = grind (arith, append_assoc)

-- after a store of 0

zero_there : (xs : List ℕ) (i : ℕ) → slice_index (slice_set xs i 0) i ≡ 0
zero_there xs i = elim (cases_lt i (length xs)) [
  | inl near ↦ get_or-set_same xs i 0 0 near
  | inr past ↦ ap (λ (ys : List ℕ). slice_index ys i) (set_past xs i 0 past) ∙ get_or_past xs i 0 past
]

pub undirty_behind : {p q : PassState} {page : ℕ} → Acts p (Step.Undirty page) q
    → slice_index (now_of q).words.dirty page ≡ 0
undirty_behind a = grind (arith, zero_there)
