-- Calls of a history, by the callers that made them.
use Rattle.std.proofs.lemmas.List.{append_cancel_left}
use Rattle.mk_jobs.proofs.RunVocabulary.{AreBelow, AreOfOthers, Call, Caller, Config, Decided, Event, asked, calls}
use Rattle.mk_jobs.proofs.RunVocabulary.{calls_from, left}
use Rattle.mk_heap.proofs.Below.Laws.Vocabulary.{Bool, List, ℕ, ap, append-nil, eq-eqb, if◌then◌else◌, refl, sym, []}
use Rattle.mk_heap.proofs.Below.Laws.Vocabulary.{◌++◌, ◌<◌}
use Rattle.mk_heap.proofs.Below.Laws.Vocabulary.{◌∙◌, ◌∷◌, ◌≡◌}
use Rattle.mk_core.proofs.HistoryParts.{calls_in_parts}
use Rattle.mk_heap.proofs.Below.Callers.OwnSteps.{by_append, calls_by, others_add_none}

-- Events that add none to a caller's calls decide none of them.
pub none_since : (c : Config) (k : ℕ) (es more : List Event)
    → calls_by k (calls c (es ++ more)) ≡ calls_by k (calls c es) → calls_by k (calls_from c (left c es) more) ≡ []
none_since c k es more same =
    let xs = calls c es in
    let later = calls_from c (left c es) more in
    append_cancel_left (calls_by k xs) (calls_by k later) [] (sym (by_append k xs later) ∙ ap (calls_by k)
    (sym (calls_in_parts c es more)) ∙ same ∙ sym (append-nil (calls_by k xs)))

-- So do events of others.
pub none_of : (c : Config) (k : ℕ) (es more : List Event) → AreOfOthers (Caller k ∷ []) more
    → calls_by k (calls_from c (left c es) more) ≡ []
none_of c k es more others = none_since c k es more (others_add_none c k es more others)

cons_is_not_nil : (x : Decided) (xs : List Decided) → x ∷ xs ≡ [] → ⊥
cons_is_not_nil x xs e = cc

its_own : (x : Decided) (xs : List Decided) → calls_by x.caller (x ∷ xs) ≡ x ∷ calls_by x.caller xs
its_own x xs =
    ap (λ (b : Bool). if b then x ∷ calls_by x.caller xs else calls_by x.caller xs) (eq-eqb x.caller x.caller refl)

-- Where no caller makes any of these calls, there are none.
pub no_calls : (callers : ℕ) (xs : List Decided) → AreBelow callers (asked xs)
    → ((k : ℕ) → k < callers → calls_by k xs ≡ []) → xs ≡ []
no_calls callers [] below none = refl
no_calls callers (x ∷ xs) below none =
    absurd (cons_is_not_nil x (calls_by x.caller xs) (sym (its_own x xs) ∙ none x.caller below.0))

pub below_later : (callers : ℕ) (xs ys : List Call) → AreBelow callers (xs ++ ys) → AreBelow callers ys
below_later callers [] ys below = below
below_later callers (x ∷ xs) ys below = below_later callers xs ys below.1
