-- The parts of a list around the events of a cycle, and what stands along one.
use Rattle.mk_laws.proofs.Vocabulary.{Bool, Config, Cycle, Event, IsHistory, List, Marking, Releasing, Step, ap}
use Rattle.mk_laws.proofs.Vocabulary.{append-nil, append_assoc, arith, before_close, before_release}
use Rattle.mk_laws.proofs.Vocabulary.{earlier_part_is_history, false, list_any, list_any-append, or_from, or_parts}
use Rattle.mk_laws.proofs.Vocabulary.{subst, sym, [], ◌++◌, ◌∙◌, ◌∷◌, ◌≡◌}
use Rattle.mk_core.specs.Cycles.{before_end}

-- none of a kind
abbrev pub None_of : (Step → Bool) → List Event → Type 0
None_of kind es = list_any (λ (e : Event). kind e.step) es ≡ false

pub none_joined : (kind : Step → Bool) (xs ys : List Event) → None_of kind xs → None_of kind ys
    → None_of kind (xs ++ ys)
none_joined kind xs ys a b = list_any-append (λ (e : Event). kind e.step) xs ys
    ∙ or_from (list_any (λ (e : Event). kind e.step) xs) (list_any (λ (e : Event). kind e.step) ys) a b

-- One event is passed, up to the next.
next_part : (es xs ys zs : List Event) (e f : Event) (behind : List Event) → es ≡ xs ++ e ∷ behind
    → behind ≡ ys ++ f ∷ zs → es ≡ (xs ++ e ∷ ys) ++ f ∷ zs
next_part es xs ys zs e f behind is at =
    is ∙ ap (λ (b : List Event). xs ++ e ∷ b) at ∙ sym (append_assoc xs (e ∷ ys) (f ∷ zs))

pub at_close : {es : List Event} (k : Marking es) → es ≡ before_close k ++ k.close.at.event ∷ k.close.at.behind
at_close {es} k = grind (arith, next_part, append_assoc)

pub at_release : {es : List Event} (k : Releasing es)
    → es ≡ before_release k ++ k.release.at.event ∷ k.release.at.behind
at_release {es} k = next_part es _ _ _ _ _ _ (at_close k.marking) k.release.at.is

pub at_end : {es : List Event} (k : Cycle es) → es ≡ before_end k ++ k.end.at.event ∷ k.end.at.behind
at_end {es} k = next_part es _ _ k.end.at.behind _ _ _ (at_release k.releasing) k.end.at.is

-- The part through an event of a history is one.
pub history_through : (c : Config) (es xs ys : List Event) (e : Event) → IsHistory c es → es ≡ xs ++ e ∷ ys
    → IsHistory c (xs ++ e ∷ [])
history_through c es xs ys e h is = earlier_part_is_history c _ ys (rw (is ∙ sym (append_assoc xs (e ∷ []) ys)) at h)

-- What each event that isn't of a kind keeps, stands after a list without one.
pub along_without : (c : Config) (kind : Step → Bool) (P : List Event → Type 0) (start rest : List Event)
    → ((es : List Event) (e : Event) → IsHistory c (es ++ e ∷ []) → kind e.step ≡ false → P es → P (es ++ e ∷ []))
    → IsHistory c (start ++ rest) → None_of kind rest → P start → P (start ++ rest)
along_without c kind P start [] keeps h none at = subst P (sym (append-nil start)) at
along_without c kind P start (e ∷ rest) keeps h none at =
    let split : start ++ e ∷ rest ≡ (start ++ e ∷ []) ++ rest = sym (append_assoc start (e ∷ []) rest) in
    let parts = or_parts (kind e.step) (list_any (λ (x : Event). kind x.step) rest) none in
    let whole : IsHistory c ((start ++ e ∷ []) ++ rest) = rw split at h in
    subst P (sym split) (along_without c kind P (start ++ e ∷ []) rest keeps whole parts.1
    (keeps start e (earlier_part_is_history c _ rest whole) parts.0 at))
