-- What is kept once what was released is let go.
use Rattle.std.proofs.{lemmas.List.Elements.filter-append, lemmas.List.Sums.{fold-append, sum_by_more}}
use Rattle.mk_trace.proofs.Vocabulary.{Freed, FreedObject, SettlesFreed, aged, fold, in_a_word, objects_kept}
use Rattle.mk_trace.proofs.Vocabulary.{still_kept, sum_by, take_all, take_more, with_one}
use Rattle.mk_heap.proofs.Below.Laws.Vocabulary.{Bool, List, ℕ, ap, arith, get_or, if◌then◌else◌, length, map}
use Rattle.mk_heap.proofs.Below.Laws.Vocabulary.{map-append, subst}
use Rattle.mk_heap.proofs.Below.Laws.Vocabulary.{sym, take, [], ◌++◌, ◌+◌, ◌<◌, ◌∙◌, ◌∷◌, ◌≡◌, ◌≤◌}
use Rattle.mk_trace.specs.Ledgers.{ages_let_go, is_freed_among, weighed_anew}

-- Words of kept objects, summed up one by one, where a number above 2^64 - 1 stands as 2^64 - 1.

pub total_more : (f : FreedObject → ℕ) (xs : List FreedObject) (i words : ℕ) (d : FreedObject) → i < length xs → words
    ≡ in_a_word (sum_by f (take i xs)) → in_a_word (words + f (get_or xs i d)) ≡ in_a_word (sum_by f (take (i + 1) xs))
total_more f xs i words d lt so_far = omega (arith, so_far, sum_by_more f xs i d lt)

pub all_summed : (f : FreedObject → ℕ) (xs : List FreedObject) (i words : ℕ) → length xs ≤ i
    → words ≡ in_a_word (sum_by f (take i xs)) → words ≡ in_a_word (sum_by f xs)
all_summed f xs i words all so_far = so_far ∙ ap (λ (l : List FreedObject). in_a_word (sum_by f l)) (take_all i xs all)

-- What is kept once what was released is let go.

all_aged : (found : List FreedObject) (i : ℕ) (d : FreedObject) → i < length found
    → map aged (take (i + 1) found) ≡ map aged (take i found) ++ aged (get_or found i d) ∷ []
all_aged found i d lt = ap (map aged) (take_more found i d lt) ∙ map-append aged (take i found) (get_or found i d ∷ [])

pub kept_more : (freed : List ℕ) (found : List FreedObject) (i : ℕ) (d x : FreedObject) (kept now : List FreedObject)
    (b : Bool) → i < length found → kept ≡ still_kept freed (map aged (take i found)) → x ≡ aged (get_or found i d)
    → b ≡ is_freed_among freed (get_or found i d).cell → now ≡ kept ++ (if b then x ∷ [] else [])
    → now ≡ still_kept freed (map aged (take (i + 1) found))
kept_more freed found i d x kept now b lt so_far same is more =
    let y : FreedObject = aged (get_or found i d) in
    more ∙ ap (λ (l : List FreedObject). l ++ (if b then x ∷ [] else [])) so_far
    ∙ ap (λ (z : FreedObject). still_kept freed (map aged (take i found)) ++ (if b then z ∷ [] else [])) same
    ∙ ap (λ (z : Bool). still_kept freed (map aged (take i found)) ++ (if z then y ∷ [] else [])) is
    ∙ sym (filter-append (λ (z : FreedObject). is_freed_among freed z.cell) (map aged (take i found)) (y ∷ []))
    ∙ ap (still_kept freed) (sym (all_aged found i d lt))

pub kept_all : (freed : List ℕ) (found : List FreedObject) (i : ℕ) (kept : List FreedObject) → length found ≤ i
    → kept ≡ still_kept freed (map aged (take i found)) → kept ≡ still_kept freed (map aged found)
kept_all freed found i kept all is =
    is ∙ ap (λ (l : List FreedObject). still_kept freed (map aged l)) (take_all i found all)

-- and the ages of the others

let_go_one : (freed : List ℕ) (objects : List FreedObject) (x : FreedObject) → ages_let_go freed (objects ++ x ∷ [])
    ≡ ages_let_go freed objects ++ ages_let_go freed (x ∷ [])
let_go_one freed objects x = grind (arith, filter-append, map-append)

pub ages_more : (freed : List ℕ) (found : List FreedObject) (i : ℕ) (d x : FreedObject)
    (first ages now : List (ℕ × ℕ)) (b : Bool) → i < length found
    → ages ≡ fold with_one first (ages_let_go freed (map aged (take i found))) → x ≡ aged (get_or found i d)
    → b ≡ is_freed_among freed (get_or found i d).cell → now ≡ (if b then ages else with_one ages x.age)
    → now ≡ fold with_one first (ages_let_go freed (map aged (take (i + 1) found)))
ages_more freed found i d x first ages now b lt so_far same is more =
    let y : FreedObject = aged (get_or found i d) in
    let before : List ℕ = ages_let_go freed (map aged (take i found)) in
    more ∙ ap (λ (l : List (ℕ × ℕ)). if b then l else with_one l x.age) so_far ∙ ap
    (λ (z : FreedObject). if b then fold with_one first before else with_one (fold with_one first before) z.age) same
    ∙ ap (λ (z : Bool). if z then fold with_one first before else with_one (fold with_one first before) y.age) is
    ∙ (grind arith) ∙ sym (fold-append with_one first before
    (ages_let_go freed (y ∷ []))) ∙ ap (fold with_one first) (sym (let_go_one freed (map aged (take i found)) y))
    ∙ ap (λ (l : List FreedObject). fold with_one first (ages_let_go freed l)) (sym (all_aged found i d lt))

pub ages_all : (freed : List ℕ) (found : List FreedObject) (i : ℕ) (first ages : List (ℕ × ℕ)) → length found ≤ i
    → ages ≡ fold with_one first (ages_let_go freed (map aged (take i found)))
    → ages ≡ fold with_one first (ages_let_go freed (map aged found))
ages_all freed found i first ages all is =
    is ∙ ap (λ (l : List FreedObject). fold with_one first (ages_let_go freed (map aged l))) (take_all i found all)

-- All of it

pub settles_anew : (freed shown : List ℕ) (count told : ℕ) (old new : Freed) (found kept : List FreedObject)
    → shown ≡ freed → count ≡ told → (count ≡ old.ends → ⊥) → found ≡ objects_kept old
    → kept ≡ still_kept shown (map aged found)
    → new.quarantined ≡ weighed_anew (λ (x : FreedObject). x.storage) kept old.quarantined
    → new.reserved ≡ weighed_anew (λ (x : FreedObject). x.reserved) kept old.reserved → objects_kept new ≡ kept
    → new.ages.items ≡ fold with_one old.ages.items (ages_let_go shown (map aged found))
    → new.ends ≡ count → SettlesFreed freed told old new
settles_anew freed shown count told old new found kept at is other all still quarantined reserved objects ages ends =
    let kept_is : kept ≡ still_kept freed (map aged (objects_kept old)) = cc (still, at, all) in
    subst (λ (n : ℕ). SettlesFreed freed n old new) is (record {
      ends = ends;
      same = λ same. absurd (other same);
      others = λ _. record {
        objects = objects ∙ kept_is;
        quarantined = quarantined ∙ ap (λ (l : List FreedObject). weighed_anew (λ (x : FreedObject). x.storage) l
            old.quarantined) (sym objects);
        reserved = reserved ∙ ap (λ (l : List FreedObject). weighed_anew (λ (x : FreedObject). x.reserved) l
            old.reserved) (sym objects);
        ages = ages ∙ ap (λ (l : List ℕ). fold with_one old.ages.items (ages_let_go l (map aged found))) at
            ∙ ap (λ (l : List FreedObject). fold with_one old.ages.items (ages_let_go freed (map aged l))) all;
      };
    })
