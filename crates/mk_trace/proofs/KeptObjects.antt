-- The kept objects are those of the quarantined allocations: over a call that frees one, or none, and after it, where
-- those are let go that were released, and their ages are counted.
use Rattle.mk_trace.proofs.Vocabulary.{AreAgesOf, AreFound, AreObjectsOf, AreThose, Config, Event, FlagsBehind}
use Rattle.mk_trace.proofs.Vocabulary.{FreedObject, FreesNone, IsHistory, PlacedAllocation, ReleasesNone, Words}
use Rattle.mk_trace.proofs.Vocabulary.{age_in_a_word, age_of, aged, and-false, cell_of_allocation, counted}
use Rattle.mk_trace.proofs.Vocabulary.{exists_placed, filter, fold, freed_object_of, is_freed, is_quarantined, left}
use Rattle.mk_trace.proofs.Vocabulary.{one_if, option_map, phase_of, placed_at, times, with_one}
use Rattle.mk_trace.proofs.{FoundObjects.{bit_tells_released, cell_by}, NumberLists.{equal_is, filters_agree}}
use Rattle.mk_trace.proofs.NumberLists.{stands_passes, those_filtered, times_more, unequal_is}
use Rattle.mk_trace.{proofs.{CountedAges.counted_more, FlagSteps.none_past}, specs.Ledgers.{FreesFlag}}
use Rattle.mk_heap.proofs.Below.Laws.Vocabulary.{Bool, List, None, Option, Some, ℕ, and_from, and_parts, ap, append-nil}
use Rattle.mk_heap.proofs.Below.Laws.Vocabulary.{arith}
use Rattle.mk_heap.proofs.Below.Laws.Vocabulary.{cases_lt, false, false_from_ne_true, get_or_past, if◌then◌else◌}
use Rattle.mk_heap.proofs.Below.Laws.Vocabulary.{length}
use Rattle.mk_heap.proofs.Below.Laws.Vocabulary.{list_any-append, map, map-append, not, not-true, or_parts, refl, sym}
use Rattle.mk_heap.proofs.Below.Laws.Vocabulary.{true}
use Rattle.mk_heap.proofs.Below.Laws.Vocabulary.{true≢false, [], ◌&&◌, ◌++◌, ◌+◌, ◌<◌, ◌==◌, ◌||◌, ◌∙◌, ◌∷◌, ◌≡◌, ◌≢◌}
use Rattle.mk_heap.proofs.Below.Laws.Vocabulary.{◌≤◌}
use Rattle.mk_trace.proofs.Vocabulary.{AreQuarantinedObjects, option_to_list}
use Rattle.mk_trace.specs.Ledgers.{aged_object, is_found_gone, is_gone}

-- lists

pub maps_agree : {X : Type 0} (f g : ℕ → X) (numbers : List ℕ) → ((i : ℕ) → 1 ≤ times i numbers → f i ≡ g i)
    → map f numbers ≡ map g numbers
maps_agree f g [] agree = refl
maps_agree {X} f g (x ∷ numbers) agree =
    let first : 1 ≤ one_if (x == x) + times x numbers = grind (arith, equal_is) in
    cc (agree x first, maps_agree f g numbers (λ i some. agree i (omega (arith, some))))

filter_head : (f : ℕ → FreedObject) (x : ℕ) (xs : List FreedObject) (numbers : List ℕ) (b : Bool)
    → xs ≡ map f numbers → (if b then f x ∷ xs else xs) ≡ map f (if b then x ∷ numbers else numbers)
filter_head f x xs numbers b same = grind arith

filter_mapped : (p : FreedObject → Bool) (f : ℕ → FreedObject) (numbers : List ℕ)
    → filter p (map f numbers) ≡ map f (filter (λ (i : ℕ). p (f i)) numbers)
filter_mapped p f [] = refl
filter_mapped p f (x ∷ numbers) =
    filter_head f x (filter p (map f numbers)) (filter (λ (i : ℕ). p (f i)) numbers) (p (f x))
    (filter_mapped p f numbers)

mapped_twice : {X Y : Type 0} (g : X → Y) (f : ℕ → X) (numbers : List ℕ)
    → map g (map f numbers) ≡ map (λ (i : ℕ). g (f i)) numbers
mapped_twice g f [] = refl
mapped_twice {X} {Y} g f (x ∷ numbers) = ap (λ (l : List Y). g (f x) ∷ l) (mapped_twice g f numbers)

those_alike : (p q : ℕ → Bool) (numbers : List ℕ) → ((i : ℕ) → p i ≡ q i) → AreThose p numbers → AreThose q numbers
those_alike p q numbers same those i = those i ∙ ap one_if (same i)

object_by : (c : Config) (found : List (List PlacedAllocation)) (xs ys : List PlacedAllocation) (i : ℕ)
    → (placed_at ys i).base ≡ (placed_at xs i).base → (placed_at ys i).ty ≡ (placed_at xs i).ty
    → aged_object c found xs i ≡ aged_object c found ys i
object_by c found xs ys i base ty = grind (arith, cell_by)

-- after one end more
aged_by : (c : Config) (found later : List (List PlacedAllocation)) (xs : List PlacedAllocation) (i : ℕ)
    → age_of i later ≡ age_of i found + 1 → aged (aged_object c found xs i) ≡ aged_object c later xs i
aged_by c found later xs i one = grind arith

-- ages, with one end more

age_where_unfreed : (number : ℕ) (found : List (List PlacedAllocation)) (finds : List PlacedAllocation)
    → (placed_at finds number).freed ≡ false → age_of number (found ++ finds ∷ []) ≡ age_of number found
age_where_unfreed number [] finds unfreed = rw unfreed
age_where_unfreed number (first ∷ found) finds unfreed = rw (age_where_unfreed number found finds unfreed)

gone_by : (freed released later : Bool) (k n : ℕ) → ((freed && released) || later) ≡ true → (later ≡ true → k ≡ n)
    → (if freed then (if released then 1 else 1 + k) else k) ≡ (if freed then (if released then 1 else 1 + n) else n)
gone_by freed released later k n gone same = grind arith

age_where_gone : (number : ℕ) (found : List (List PlacedAllocation)) (finds : List PlacedAllocation)
    → is_found_gone found number ≡ true → age_of number (found ++ finds ∷ []) ≡ age_of number found
age_where_gone number [] finds gone = absurd (true≢false (sym gone))
age_where_gone number (first ∷ found) finds gone =
    gone_by (placed_at first number).freed (placed_at first number).released (is_found_gone found number) _ _ gone
    (age_where_gone number found finds)

kept_by : (freed released : Bool) (k n : ℕ) → (freed && released) ≡ false → k ≡ n + 1 → (if freed then
    (if released then 1 else 1 + k) else k) ≡ (if freed then (if released then 1 else 1 + n) else n) + 1
kept_by freed released k n kept same = grind arith

age_where_kept : (number : ℕ) (found : List (List PlacedAllocation)) (finds : List PlacedAllocation)
    → is_found_gone found number ≡ false → (placed_at finds number).freed ≡ true
    → age_of number (found ++ finds ∷ []) ≡ age_of number found + 1
age_where_kept number [] finds kept freed = grind arith
age_where_kept number (first ∷ found) finds kept freed =
    let parts = or_parts (is_gone (placed_at first number)) (is_found_gone found number) kept in
    kept_by (placed_at first number).freed (placed_at first number).released _ _ parts.0
    (age_where_kept number found finds parts.1 freed)

-- flags

still_in : (freed was now : Bool) → (was ≡ true → now ≡ true) → (not now && (freed && not was)) ≡ (freed && not now)
still_in freed was now later = grind arith

sums : (freed released now gone : Bool) → (released ≡ true → (now ≡ freed) × (gone ≡ true))
    → one_if (freed && released) + one_if (gone && (now && not released)) ≡ one_if (now && gone)
sums freed released now gone is = grind arith

times_append : (i : ℕ) (numbers more : List ℕ) → times i (numbers ++ more) ≡ times i numbers + times i more
times_append i [] more = omega arith
times_append i (n ∷ numbers) more = omega (arith, times_append i numbers more)

module _ (c : Config) (es fs : List Event) (x : Option ℕ)
    (flags : FlagsBehind (left c es).allocations (left c fs).allocations x) where
  abbrev xs : List PlacedAllocation
  xs = (left c es).allocations

  abbrev ys : List PlacedAllocation
  ys = (left c fs).allocations

  -- those that the call found quarantined, and the one that it freed
  abbrev pub was_kept : ℕ → Bool
  was_kept i = (placed_at ys i).freed && not (placed_at xs i).released

  pub unfreed_past : (i : ℕ) → length xs ≤ i → (placed_at ys i).freed ≡ false
  unfreed_past i le = flags.kept i (λ is. (omega (arith, (flags.frees i is).exists, le))) ∙ none_past xs i le

  pub freed_before : (i : ℕ) → (placed_at ys i).freed ≡ true → i < length xs
  freed_before i freed = grind (arith, cases_lt, xs, unfreed_past)

  -- The call

  module _ {found : List (List PlacedAllocation)} {objects : List FreedObject} (ends : AreFound found xs)
      (kept : AreQuarantinedObjects c found xs objects) where
    one_noted : (k : ℕ) → x ≡ Some k → AreObjectsOf c found xs was_kept (objects ++ freed_object_of c xs k ∷ [])
    one_noted k is = record {
      numbers = kept.numbers ++ k ∷ [];
      are = cc (kept.are, young, map-append (aged_object c found xs) kept.numbers (k ∷ []));
      those = λ i. grind (arith, times_more, equal_is, was, unequal_is, was_kept, xs);
    }
      where
        freed : FreesFlag xs ys k
        freed = flags.frees k is

        young : age_in_a_word found k ≡ 0
        young = let none = ends.unfreed k freed.before in omega (arith, none)

        at_k : times k kept.numbers ≡ 0
        at_k = kept.those k ∙ ap (λ (b : Bool). one_if (b && not (placed_at xs k).released)) freed.before

        was : was_kept k ≡ true
        was = grind (arith, xs, freed)

    noted_by : (y : Option ℕ) → x ≡ y
        → AreObjectsOf c found xs was_kept (objects ++ option_to_list (option_map (freed_object_of c xs) y))
    noted_by None is = grind (arith, xs, was_kept, append-nil, those_alike)
    noted_by (Some k) is = one_noted k is

    pub noted : AreObjectsOf c found xs was_kept (objects ++ option_to_list (option_map (freed_object_of c xs) x))
    noted = noted_by x refl

  -- and after it.

  exists : (numbers : List ℕ) → AreThose was_kept numbers → (i : ℕ) → 1 ≤ times i numbers
      → ((placed_at ys i).freed ≡ true) × ((placed_at xs i).released ≡ false) × (i < length xs)
  exists numbers those i some = grind (arith, and_parts, ys, xs, stands_passes, was_kept, not-true, exists_placed)

  ruleset none_released_facts = (those_alike, cases_lt, unfreed_past, maps_agree, exists, object_by)

  pub none_released : ((i : ℕ) → i < length xs → (placed_at ys i).released ≡ (placed_at xs i).released)
      → {found : List (List PlacedAllocation)} {objects : List FreedObject} → AreObjectsOf c found xs was_kept objects
      → AreQuarantinedObjects c found ys objects
  none_released same kept = grind (arith, none_released_facts, was_kept, ys, xs)

  module _ (before : IsHistory c es) (behind : IsHistory c fs) (out : phase_of (left c fs).now.words ≢ 4) where
    abbrev w : Words
    w = (left c fs).now.words

    tells : (numbers : List ℕ) → AreThose was_kept numbers → (i : ℕ) → 1 ≤ times i numbers
        → is_freed w (cell_of_allocation c (placed_at xs i)) ≡ not (placed_at ys i).released
    tells numbers those i some = grind (arith, exists, bit_tells_released, freed_before)

    left_alike : (i : ℕ) → (not (placed_at ys i).released && was_kept i) ≡ is_quarantined (placed_at ys i)
    left_alike i = grind (arith, cases_lt, xs, still_in, ys, unfreed_past, and-false)

    -- One end was after what had been found.
    module _ (found later : List (List PlacedAllocation)) (one : (i : ℕ) → was_kept i ≡ true → age_of i later
        ≡ age_of i found + 1) (objects : List FreedObject) (kept : AreObjectsOf c found xs was_kept objects) where
      abbrev aged_at : ℕ → FreedObject
      aged_at i = aged (aged_object c found xs i)

      all_aged : map aged objects ≡ map aged_at kept.numbers
      all_aged = ap (map aged) kept.are ∙ mapped_twice aged (aged_object c found xs) kept.numbers

      pub ages_gone : map (λ (y : FreedObject). y.age) (filter (λ (y : FreedObject). not (is_freed w y.cell))
          (map aged objects)) ≡ map (age_in_a_word later) (filter (λ (i : ℕ). (placed_at ys i).released) kept.numbers)
      ages_gone =
          let gone : ℕ → Bool = λ i. (placed_at ys i).released in
          let agree = filters_agree (λ (i : ℕ). not (is_freed w (cell_of_allocation c (placed_at xs i)))) gone
          kept.numbers (λ i some. ap (λ (b : Bool). not b) (tells kept.numbers kept.those i some) ∙ (grind arith)) in
          ap (λ (l : List FreedObject). map (λ (y : FreedObject). y.age)
          (filter (λ (y : FreedObject). not (is_freed w y.cell)) l)) all_aged ∙ ap (map (λ (y : FreedObject). y.age))
          (filter_mapped (λ (y : FreedObject). not (is_freed w y.cell)) aged_at kept.numbers ∙ ap (map aged_at) agree)
          ∙ mapped_twice (λ (y : FreedObject). y.age) aged_at (filter gone kept.numbers)
          ∙ maps_agree (λ (i : ℕ). (aged_at i).age) (age_in_a_word later) (filter gone kept.numbers)
          (λ i some. ap (λ (y : FreedObject). y.age) (aged_by c found later xs i (one i (
          (and_parts (gone i) (was_kept i) (stands_passes (λ (j : ℕ). gone j && was_kept j)
          (filter gone kept.numbers) (those_filtered gone was_kept kept.numbers kept.those) i some)).1))))

    pub let_go : {found : List (List PlacedAllocation)} (later : List (List PlacedAllocation))
        → ((i : ℕ) → was_kept i ≡ true → age_of i later ≡ age_of i found + 1) → {objects : List FreedObject}
        → AreObjectsOf c found xs was_kept objects
        → AreQuarantinedObjects c later ys (filter (λ (y : FreedObject). is_freed w y.cell) (map aged objects))
    let_go {found} later one {objects = objects} kept =
        let aged_at : ℕ → FreedObject = λ i. aged (aged_object c found xs i) in
        let unreleased : ℕ → Bool = λ i. not (placed_at ys i).released in
        let rest : List ℕ = filter unreleased kept.numbers in
        let agree = filters_agree (λ (i : ℕ). is_freed w (cell_of_allocation c (placed_at xs i))) unreleased
        kept.numbers (tells kept.numbers kept.those) in
        let those : AreThose (λ (i : ℕ). unreleased i && was_kept i) rest =
        those_filtered unreleased was_kept kept.numbers kept.those in
        record {
          numbers = rest;
          are =
              ap (filter (λ (y : FreedObject). is_freed w y.cell)) (all_aged found later one objects kept)
              ∙ filter_mapped (λ (y : FreedObject). is_freed w y.cell) aged_at kept.numbers ∙ ap (map aged_at) agree
              ∙ maps_agree aged_at (aged_object c later ys) rest (λ i some. (let both = and_parts (unreleased i)
              (was_kept i) (stands_passes (λ (j : ℕ). unreleased j && was_kept j) rest those i some) in
              let lt : i < length xs = freed_before i (and_parts (placed_at ys i).freed _ both.1).0 in
              aged_by c found later xs i (one i both.1)
              ∙ object_by c later xs ys i (flags.later.base i lt) (flags.later.ty i lt)));
          those = those_alike (λ (i : ℕ). unreleased i && was_kept i) (λ (i : ℕ). is_quarantined (placed_at ys i)) rest
              left_alike those;
        }

  -- The ages of allocations are as they were, or one end has found them.

  stays_freed : (i : ℕ) → (placed_at xs i).freed ≡ true → (placed_at ys i).freed ≡ true
  stays_freed i freed = flags.kept i (λ is. true≢false (sym freed ∙ (flags.frees i is).before)) ∙ freed

  was_unfreed : (i : ℕ) → (placed_at ys i).freed ≡ false → (placed_at xs i).freed ≡ false
  was_unfreed i unfreed = grind (arith, false_from_ne_true, xs, stays_freed)

  -- What was released is as it was.
  same_freed : (i : ℕ) → (placed_at xs i).released ≡ true → (placed_at ys i).freed ≡ (placed_at xs i).freed
  same_freed i gone = flags.kept i (λ is. true≢false (sym gone ∙ (flags.frees i is).unreleased))

  -- Nothing was released.
  module _ (same : (i : ℕ) → i < length xs → (placed_at ys i).released ≡ (placed_at xs i).released) where
    same_gone : (i : ℕ) → is_gone (placed_at xs i) ≡ is_gone (placed_at ys i)
    same_gone i = grind (arith, cases_lt, xs, same_freed, none_past, unfreed_past)

    pub none_found : {found : List (List PlacedAllocation)} → AreFound found xs → AreFound found ys
    none_found h = grind (arith, same_gone, was_unfreed)

    pub none_ages : (found : List (List PlacedAllocation)) (pairs : List (ℕ × ℕ)) → AreAgesOf found xs pairs
        → AreAgesOf found ys pairs
    none_ages found pairs h = grind (arith, same_gone)

  -- One end found these.
  module _ (found : List (List PlacedAllocation)) (finds : List PlacedAllocation) (same : FreesNone finds ys)
      (none : ReleasesNone finds ys) (h : AreFound found xs) where
    abbrev later : List (List PlacedAllocation)
    later = found ++ finds ∷ []

    finds_gone : (i : ℕ) → is_gone (placed_at finds i) ≡ is_gone (placed_at ys i)
    finds_gone i = grind (arith, cases_lt, get_or_past)

    ruleset one_found_facts = (list_any-append, finds_gone, age_where_unfreed, was_unfreed, stays_freed, freed_before)

    pub one_found : AreFound later ys
    one_found = grind (arith, one_found_facts, and_parts, xs, and_from, ys)

    pub kept_age : (i : ℕ) → was_kept i ≡ true → age_of i later ≡ age_of i found + 1
    kept_age i kept = grind (arith, and_parts, ys, xs, age_where_kept, not-true, and-false)

    -- The ages of those that it released are counted.
    pub one_ages : (pairs now : List (ℕ × ℕ)) (numbers : List ℕ) → AreAgesOf found xs pairs → AreThose
        was_kept numbers → now ≡ fold with_one pairs
        (map (age_in_a_word later) (filter (λ (i : ℕ). (placed_at ys i).released) numbers)) → AreAgesOf later ys now
    one_ages pairs now numbers ages those is =
        let gone : ℕ → Bool = λ i. (placed_at ys i).released in
        let rest : List ℕ = filter gone numbers in
        let as_before : map (age_in_a_word found) ages.numbers ≡ map (age_in_a_word later) ages.numbers =
        grind (arith, maps_agree, later, age_where_gone, stands_passes, xs) in
        record {
          numbers = ages.numbers ++ rest;
          are =
              is ∙ ap (λ (l : List (ℕ × ℕ)). fold with_one l (map (age_in_a_word later) rest)) ages.are
              ∙ ap (λ (l : List ℕ). fold with_one (counted l) (map (age_in_a_word later) rest)) as_before
              ∙ counted_more (map (age_in_a_word later) ages.numbers) (map (age_in_a_word later) rest)
              ∙ ap counted (sym (map-append (age_in_a_word later) ages.numbers rest));
          those = λ i. times_append i ages.numbers rest ∙ ap (λ (n : ℕ). n + times i rest) (ages.those i)
              ∙ ap (λ (n : ℕ). one_if (is_gone (placed_at xs i)) + n) (those_filtered gone was_kept
              numbers those i) ∙ (grind (arith, cases_lt, xs, sums, ys, same_freed, none_past, unfreed_past));
        }
