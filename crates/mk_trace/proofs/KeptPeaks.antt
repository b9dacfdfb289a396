-- All is kept of freed objects after a call, once what it freed is noted, and what it released is let go.
use Rattle.std.proofs.lemmas.List.Sums.{sum_by_push}
use Rattle.mk_trace.proofs.Vocabulary.{AreAgesOf, AreObjectsOf, Config, EndsNone, EndsOne, Event, FlagsBehindCall}
use Rattle.mk_trace.proofs.Vocabulary.{Freed, FreedObject, IsBetweenCycles, IsHistory, IsMostWhereFreed, Keeps, Op}
use Rattle.mk_trace.proofs.Vocabulary.{PlacedAllocation, QuarantinesMostWhereFreed, SettlesFreed, Words, age_in_a_word}
use Rattle.mk_trace.proofs.Vocabulary.{age_of, ends, fold, freed_object_of, greatest, in_a_word, left}
use Rattle.mk_trace.proofs.Vocabulary.{never_behind, number_freed, objects_kept, option_map, phase_of, placed_at}
use Rattle.mk_trace.proofs.Vocabulary.{quarantined_words, reserved_words, sum_by, sum_by-append, with_one}
use Rattle.mk_trace.proofs.{Vocabulary.words_of_some, FreedWords.{large_weight, quarantined_is, reserved_is}}
use Rattle.mk_trace.proofs.FreedWords.{storage_weight, sum_alike, sum_mapped, weighed}
use Rattle.mk_trace.proofs.KeptObjects.{ages_gone, kept_age, let_go, none_ages, none_found, none_released, noted}
use Rattle.mk_trace.proofs.{KeptObjects.{one_ages, one_found, was_kept}, NumberLists.words_of_numbers}
use Rattle.mk_heap.proofs.Below.Laws.Vocabulary.{List, None, Option, Some, ℕ, ap, arith, inl, inr}
use Rattle.mk_heap.proofs.Below.Laws.Vocabulary.{refl, subst, sym, true, [], ◌++◌, ◌+◌, ◌<◌, ◌∙◌, ◌∷◌, ◌≡◌, ◌≢◌, ◌⊎◌}
use Rattle.mk_trace.proofs.Vocabulary.{AreQuarantinedObjects, option_map_or, option_to_list}
use Rattle.mk_trace.specs.Ledgers.{IsPeakOf, LetsGo, Notes, aged_object, risen, weighed_anew}
use Rattle.mk_trace.specs.Peaks.{found_by_ends}
use Rattle.mk_trace.specs.declared.ledger.Peak.{Peak}

-- sums

-- counts

same_count : (before count kept : ℕ) → kept ≡ in_a_word before
    → before < 18446744073709551615 → count ≡ before + 1 → in_a_word count ≢ kept
same_count before count kept is few more same = omega (arith, is, few, more, same)

-- One measure: that of these words of an object.
module _ (c : Config) (measure : List PlacedAllocation → ℕ) (words : FreedObject → ℕ) (weight : ℕ → ℕ)
    (measure_is : (ys : List PlacedAllocation) → measure ys ≡ weighed weight ys)
    (words_is : (ys : List PlacedAllocation) (i age : ℕ)
    → words (record (freed_object_of c ys i) { age = age }) ≡ weight (placed_at ys i).ty) where
  total : {found : List (List PlacedAllocation)} {ys : List PlacedAllocation} {objects : List FreedObject}
      → AreQuarantinedObjects c found ys objects → sum_by words objects ≡ measure ys
  total {found} {ys} kept =
      ap (sum_by words) kept.are ∙ sum_mapped words (aged_object c found ys) kept.numbers
      ∙ sum_alike _ (λ (i : ℕ). weight (placed_at ys i).ty) (λ i. words_is ys i (age_in_a_word found i)) kept.numbers
      ∙ words_of_numbers weight kept.numbers ys kept.those ∙ sym (measure_is ys)

  some_is : (ys : List PlacedAllocation) (x : Option ℕ) → option_map_or words (option_map (freed_object_of c ys) x) 0
      ≡ words_of_some (λ (a : PlacedAllocation). weight a.ty) ys x
  some_is ys None = refl
  some_is ys (Some i) = words_is ys i 0

  module _ {es : List Event} (fs : List Event) (o : Op) {first : Peak} (second third : Peak) (x : Option FreedObject)
      (is : x ≡ option_map (freed_object_of c (left c es).allocations) (number_freed (never_behind c es) o))
      (peak : IsPeakOf c measure es first) (rises : second ≡ risen first (option_map_or words x 0))
      (most : IsMostWhereFreed c measure (λ (a : PlacedAllocation). weight a.ty) es o fs) where
    now_is : second.now ≡ in_a_word (measure (left c es).allocations + option_map_or words x 0)
    now_is = grind arith

    most_is : second.most ≡ in_a_word (greatest c measure fs)
    most_is = grind (arith, some_is)

    -- Nothing was released.
    pub peak_stays : {found : List (List PlacedAllocation)} {objects : List FreedObject}
        → AreQuarantinedObjects c found (left c es).allocations objects
        → AreQuarantinedObjects c found (left c fs).allocations (objects ++ option_to_list x)
        → third ≡ second → IsPeakOf c measure fs third
    peak_stays {found} {objects} was kept same =
        let before = total was in
        let behind = total kept in
        let sums : sum_by words (objects ++ option_to_list x) ≡ sum_by words objects + option_map_or words x 0 = grind
        (arith, sum_by-append, sum_by_push) in
        record {
          now = ap (λ (p : Peak). p.now) same ∙ now_is ∙ (omega (arith, before, behind, sums));
          most = ap (λ (p : Peak). p.most) same ∙ most_is;
        }

    -- What was released was let go.
    pub peak_anew : {found : List (List PlacedAllocation)} {rest : List FreedObject}
        → AreQuarantinedObjects c found (left c fs).allocations rest → third ≡ weighed_anew words rest second
        → IsPeakOf c measure fs third
    peak_anew {found} {rest} kept anew = record {
      now = ap (λ (p : Peak). p.now) anew ∙ ap in_a_word (total kept);
      most = ap (λ (p : Peak). p.most) anew ∙ most_is;
    }

-- All of them.
module _ (c : Config) (es fs : List Event) (o : Op) (before : IsHistory c es) (behind : IsHistory c fs)
    (few : ends es < 18446744073709551615) (idle : IsBetweenCycles c fs) (tells : EndsNone c es fs ⊎ EndsOne c es fs)
    (flags : FlagsBehindCall c es o fs) (most : QuarantinesMostWhereFreed c es o fs) (first second third : Freed)
    (x : Option FreedObject) (is : x ≡ option_map (freed_object_of c (left c es).allocations)
    (number_freed (never_behind c es) o)) (keeps : Keeps c es first) (notes : Notes first x second)
    (settles : SettlesFreed (left c fs).now.words.freed (in_a_word (ends fs)) second third) where
  abbrev xs : List PlacedAllocation
  xs = (left c es).allocations

  abbrev ys : List PlacedAllocation
  ys = (left c fs).allocations

  abbrev w : Words
  w = (left c fs).now.words

  abbrev found : List (List PlacedAllocation)
  found = found_by_ends c es

  abbrev x_number : Option ℕ
  x_number = number_freed (never_behind c es) o

  abbrev Kept : List (List PlacedAllocation) → List FreedObject → Type 0
  Kept ends objects = AreQuarantinedObjects c ends ys objects

  out : phase_of w ≢ 4
  out four = omega (arith, four, idle)

  with_freed : AreObjectsOf c found xs (was_kept c es fs x_number flags) (objects_kept first ++ option_to_list x)
  with_freed = grind (arith, found, xs, was_kept, x_number, noted)

  noted_objects : AreObjectsOf c found xs (was_kept c es fs x_number flags) (objects_kept second)
  noted_objects = subst (AreObjectsOf c found xs (was_kept c es fs x_number flags)) (sym notes.objects) with_freed

  -- No cycle ended.
  module _ (none : EndsNone c es fs) where
    none_gone : Kept found (objects_kept first ++ option_to_list x)
    none_gone = none_released c es fs x_number flags none.released.released with_freed

    keeps_none : third ≡ second → Keeps c fs third
    keeps_none s = record {
      quarantined =
          peak_stays c (quarantined_words c) (λ (y : FreedObject). y.storage) (storage_weight c) (quarantined_is c)
          (λ zs i age. refl) fs o second.quarantined third.quarantined x is keeps.quarantined
          notes.quarantined most.quarantined keeps.objects none_gone (ap (λ (f : Freed). f.quarantined) s);
      reserved =
          peak_stays c (reserved_words c) (λ (y : FreedObject). y.reserved) (large_weight c) (reserved_is c)
          (λ zs i age. refl) fs o second.reserved third.reserved x is keeps.reserved
          notes.reserved most.reserved keeps.objects none_gone (ap (λ (f : Freed). f.reserved) s);
      objects =
          subst (Kept (found_by_ends c fs)) (sym (ap objects_kept s ∙ notes.objects)) (rw (← none.found) at none_gone);
      ages =
          rw none.found (none_ages c es fs x_number flags none.released.released found third.ages.items
          (subst (AreAgesOf found xs) (sym (ap (λ (f : Freed). f.ages.items) s ∙ notes.ages)) keeps.ages));
      found =
          rw none.found (none_found c es fs x_number flags none.released.released keeps.found);
      ends = settles.ends;
    }

  -- One ended.
  module _ (one : EndsOne c es fs) where
    abbrev later : List (List PlacedAllocation)
    later = found ++ one.finds ∷ []

    older : (i : ℕ) → was_kept c es fs x_number flags i ≡ true → age_of i later ≡ age_of i found + 1
    older = kept_age c es fs x_number flags found one.finds one.freed one.released keeps.found

    rest_kept : LetsGo w.freed second third → Kept later (objects_kept third)
    rest_kept s =
        subst (Kept later) (sym s.objects) (let_go c es fs x_number flags before behind out later older noted_objects)

    keeps_one : LetsGo w.freed second third → Keeps c fs third
    keeps_one s = record {
      quarantined =
          peak_anew c (quarantined_words c) (λ (y : FreedObject). y.storage) (storage_weight c) (quarantined_is c)
          (λ zs i age. refl) fs o second.quarantined third.quarantined x is keeps.quarantined
          notes.quarantined most.quarantined (rest_kept s) s.quarantined;
      reserved =
          peak_anew c (reserved_words c) (λ (y : FreedObject). y.reserved) (large_weight c) (reserved_is c)
          (λ zs i age. refl) fs o second.reserved third.reserved x is keeps.reserved
          notes.reserved most.reserved (rest_kept s) s.reserved;
      objects = (let rest = rest_kept s in rw (← one.found) at rest);
      ages =
          rw one.found
          (one_ages c es fs x_number flags found one.finds one.freed one.released keeps.found second.ages.items
          third.ages.items noted_objects.numbers (subst (AreAgesOf found xs) (sym notes.ages) keeps.ages)
          noted_objects.those (s.ages ∙ ap (fold with_one second.ages.items)
          (ages_gone c es fs x_number flags before behind out found later older (objects_kept second) noted_objects)));
      found =
          rw one.found (one_found c es fs x_number flags found one.finds one.freed one.released keeps.found);
      ends = settles.ends;
    }

  pub keeps_on : Keeps c fs third
  keeps_on = elim tells [
    | inr one ↦
        let other = same_count (ends es) (ends fs) second.ends (notes.ends ∙ keeps.ends) few one.count in
        keeps_one one (settles.others other)
    | inl none ↦
        keeps_none none (settles.same (ap in_a_word none.count ∙ sym (notes.ends ∙ keeps.ends)))
  ]
