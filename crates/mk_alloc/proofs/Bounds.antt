-- All bounds, from the theorems.
use Rattle.mk_alloc.proofs.QuarantineVocabulary.{Bool, Caller, Config, Event, Host, HostBeginsLast, IsHistory, List}
use Rattle.mk_alloc.proofs.QuarantineVocabulary.{Seat, TurnsOfAreExact, ℕ, and_from, ap, append_assoc, arith}
use Rattle.mk_alloc.proofs.QuarantineVocabulary.{earlier_part_is_history, false, is_of_cycle, is_same_seat, left}
use Rattle.mk_alloc.proofs.QuarantineVocabulary.{list_any, list_any-append, or_parts, subst, sym, true≢false, []}
use Rattle.mk_alloc.proofs.QuarantineVocabulary.{⊎_elim, ◌&&◌, ◌++◌, ◌∙◌, ◌∷◌, ◌≡◌}
use Rattle.mk_alloc.proofs.{HeldQuarters.{IsLate, quarter_or_late}, Quarters.{begin_is_of_cycle, fresh_is_quarter}}
use Rattle.mk_alloc.proofs.{Quarters.quarantine_is_quarter_and_kept, CountedWords.IsQuarter}
use Rattle.mk_alloc.proofs.{EndedCycles.fresh_is_quarter_of_held, EndedFrees.CallersAreExact}
use Rattle.mk_alloc.proofs.KeptAllocations.{quarantine_is_fresh_or_kept, freed_runs_take_no_memory, kept_are_touched}
use Rattle.mk_alloc.specs.Bounds.{QuarantineIsBounded, QuarantinesAreBounded, ReleasesInTurnOfBegin}
use Rattle.mk_alloc.specs.Bounds.{FreshIsQuarterOfHeld}
use Rattle.mk_core.specs.History.{AreOfOthers}

others_first : (seats : List Seat) (xs ys : List Event) → AreOfOthers seats (xs ++ ys) → AreOfOthers seats xs
unfolding AreOfOthers
others_first seats [] ys others = tt
others_first seats (x ∷ xs) ys others = (others.0, others_first seats xs ys others.1)

-- A part of the history is one, whose turns are exact, and whose host begins no cycle before others step.

module _ (c : Config) (es front more : List Event) (is : es ≡ front ++ more) where
  earlier : IsHistory c es → IsHistory c front
  earlier h = earlier_part_is_history c front more (subst (λ (l : List Event). IsHistory c l) is h)

  split : (before : List Event) (e : Event) (behind : List Event) → front ≡ before ++ e ∷ behind
      → es ≡ before ++ e ∷ (behind ++ more)
  split before e behind at = is ∙ ap (λ (l : List Event). l ++ more) at ∙ append_assoc before (e ∷ behind) more

  exact_before : (on : Bool) → CallersAreExact on c es → CallersAreExact on c front
  exact_before on exact k lt before e behind at give same = exact k lt before e _ (split before e behind at) give same

  host_before : HostBeginsLast c es → HostBeginsLast c front
  host_before last before e behind at begins host k lt =
      others_first _ behind more (last before e (behind ++ more) (split before e behind at) begins host k lt)

quarter_in_turn : (on : Bool) {c : Config} {es : List Event} → IsHistory c es → CallersAreExact on c es
    → (left c es).now.words.turn ≡ 0 → ReleasesInTurnOfBegin es → FreshIsQuarterOfHeld c es
quarter_in_turn on {c = c} {es = es} h exact free in_turn =
    ⊎_elim (λ (quarter : IsQuarter c (left c es) 0). omega arith) (λ (l : IsLate es). absurd
    (true≢false (sym l.later ∙ in_turn l.begin l.last l.release))) (quarter_or_late on h exact free)

-- A host that does nothing with cycles begins none.

none_at : (test : Event → Bool) (xs : List Event) (e : Event) (ys : List Event) → list_any test (xs ++ e ∷ ys) ≡ false
    → test e ≡ false
none_at test xs e ys none = grind (arith, or_parts, list_any-append)

abbrev is_hosts_cycle : Event → Bool
is_hosts_cycle e = is_same_seat Host e.seat && is_of_cycle e.step

pub quarantines_are_bounded : QuarantinesAreBounded
quarantines_are_bounded on c es h exact last = record {
  with_given_back = λ front more is free.
      fresh_is_quarter on (earlier c es front more is h) (exact_before c es front more is on exact) free;
  released_in_turn = λ front more is free.
      quarter_in_turn on (earlier c es front more is h) (exact_before c es front more is on exact) free;
  of_held = λ off front more is free. fresh_is_quarter_of_held (earlier c es front more is h)
      (exact_before c es front more is false (subst (λ (b : Bool). CallersAreExact b c es) off exact))
      (host_before c es front more is last) free;
  quarantined = λ front more is. quarantine_is_fresh_or_kept c front (earlier c es front more is h);
  kept = λ front more is. kept_are_touched c front (earlier c es front more is h);
  in_memory = λ front more is free. quarantine_is_quarter_and_kept on (earlier c es front more is h)
      (exact_before c es front more is on exact) free;
  large = λ front more is free. freed_runs_take_no_memory (earlier c es front more is h) free;
}

-- a heap of one caller, with such a host
pub quarantine_of_one_is_bounded : (on : Bool) (c : Config) (es : List Event) → c.callers ≡ 1 → IsHistory c es
    → TurnsOfAreExact on c (Caller 0) es → list_any is_hosts_cycle es ≡ false → QuarantineIsBounded on c es
quarantine_of_one_is_bounded on c es one h exact idle =
    quarantines_are_bounded on c es h (λ k lt. subst (λ (j : ℕ). TurnsOfAreExact on c (Caller j) es) (omega arith)
    exact) (λ before e behind is begins host k lt. grind (arith, none_at, is_hosts_cycle, and_from, begin_is_of_cycle))
