-- The most words that were quarantined over a call.
use Rattle.mk_trace.proofs.Vocabulary.{Answer, AreLater, Cell, Config, Decided, Event, Flight, IsHistory, Moment}
use Rattle.mk_trace.proofs.Vocabulary.{NeverState, Op, PlacedAllocation, Value, Words, World, after_calls, after_free}
use Rattle.mk_trace.proofs.Vocabulary.{asked, call_decided, calls_append, decides_freed, entry_of, first_world}
use Rattle.mk_trace.proofs.Vocabulary.{flight_of, freed_where_it_stands, granted, greatest, has_step, is_release}
use Rattle.mk_trace.proofs.Vocabulary.{lacks_append, lacks_one, left, max, never_behind, number_freed, register_at}
use Rattle.mk_trace.proofs.Vocabulary.{sum_by-append, sum_by-cons, unfreed, words_of_some, world_behind}
use Rattle.mk_trace.proofs.FlagSteps.{SameReleased, later_left, points_there, same_released, unfreed_all}
use Rattle.mk_trace.proofs.FreeCalls.{flagged_free, freeing_is, frees_decide, is_free, is_free_call}
use Rattle.mk_trace.{proofs.FreedWords.{freed_adds, part, sum_falls, sum_rises, weighed}, specs.Peaks.{greatest_from}}
use Rattle.mk_trace.proofs.PeakParts.{falls_by, from-append, last_below, rises_by}
use Rattle.mk_trace.proofs.FoundByEnds.{FreesNoneFrom, free_parts}
use Rattle.mk_heap.proofs.Below.Laws.Vocabulary.{Bool, List, None, Option, Some, ℕ, ap, append-nil, append_assoc, arith}
use Rattle.mk_heap.proofs.Below.Laws.Vocabulary.{earlier_part_is_history, false, if◌then◌else◌, inl, inr, left_in_parts}
use Rattle.mk_heap.proofs.Below.Laws.Vocabulary.{list_any}
use Rattle.mk_heap.proofs.Below.Laws.Vocabulary.{never_in_parts, not, refl, subst, sym, true, true≢false, [], ◌&&◌, ◌*◌}
use Rattle.mk_heap.proofs.Below.Laws.Vocabulary.{◌++◌, ◌+◌}
use Rattle.mk_heap.proofs.Below.Laws.Vocabulary.{◌||◌, ◌∙◌, ◌∷◌, ◌≡◌, ◌≤◌, ◌⊎◌}
use Rattle.mk_never.specs.Laws.{IsReachable, IsReachable.by_register}
use Rattle.mk_core.specs.History.{calls_from, left_from}

-- What events do to the words of the quarantined allocations: a free alone makes them more, and a release alone less.

-- What single changes add.

released_part : (n : ℕ) (freed released more : Bool)
    → (if freed && not (released || more) then n else 0) ≤ (if freed && not released then n else 0)
released_part n freed released more = grind arith

freed_part : (n : ℕ) (freed released : Bool)
    → (if freed && not released then n else 0) ≤ (if true && not released then n else 0)
freed_part n freed released = grind arith

module _ (weight : ℕ → ℕ) where
  free_rises : (w : Words) (cell : Option Cell) (a : PlacedAllocation)
      → part weight a ≤ part weight (freed_where_it_stands w cell a)
  free_rises w cell a = grind (arith, freed_part)

  grant_adds_none : (c : Config) (m : Moment) (f : Flight) (xs : List PlacedAllocation)
      → weighed weight (xs ++ granted c m f ∷ []) ≡ weighed weight xs
  grant_adds_none c m f xs = grind (arith, sum_by-append, part, sum_by-cons)

  -- One step.

  -- Lists of events.

  module _ (c : Config) where
    -- Where no Free is decided, the most was at the first.
    pub falls_without_free : (w : World) (es : List Event) → FreesNoneFrom c w es
        → greatest_from c w (weighed weight) es ≡ weighed weight w.allocations
    falls_without_free w es none = falls_by c (weighed weight) (FreesNoneFrom c) (λ w e es none.
        let parts = free_parts c w e es none in
        (grind (arith, grant_adds_none, weighed, unfreed_all, sum_falls, part, released_part), parts.1)) w es none

-- The most words that were quarantined over a call: a Free alone makes them more, before it releases any.

-- An event frees, before any is released.
pub record FreesBefore (c : Config) (es more : List Event) : Type 0 where
  pub before : List Event
  pub event : Event
  pub behind : List Event
  pub is : more ≡ before ++ event ∷ behind
  pub none_before : has_step is_release before ≡ false
  pub decides :
      decides_freed c (left c (es ++ before)).now (flight_of (left c (es ++ before)).now event.seat) event.step ≡ true

abbrev pub ReleasesLate : Config → List Event → List Event → Type 0
ReleasesLate c es more = (has_step is_release more ≡ false) ⊎ FreesBefore c es more

-- what a call frees
abbrev pub freed_weight : (ℕ → ℕ) → Config → List Event → Op → ℕ
freed_weight weight c es o =
    words_of_some (λ (a : PlacedAllocation). weight a.ty) (left c es).allocations (number_freed (never_behind c es) o)

abbrev pub MostWhereFreed : (ℕ → ℕ) → Config → List Event → Op → List Event → Type 0
MostWhereFreed weight c es o fs =
    greatest c (weighed weight) fs
    ≡ max (greatest c (weighed weight) es) (weighed weight (left c es).allocations + freed_weight weight c es o)

-- A call that is no Free

frees_nothing : (n : NeverState) (o : Op) → is_free o ≡ false → number_freed n o ≡ None
frees_nothing n o other = grind arith

module _ (weight : ℕ → ℕ) (c : Config) (es more : List Event) (o : Op) (a : Answer)
    (one : calls_from c (left c es) more ≡ entry_of 0 o (Some a)) where
  pub no_more_without_free : is_free o ≡ false → MostWhereFreed weight c es o (es ++ more)
  no_more_without_free other =
      let parts = from-append c (weighed weight) (first_world c) es more in
      let last = last_below c (weighed weight) (first_world c) es in
      let falls = falls_without_free weight c (left c es) more
      (ap (list_any is_free_call) one ∙ ap (λ (b : Bool). b || false) (flagged_free o a ∙ other)) in
      let none : freed_weight weight c es o ≡ 0 = grind (arith, frees_nothing) in
      omega arith

-- and a Free that releases nothing.
module _ (weight : ℕ → ℕ) {c : Config} (es more : List Event) (r : ℕ) (a : Answer) (whole : IsHistory c (es ++ more))
    (one : calls_from c (left c es) more ≡ entry_of 0 (Op.Free r) (Some a)) where
  abbrev value : Value
  value = register_at (never_behind c es) 0 r

  never : never_behind c (es ++ more) ≡ after_free (never_behind c es) value
  never = never_in_parts c es more ∙ ap (λ (l : List Decided). after_calls (never_behind c es) (asked l)) one

  reached : (number : ℕ) → unfreed (never_behind c es) value ≡ Some number → IsReachable (never_behind c es) number
  reached number is = by_register (8 * 0 + r) number (points_there (never_behind c es) value number is)

  adds : has_step is_release more ≡ false → weighed weight (left c (es ++ more)).allocations
      ≡ weighed weight (left c es).allocations + freed_weight weight c es (Op.Free r)
  adds none =
      freed_adds c es (es ++ more) (earlier_part_is_history c es more whole) whole value reached never (subst (λ (w :
      World). AreLater (left c es).allocations w.allocations) (sym (left_in_parts c es more)) (later_left c _ more))
      (subst (λ (w : World). SameReleased (left c es).allocations w.allocations) (sym (left_in_parts c es more))
      (same_released c _ more none)) weight

  ruleset most_of_free_facts = (from-append, weighed, left_in_parts, rises_by, grant_adds_none, sum_rises, free_rises)

  pub most_of_free : has_step is_release more ≡ false → MostWhereFreed weight c es (Op.Free r) (es ++ more)
  most_of_free none = grind (arith, most_of_free_facts, adds, part)

-- Where a Free releases, it freed before.

pub one_of_three : (xs ys zs : List Decided) (x : Decided) → xs ++ (ys ++ zs) ≡ x ∷ [] → list_any is_free_call ys ≡ true
    → (xs ≡ []) × (ys ≡ x ∷ []) × (zs ≡ [])
one_of_three xs [] zs x is some = absurd (true≢false (sym some))
one_of_three [] (y ∷ []) [] x is some = (refl, is, refl)
one_of_three [] (y ∷ []) (z ∷ zs) x is some = absurd cc
one_of_three [] (y ∷ (v ∷ ys)) zs x is some = absurd cc
one_of_three (v ∷ []) (y ∷ ys) zs x is some = absurd cc
one_of_three (v ∷ (u ∷ xs)) (y ∷ ys) zs x is some = absurd cc

module _ (weight : ℕ → ℕ) (c : Config) (es more : List Event) (r : ℕ) (a : Answer) (whole : IsHistory c (es ++ more))
    (one : calls_from c (left c es) more ≡ entry_of 0 (Op.Free r) (Some a)) (f : FreesBefore c es more) where
  abbrev first : List Event
  first = f.before ++ f.event ∷ []

  abbrev at : World
  at = left_from c (left c es) f.before

  at_is : left c (es ++ f.before) ≡ at
  at_is = left_in_parts c es f.before

  decides : list_any is_free_call (call_decided c at.now f.event) ≡ true
  decides = cc (at_is, frees_decide c (left c (es ++ f.before)).now f.event.seat f.event.step f.decides)

  split : calls_from c (left c es) f.before ++ (call_decided c at.now f.event ++ calls_from c
      (world_behind c at f.event) f.behind) ≡ entry_of 0 (Op.Free r) (Some a)
  unfolding calls_from
  split = grind (arith, calls_append)

  three : (calls_from c (left c es) f.before ≡ []) × (call_decided c at.now f.event ≡ entry_of 0 (Op.Free r) (Some a))
      × (calls_from c (world_behind c at f.event) f.behind ≡ [])
  three = one_of_three _ _ _ _ split decides

  first_decides : calls_from c (left c es) first ≡ entry_of 0 (Op.Free r) (Some a)
  unfolding calls_from
  first_decides = grind (arith, calls_append, three, append-nil)

  in_parts : es ++ more ≡ (es ++ first) ++ f.behind
  in_parts = ap (λ (l : List Event). es ++ l) f.is ∙ simp append_assoc

  mid_is : left c (es ++ first) ≡ world_behind c at f.event
  unfolding left_from
  mid_is = cc (append_assoc es f.before (f.event ∷ []), left_in_parts c (es ++ f.before) (f.event ∷ []), at_is)

  falls : greatest_from c (left c (es ++ first)) (weighed weight) f.behind
      ≡ weighed weight (left c (es ++ first)).allocations
  falls =
      falls_without_free weight c (left c (es ++ first)) f.behind
      (ap (λ (w : World). list_any is_free_call (calls_from c w f.behind)) mid_is ∙ ap (list_any is_free_call) three.2)

  pub most_of_late : MostWhereFreed weight c es (Op.Free r) (es ++ more)
  most_of_late =
      let done = most_of_free weight es first r a (earlier_part_is_history c (es ++ first) f.behind
      (subst (IsHistory c) in_parts whole)) first_decides (grind (arith, lacks_append, lacks_one, freeing_is)) in
      let parts = from-append c (weighed weight) (first_world c) (es ++ first) f.behind in
      let last = last_below c (weighed weight) (first_world c) (es ++ first) in
      let rest = falls in
      let same : greatest c (weighed weight) (es ++ more) ≡ greatest c (weighed weight) ((es ++ first) ++ f.behind) =
      ap (greatest c (weighed weight)) in_parts in
      omega arith

pub free_most : (weight : ℕ → ℕ) {c : Config} (es more : List Event) (r : ℕ) (a : Answer) → IsHistory c (es ++ more)
    → calls_from c (left c es) more ≡ entry_of 0 (Op.Free r) (Some a) → ReleasesLate c es more
    → MostWhereFreed weight c es (Op.Free r) (es ++ more)
free_most weight {c} es more r a whole one (inl none) = most_of_free weight es more r a whole one none
free_most weight {c} es more r a whole one (inr f) = most_of_late weight c es more r a whole one f
