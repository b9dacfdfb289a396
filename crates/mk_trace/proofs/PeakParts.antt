-- The greatest measure over a history: over its beginnings, and in two parts.
use Rattle.mk_trace.proofs.Vocabulary.{Config, Event, PlacedAllocation, Step, World, first_world, greatest, has_step}
use Rattle.mk_trace.proofs.Vocabulary.{is_grant, left, lets_go, max, nat_tests, world_behind, ⊎_elim}
use Rattle.mk_heap.proofs.Below.Laws.Vocabulary.{Bool, List, ℕ, ap, arith, cases_Bool, false, left_in_parts, nat_le}
use Rattle.mk_heap.proofs.Below.Laws.Vocabulary.{or_parts}
use Rattle.mk_heap.proofs.Below.Laws.Vocabulary.{refl, subst, sym, true, [], ◌++◌, ◌∙◌, ◌∷◌, ◌≡◌, ◌≤◌}
use Rattle.mk_core.specs.History.{left_from}
use Rattle.mk_heap.proofs.Below.Objects.GrantParts.{LastIn}
use Rattle.mk_trace.specs.{Playing.IsGreatest, Peaks.greatest_from}

-- The greatest measure over a history in two parts.

module _ (c : Config) (measure : List PlacedAllocation → ℕ) where
  pub first_below : (w : World) (es : List Event) → measure w.allocations ≤ greatest_from c w measure es
  unfolding greatest_from
  first_below w [] = omega arith
  first_below w (e ∷ es) = omega arith

  pub last_below : (w : World) (es : List Event) → measure (left_from c w es).allocations ≤ greatest_from c w measure es
  unfolding greatest_from left_from
  last_below w [] = omega arith
  last_below w (e ∷ es) = omega (arith, last_below (world_behind c w e) es)

  pub from-append : (w : World) (xs ys : List Event) → greatest_from c w measure (xs ++ ys)
      ≡ max (greatest_from c w measure xs) (greatest_from c (left_from c w xs) measure ys)
  unfolding greatest_from left_from
  from-append w [] ys = omega (arith, first_below w ys)
  from-append w (e ∷ xs) ys = omega (arith, from-append (world_behind c w e) xs ys)

-- Peaks are over all beginnings of a history.

module _ (c : Config) (measure : List PlacedAllocation → ℕ) where
  above : (w : World) (before behind : List Event)
      → measure (left_from c w before).allocations ≤ greatest_from c w measure (before ++ behind)
  unfolding left_from greatest_from
  above w [] [] = omega arith
  above w [] (e ∷ behind) = omega arith
  above w (e ∷ before) behind = omega (arith, above (world_behind c w e) before behind)

  record ReachedFrom (w : World) (es : List Event) (n : ℕ) : Type 0 where
    before : List Event
    behind : List Event
    is : es ≡ before ++ behind
    same : n ≡ measure (left_from c w before).allocations

  reached_first : (w : World) (e : Event) (es : List Event) (first later : ℕ) (at_first : Bool)
      → nat_le later first ≡ at_first → first ≡ measure w.allocations → ReachedFrom (world_behind c w e) es later
      → ReachedFrom w (e ∷ es) (max first later)
  unfolding left_from
  reached_first w e es first later true test is behind = grind (arith, nat_tests)
  reached_first w e es first later false test is behind =
      let over : first ≤ later = grind (arith, nat_tests, test) in
      record {
        before = e ∷ behind.before;
        behind = behind.behind;
        is = ap (λ rest. e ∷ rest) behind.is;
        same = omega (arith, over, behind.same);
      }

  reached : (w : World) (es : List Event) → ReachedFrom w es (greatest_from c w measure es)
  unfolding left_from greatest_from
  reached w [] = record { before = []; behind = []; is = refl; same = refl }
  reached w (e ∷ es) =
      let later = greatest_from c (world_behind c w e) measure es in
      reached_first w e es (measure w.allocations) later (nat_le later (measure w.allocations)) refl refl
      (reached (world_behind c w e) es)

  pub is_greatest : (es : List Event) → IsGreatest c measure es (greatest c measure es)
  is_greatest es =
      let r = reached (first_world c) es in
      record {
        reached = record { before = r.before; behind = r.behind; is = r.is; same = r.same };
        above = λ before behind is. subst (λ (all : List Event). measure (left_from c (first_world c)
            before).allocations ≤ greatest c measure all) (sym is) (above (first_world c) before behind);
      }

-- The greatest measure over a history in two parts, where a grant alone makes the measure more, and what lets storage
-- go alone makes it less.

module _ (c : Config) (measure : List PlacedAllocation → ℕ) where
  -- what a world has, what it has after more events, and what it has at most on the way

  abbrev has : World → ℕ
  has w = measure w.allocations

  abbrev most : World → List Event → ℕ
  most w es = greatest_from c w measure es

  -- Where no event makes it more, the most was at the first.
  pub falls_by : (None : World → List Event → Type 0) → ((w : World) (e : Event) (es : List Event) → None w (e ∷ es)
      → (has (world_behind c w e) ≤ has w) × None (world_behind c w e) es)
      → (w : World) (es : List Event) → None w es → most w es ≡ has w
  unfolding greatest_from
  falls_by None parts w [] none = refl
  falls_by None parts w (e ∷ es) none =
      let both = parts w e es none in
      omega (arith, both.0, falls_by None parts (world_behind c w e) es both.1)

  -- Where none makes it less, it is at the end.
  pub rises_by : (kind : Step → Bool)
      → ((w : World) (e : Event) → kind e.step ≡ false → has w ≤ has (world_behind c w e))
      → (w : World) (es : List Event) → has_step kind es ≡ false → most w es ≡ has (left_from c w es)
  unfolding greatest_from left_from
  rises_by kind rises_at w [] none = refl
  rises_by kind rises_at w (e ∷ es) none =
      let parts = or_parts (kind e.step) (has_step kind es) none in
      let rest = rises_by kind rises_at (world_behind c w e) es parts.1 in
      omega (arith, rises_at w e parts.0, rest, first_below c measure (world_behind c w e) es)

  module _ (falls_at : (w : World) (e : Event) → is_grant e.step ≡ false → has (world_behind c w e) ≤ has w)
      (rises_at : (w : World) (e : Event) → lets_go e.step ≡ false → has w ≤ has (world_behind c w e)) where
    falls : (w : World) (es : List Event) → has_step is_grant es ≡ false → most w es ≡ has w
    falls w es none = falls_by (λ w es. has_step is_grant es ≡ false) (λ w e es none.
        let parts = or_parts (is_grant e.step) (has_step is_grant es) none in (falls_at w e parts.0, parts.1)) w es none

    rises : (w : World) (es : List Event) → has_step lets_go es ≡ false → most w es ≡ has (left_from c w es)
    rises w es none = rises_by lets_go rises_at w es none

    -- Where neither is, the measure stays.
    pub stays : (w : World) (es : List Event) → has_step is_grant es ≡ false → has_step lets_go es ≡ false
        → has (left_from c w es) ≡ has w
    stays w es grants lets = sym (rises w es lets) ∙ falls w es grants

    by_first : (w : World) (e : Event) (es : List Event)
        → most (world_behind c w e) es ≡ max (has (world_behind c w e)) (has (left_from c (world_behind c w e) es))
        → LastIn (e ∷ es) → most w (e ∷ es) ≡ max (has w) (has (left_from c w (e ∷ es)))
    unfolding greatest_from left_from
    by_first w e es rest last =
        ⊎_elim (λ (is : is_grant e.step ≡ true). (let one = rises_at w e (grind arith) in
        let later = rises (world_behind c w e) es (
        last (record { before = []; event = e; behind = es; is = refl; of_kind = is })) in
        let below = first_below c measure (world_behind c w e) es in
        omega arith)) (λ (none : is_grant e.step ≡ false). (let one = falls_at w e none in omega arith))
        (cases_Bool (is_grant e.step))

    -- Where grants are last, the most is at the first or at the end.
    at_ends : (w : World) (es : List Event) → LastIn es → most w es ≡ max (has w) (has (left_from c w es))
    unfolding greatest_from left_from
    at_ends w [] last = omega arith
    at_ends w (e ∷ es) last = by_first w e es (at_ends (world_behind c w e) es (λ g. last (record {
      before = e ∷ g.before;
      event = g.event;
      behind = g.behind;
      is = ap (λ (l : List Event). e ∷ l) g.is;
      of_kind = g.of_kind;
    }))) last

    -- With more events, of which grants are last, the most was before, or is at the end.
    pub most_then : (es more : List Event) → LastIn more
        → greatest c measure (es ++ more) ≡ max (greatest c measure es) (has (left c (es ++ more)))
    most_then es more last =
        let parts = from-append c measure (first_world c) es more in
        let ends = at_ends (left c es) more last in
        let below = last_below c measure (first_world c) es in
        let same : has (left c (es ++ more)) ≡ has (left_from c (left c es) more) = ap has (left_in_parts c es more) in
        omega arith

    -- With more events that grant nothing it is the same.
    pub no_more : (es more : List Event) → has_step is_grant more ≡ false
        → greatest c measure (es ++ more) ≡ greatest c measure es
    no_more es more none = grind (arith, from-append, falls, last_below)
