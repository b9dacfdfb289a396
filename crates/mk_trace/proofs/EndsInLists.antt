-- What ends find in a list of events that has one cycle at most.
use Rattle.mk_trace.proofs.Vocabulary.{AreEnabledFrom, Config, EndsNone, EndsOne, EndsTell, Event, IsBetweenCycles}
use Rattle.mk_trace.proofs.Vocabulary.{LeavesAllocations, Step, World, ends, has_step, is_begin, is_end, is_grant}
use Rattle.mk_trace.proofs.Vocabulary.{is_of_cycle, left, lets_go, moves_phase, none_at, phase_of, world_behind, ⊎_elim}
use Rattle.mk_trace.proofs.FoundByEnds.{EndsOnce, FreesNoneFrom, Rests, ends-append, ends_once, found-append}
use Rattle.mk_trace.proofs.FoundByEnds.{found-none, frees_behind, frees_second, grows_by, is_over, no_end-cons, rests}
use Rattle.mk_trace.{proofs.FlagSteps.{releases_then, same_releases}, specs.Peaks.{found_by_ends_from}}
use Rattle.mk_heap.proofs.Below.Laws.Vocabulary.{Bool, List, ℕ, ap, append-nil, append_assoc, arith, cases_Bool}
use Rattle.mk_heap.proofs.Below.Laws.Vocabulary.{enabled_parts}
use Rattle.mk_heap.proofs.Below.Laws.Vocabulary.{false, inl, inr, left_append, left_in_parts, or_from, or_parts, refl}
use Rattle.mk_heap.proofs.Below.Laws.Vocabulary.{subst, sym}
use Rattle.mk_heap.proofs.Below.Laws.Vocabulary.{true, true≢false, [], ◌++◌, ◌||◌, ◌∙◌, ◌∷◌, ◌≡◌, ◌⊎◌}
use Rattle.mk_heap.proofs.Below.Laws.CyclePhases.{begin_is, phase_behind}
use Rattle.mk_core.specs.{Cycles.Next, History.left_from}
use Rattle.mk_heap.proofs.{Below.Objects.ListParts.{lacks_first, lacks_second}, Below.Objects.HeldTurns.next_of}
use Rattle.mk_heap.specs.Below.Objects.TurnCycles.{RunsOneCycle}

-- What lacks one kind lacks another, where each step of that is one of the first.
pub lacks_by : (kind other : Step → Bool) → ((x : Step) → kind x ≡ false → other x ≡ false) → (es : List Event)
    → has_step kind es ≡ false → has_step other es ≡ false
lacks_by kind other each [] none = refl
lacks_by kind other each (e ∷ es) none =
    let parts = or_parts (kind e.step) (has_step kind es) none in
    or_from (other e.step) (has_step other es) (each e.step parts.0) (lacks_by kind other each es parts.1)

-- the first event of a kind
pub first_at : (kind : Step → Bool) (es : List Event) → has_step kind es ≡ true → Next kind es
first_at kind es some = next_of kind es (λ none. true≢false (sym some ∙ none))

module _ (c : Config) (w : World) (xs : List Event) (b : Event) (ys : List Event)
    (on : AreEnabledFrom c w (xs ++ b ∷ ys)) (idle : phase_of w.now.words ≡ 0) (begins : is_begin b.step ≡ true)
    (none_before : has_step is_begin xs ≡ false) (none_behind : has_step is_begin ys ≡ false)
    (overs : has_step is_over (xs ++ b ∷ ys) ≡ false) where
  abbrev first : World
  first = left_from c w xs

  abbrev begun : World
  begun = world_behind c first b

  parts : AreEnabledFrom c w xs × AreEnabledFrom c first (b ∷ ys)
  parts = enabled_parts c w xs (b ∷ ys) on

  ruleset later_facts = (ends_once, or_parts, is_over, lacks_second, moves_phase, parts, phase_behind, begin_is)

  later : FreesNoneFrom c begun ys → has_step is_end ys ≡ true → EndsOnce c begun ys
  later frees ends_in = grind (arith, later_facts, begun, first)

  left_is : left_from c w (xs ++ b ∷ ys) ≡ left_from c begun ys
  unfolding left_from
  left_is = left_append c w xs (b ∷ ys)

  ruleset one_cycle_facts = (later, left_is, found-append, found-none, ends-append, no_end-cons, grows_by, lacks_first)

  -- A cycle begins in the list, and ends in it.
  pub one_cycle : FreesNoneFrom c begun ys → has_step is_end ys ≡ true → EndsOnce c w (xs ++ b ∷ ys)
  one_cycle frees ends_in = grind (arith, one_cycle_facts, first, rests, parts, is_over)

-- One part after another.

-- From one list to a longer one.

module _ (c : Config) (es more : List Event) where
  left_then : left c (es ++ more) ≡ left_from c (left c es) more
  left_then = left_in_parts c es more

  pub none_then : Rests c (left c es) more → EndsNone c es (es ++ more)
  none_then h = grind (arith, found-append, append-nil, ends-append, left_then)

  pub one_then : EndsOnce c (left c es) more → EndsOne c es (es ++ more)
  one_then h = grind (arith, found-append, ends-append, left_then)

  idle_then : phase_of (left_from c (left c es) more).now.words ≡ 0 → IsBetweenCycles c (es ++ more)
  idle_then h = ap (λ (x : World). phase_of x.now.words) left_then ∙ h

  module _ (on : AreEnabledFrom c (left c es) more) (overs : has_step is_over more ≡ false) where
    pub tells_none : has_step is_begin more ≡ false → EndsTell c es (es ++ more)
    tells_none none idle = grind (arith, rests, idle_then, none_then)

    -- No call is a Free.
    pub tells_ends : RunsOneCycle more → FreesNoneFrom c (left c es) more → EndsTell c es (es ++ more)
    unfolding left_from
    tells_ends one frees idle = ⊎_elim some none (cases_Bool (has_step is_begin more))
      where
        none : has_step is_begin more ≡ false
            → IsBetweenCycles c (es ++ more) × (EndsNone c es (es ++ more) ⊎ EndsOne c es (es ++ more))
        none lacks = tells_none lacks idle

        some : has_step is_begin more ≡ true
            → IsBetweenCycles c (es ++ more) × (EndsNone c es (es ++ more) ⊎ EndsOne c es (es ++ more))
        some has =
            let next = first_at is_begin more has in
            let b = next.at in
            let h : EndsOnce c (left c es) more =
            subst (EndsOnce c (left c es)) (sym b.is) (one_cycle c _ _ _ _ (subst (AreEnabledFrom c (left c es)) b.is
            on) idle b.of_kind next.none_before (one b).0 (sym (ap (has_step is_over) b.is) ∙ overs) (frees_behind c _ _
            _ (frees_second c _ _ (b.event ∷ b.behind) (subst (FreesNoneFrom c (left c es)) b.is frees))) (
            grind (arith, none_at))) in
            (idle_then h.phase, inr (one_then h))

-- A list in two parts, with no cycle in the first, and no Free in the second.
module _ (c : Config) (es xs ys : List Event) (on : AreEnabledFrom c (left c es) (xs ++ ys))
    (overs : has_step is_over (xs ++ ys) ≡ false) (none : has_step is_begin xs ≡ false) where
  parts_on : AreEnabledFrom c (left c es) xs × AreEnabledFrom c (left c (es ++ xs)) ys
  parts_on = grind (arith, parts, enabled_parts, left_in_parts)

  pub tells_behind_none : RunsOneCycle (xs ++ ys) → FreesNoneFrom c (left c (es ++ xs)) ys
      → EndsTell c es (es ++ (xs ++ ys))
  tells_behind_none one frees idle =
      let h = rests c (left c es) xs parts_on.0 idle none (lacks_first is_over xs ys overs) in
      let first = none_then c es xs h in
      let told = tells_ends c (es ++ xs) ys parts_on.1 (lacks_second is_over xs ys overs) (λ b. one (record {
        before = xs ++ b.before;
        event = b.event;
        behind = b.behind;
        is = ap (λ (l : List Event). xs ++ l) b.is ∙ sym (append_assoc xs b.before (b.event ∷ b.behind));
        of_kind = b.of_kind;
      })) frees (idle_then c es xs h.phase) in
      subst (λ (l : List Event). IsBetweenCycles c l × (EndsNone c es l ⊎ EndsOne c es l)) (append_assoc es xs ys) (
        told.0,
        ⊎_elim (λ (second : EndsNone c (es ++ xs) ((es ++ xs) ++ ys)). inl (grind (arith, releases_then)))
            (λ (second : EndsOne c (es ++ xs) ((es ++ xs) ++ ys)). inr (grind arith)) told.1,
      )

-- Steps that neither move a cycle on nor change allocations.

abbrev pub changes : Step → Bool
changes s = (is_grant s || lets_go s) || (is_of_cycle s || is_over s)

record Leaves (c : Config) (w : World) (es : List Event) : Type 0 where
  phase : phase_of (left_from c w es).now.words ≡ phase_of w.now.words
  found : found_by_ends_from c w es ≡ []
  count : ends es ≡ 0
  allocations : (left_from c w es).allocations ≡ w.allocations

no_end : (s : Step) → changes s ≡ false → is_end s ≡ false
no_end x0 h = grind arith

same_phase : (s : Step) (n : ℕ) → changes s ≡ false → phase_behind s n ≡ n
same_phase x0 n h = grind arith

same_allocations : (c : Config) (w : World) (e : Event) → changes e.step ≡ false
    → (world_behind c w e).allocations ≡ w.allocations
same_allocations c w e none = grind arith

leaves : (c : Config) (w : World) (es : List Event) → AreEnabledFrom c w es → has_step changes es ≡ false
    → Leaves c w es
unfolding left_from found_by_ends_from
leaves c w [] on none = record { phase = refl; found = refl; count = refl; allocations = refl }
leaves c w (e ∷ es) on none =
    let outs = or_parts (changes e.step) (has_step changes es) none in
    let moves = moves_phase c w e es on in
    let rest = leaves c (world_behind c w e) es moves.2 outs.1 in
    record {
      phase = rest.phase ∙ moves.1 ∙ same_phase e.step (phase_of w.now.words) outs.0;
      found = found-none c w e es (no_end e.step outs.0) ∙ rest.found;
      count = no_end-cons e es (no_end e.step outs.0) ∙ rest.count;
      allocations = rest.allocations ∙ same_allocations c w e outs.0;
    }

pub leaves_then : (c : Config) (es more : List Event) → AreEnabledFrom c (left c es) more
    → has_step changes more ≡ false → LeavesAllocations c es (es ++ more)
leaves_then c es more on none = grind (arith, leaves, left_in_parts, found-append, append-nil, ends-append)

-- One after the other.

pub leaves_twice : {c : Config} {es fs gs : List Event} → LeavesAllocations c es fs → LeavesAllocations c fs gs
    → LeavesAllocations c es gs
leaves_twice h g = grind arith

pub leaves_tell : {c : Config} {es fs : List Event} → LeavesAllocations c es fs → EndsTell c es fs
leaves_tell {c} {es} h idle = grind (arith, same_releases)
