-- What was freed since the last `begin` is a quarter, unless a free that is due waits for its `begin`.
use Rattle.mk_alloc.proofs.{Vocabulary.{FreesFirst, IsDue, IsDueIn}, QuarantineVocabulary.{Bool, Config, Event}}
use Rattle.mk_alloc.proofs.QuarantineVocabulary.{InFirst, InSecond, IsHistory, KeptByEvents, Lacks, List, OfHistories}
use Rattle.mk_alloc.proofs.QuarantineVocabulary.{PlacedAllocation, Step, World, ℕ, ap, append_assoc, arith, cases_Bool}
use Rattle.mk_alloc.proofs.QuarantineVocabulary.{cases_lt, decides_freed, false, flight_of, fresh_words_of, given_back}
use Rattle.mk_alloc.proofs.QuarantineVocabulary.{given_back_behind, has_step, held_by_allocations, holds_of_histories}
use Rattle.mk_alloc.proofs.QuarantineVocabulary.{if◌then◌else◌, inl, inr, is_begin, is_of_cycle, lacks_append, lacks_at}
use Rattle.mk_alloc.proofs.QuarantineVocabulary.{lacks_first, lacks_one, left, left_in_parts, left_more, not, stands}
use Rattle.mk_alloc.proofs.QuarantineVocabulary.{subst, sym, taken, true, true≢false, world_behind, [], ⊎_elim, ◌&&◌}
use Rattle.mk_alloc.proofs.QuarantineVocabulary.{◌*◌, ◌++◌, ◌+◌, ◌∙◌, ◌∷◌, ◌≡◌, ◌≤◌, ◌⊎◌}
use Rattle.mk_alloc.proofs.CountedWords.{IsQuarter, filtered_in_parts, given_more, none_fresh_begun, quarter_stays}
use Rattle.mk_alloc.proofs.EndedFrees.{CallersAreExact, EndedFree, ended_free}
use Rattle.mk_alloc.proofs.OpenFrees.{FreesNoneFrom, frees_none_at}
use Rattle.mk_alloc.specs.Bounds.{FreshIsQuarterWithGivenBack, QuarantineIsQuarterAndKept}
use Rattle.mk_alloc.specs.Bounds.{kept_mapped, quarantined_mapped}
use Rattle.mk_core.specs.History.{left_from}

-- A free is due, and no cycle was begun since.
pub record IsPending (c : Config) (es : List Event) : Type 0 where
  pub before : List Event
  pub event : Event
  pub behind : List Event
  pub is : es ≡ before ++ event ∷ behind
  pub due : IsDue c before event
  pub none : Lacks is_begin behind

pub pending_longer : {c : Config} {es : List Event} (e : Event) → is_begin e.step ≡ false → IsPending c es
    → IsPending c (es ++ e ∷ [])
pending_longer e none p = grind (arith, append_assoc, lacks_append, lacks_one)

-- An event that frees: it is a quarter after it, or the free is due.
pub freed_or_due : (c : Config) (es : List Event) (e : Event)
    → decides_freed c (left c es).now (flight_of (left c es).now e.seat) e.step ≡ true
    → IsQuarter c (world_behind c (left c es) e) 0 ⊎ IsPending c (es ++ e ∷ [])
freed_or_due c es e frees = elim (cases_lt (held_by_allocations c (world_behind c (left c es) e).allocations)
    (4 * fresh_words_of c (world_behind c (left c es) e).allocations)) [
      | inl lt ↦ grind (arith, left_more)
      | inr le ↦ inl (omega arith)
    ]

pub Quarters : Config → List Event → Type 0
Quarters c es = IsQuarter c (left c es) (given_back c es) ⊎ IsPending c es

to_longer : (c : Config) (es : List Event) (e : Event)
    → IsQuarter c (world_behind c (left c es) e) (given_back_behind c (left c es) e.step (given_back c es))
    → IsQuarter c (left c (es ++ e ∷ [])) (given_back c (es ++ e ∷ []))
to_longer c es e quarter = grind (arith, given_more, left_more)

quarters_kept : KeptByEvents Quarters
unfolding Quarters
quarters_kept c es e h (inl quarter) = elim (cases_Bool _) [
  | inl frees ↦
      ⊎_elim (λ (now : IsQuarter c (world_behind c (left c es) e) 0). inl (to_longer c es e (omega arith)))
      (λ (p : IsPending c (es ++ e ∷ [])). inr p) (freed_or_due c es e frees)
  | inr none ↦ inl (to_longer c es e (quarter_stays c (left c es) e.seat e.step (given_back c es) none quarter))
]
quarters_kept c es e h (inr p) = elim (cases_Bool (is_begin e.step)) [
  | inl begins ↦
      let stale = none_fresh_begun c (left c es) e.seat e.step begins in
      inl (to_longer c es e (omega arith))
  | inr none ↦ inr (pending_longer e none p)
]

quarters_first : (c : Config) → Quarters c []
unfolding Quarters left_from
quarters_first c = inl (omega arith)

pub quarters : OfHistories Quarters
quarters = holds_of_histories Quarters quarters_first quarters_kept

-- A due free of an ended turn has its `begin` in that turn.

module _ {on : Bool} {c : Config} {before : List Event} {e : Event} {behind : List Event}
    (f : EndedFree on c before e behind) where
  -- no cycle before the free, since a free of that turn is due before all that it does with cycles
  pub cycles_later : IsDueIn f.turn → Lacks is_of_cycle f.done
  cycles_later due =
      let first : FreesFirst f.turn = f.exact.first due in
      ⊎_elim (λ (s : InFirst f.done first.due.before first.due.event). absurd (twice first s))
      (λ (s : InSecond f.done (e ∷ f.more) first.due.before first.due.event first.due.behind). lacks_first is_of_cycle
      f.done s.rest (ap (λ (l : List Event). has_step is_of_cycle l) (sym s.first) ∙ first.no_cycle))
      (stands f.done (e ∷ f.more) first.due.before first.due.event first.due.behind (sym f.parts ∙ first.due.is))
    where
      twice : (first : FreesFirst f.turn) → InFirst f.done first.due.before first.due.event → ⊥
      twice first s =
          let start : List Event = f.turn.before ++ taken f.turn ∷ [] in
          let off = frees_none_at c (left c start) first.due.before first.due.event s.behind
          (subst (λ (l : List Event). FreesNoneFrom c (left c start) l) s.is f.none) in
          true≢false (sym first.due.due.decides ∙ ap (λ (w : World). decides_freed c w.now (flight_of w.now
          first.due.event.seat) first.due.event.step) (sym (sym (left_in_parts c start first.due.before) ∙ ap
          (λ (l : List Event). left c l) (append_assoc f.turn.before (taken f.turn ∷ []) first.due.before))) ∙ off)

pub begin_is_of_cycle : (x : Step) → is_begin x ≡ true → is_of_cycle x ≡ true
begin_is_of_cycle x1 is = grind arith

-- So a free isn't pending where the turn is free.
pub none_pending : (on : Bool) {c : Config} {es : List Event} → IsHistory c es → CallersAreExact on c es
    → (left c es).now.words.turn ≡ 0 → IsPending c es → ⊥
none_pending on {c = c} {es = es} h exact free p =
    let f = ended_free on c es p.before p.event p.behind h exact free p.is p.due.decides in
    let due : IsDueIn f.turn = record {
      before = f.done;
      event = p.event;
      behind = f.more;
      is = f.parts;
      due = subst (λ (l : List Event). IsDue c l p.event) f.first p.due;
    } in
    let b = f.exact.begins.1 due in
    let none : Lacks is_begin f.more =
    lacks_first is_begin f.more f.rest (ap (λ (l : List Event). has_step is_begin l) (sym f.is) ∙ p.none) in
    ⊎_elim (λ (s : InFirst f.done b.before b.event). lacks_at is_of_cycle f.done b.before b.event s.behind
    (cycles_later f due) s.is (begin_is_of_cycle b.event.step b.of_kind))
    (λ (s : InSecond f.done (p.event ∷ f.more) b.before b.event b.behind). by b.event b.behind b.of_kind f.more none
    s.rest s.is) (stands f.done (p.event ∷ f.more) b.before b.event b.behind (sym f.parts ∙ b.is))
  where
    by : (begin : Event) (behind : List Event) → is_begin begin.step ≡ true → (more : List Event) → Lacks is_begin more
        → (rest : List Event) → p.event ∷ more ≡ rest ++ begin ∷ behind → ⊥
    by begin behind begins more none [] is = grind arith
    by begin behind begins more none (y ∷ ys) is =
        let tail : more ≡ ys ++ begin ∷ behind = cc in
        lacks_at is_begin more ys begin behind none tail begins

pub fresh_is_quarter : (on : Bool) {c : Config} {es : List Event} → IsHistory c es → CallersAreExact on c es
    → (left c es).now.words.turn ≡ 0 → FreshIsQuarterWithGivenBack c es
unfolding Quarters
fresh_is_quarter on {c = c} {es = es} h exact free =
    ⊎_elim (λ (quarter : IsQuarter c (left c es) (given_back c es)). quarter)
    (λ (p : IsPending c es). absurd (none_pending on h exact free p)) (quarters c es h)

-- All that quarantine holds in memory is fresh, or was freed before the last `begin`.

fresh_or_kept : (n : ℕ) (mapped freed fresh : Bool) → (if mapped && freed then n else 0)
    ≤ (if mapped && fresh then n else 0) + (if mapped && freed && not fresh then n else 0)
fresh_or_kept n mapped freed fresh = grind arith

pub quarantined_is_fresh_or_kept : (c : Config) (xs : List PlacedAllocation)
    → quarantined_mapped c xs ≤ fresh_words_of c xs + kept_mapped c xs
quarantined_is_fresh_or_kept c xs = search (filtered_in_parts, fresh_or_kept)

pub quarantine_is_quarter_and_kept : (on : Bool) {c : Config} {es : List Event} → IsHistory c es
    → CallersAreExact on c es → (left c es).now.words.turn ≡ 0 → QuarantineIsQuarterAndKept c es
quarantine_is_quarter_and_kept on {c = c} {es = es} h exact free =
    omega (arith, fresh_is_quarter on h exact free, quarantined_is_fresh_or_kept c (left c es).allocations)
