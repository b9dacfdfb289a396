-- What is freed and quarantined over a call of the caller, and all that the call does.
use Rattle.mk_trace.proofs.Vocabulary.{Answer, AreLater, CallerIsHome, Calls, Config, Event, FlagsBehind}
use Rattle.mk_trace.proofs.Vocabulary.{FlagsBehindCall, HostState, IsHistory, NeverState, Op, PassState}
use Rattle.mk_trace.proofs.Vocabulary.{PlacedAllocation, QuarantinesMostWhereFreed, Step, WordsState, World, after_free}
use Rattle.mk_trace.proofs.Vocabulary.{allocation_at, calls_from, entry_of, exists_placed, has_step, is_begin}
use Rattle.mk_trace.proofs.Vocabulary.{is_of_cycle, is_release, is_under_turn, lacks_append, left, never_behind}
use Rattle.mk_trace.proofs.Vocabulary.{none_at, number_freed, placed_at, reach_is_kept, register_at, unflagged}
use Rattle.mk_trace.proofs.{Vocabulary.world_behind, EndsInLists.{first_at, lacks_by}}
use Rattle.mk_trace.proofs.FlagSteps.{is_freed_behind, is_freed_there, later_left, others_kept, points_there, twins}
use Rattle.mk_trace.proofs.{FlagSteps.was_unfreed, FreeCalls.{flagged_free, is_free_call}}
use Rattle.mk_trace.proofs.FreedMost.{FreesBefore, MostWhereFreed, ReleasesLate, free_most, no_more_without_free}
use Rattle.mk_trace.proofs.FreedWords.{large_weight, quarantined_is, reserved_is, storage_weight, weighed}
use Rattle.mk_trace.proofs.JoinedCalls.{InTurn, Joined, acts, before, before_lacks, beside_leaves, called, decided}
use Rattle.mk_trace.proofs.JoinedCalls.{ends_told, exact, held_at_end, in_parts, last, whole}
use Rattle.mk_trace.proofs.{FoundByEnds.none_freed_from, OneCaller.callers_at_home, OwnPieces.within_is}
use Rattle.mk_heap.proofs.Below.Laws.Vocabulary.{Bool, List, Some, ℕ, ap, append_assoc, arith, cases_Bool}
use Rattle.mk_heap.proofs.Below.Laws.Vocabulary.{earlier_part_is_history}
use Rattle.mk_heap.proofs.Below.Laws.Vocabulary.{false, inl, inr, left_in_parts, length, never_in_parts, refl, subst}
use Rattle.mk_heap.proofs.Below.Laws.Vocabulary.{sym, true}
use Rattle.mk_heap.proofs.Below.Laws.Vocabulary.{[], ◌*◌, ◌++◌, ◌+◌, ◌<◌, ◌∙◌, ◌∷◌, ◌≡◌}
use Rattle.mk_never.specs.Laws.IsReachable.{by_register}
use Rattle.mk_heap.specs.Below.Objects.TurnCycles.{FreeIsExact, FreesFirst, IsDueIn}
use Rattle.mk_trace.specs.{Peaks.greatest_from, Calls.DoesCall}

-- What a call does to the flags of allocations: its operation frees one, or none.

module _ (c : Config) (es more : List Event) (whole : IsHistory c (es ++ more)) where
  abbrev xs : List PlacedAllocation
  xs = (left c es).allocations

  abbrev ys : List PlacedAllocation
  ys = (left c (es ++ more)).allocations

  later : AreLater xs ys
  later =
      subst (λ (w : World). AreLater xs w.allocations) (sym (left_in_parts c es more)) (later_left c (left c es) more)

  pub flags_behind : (o : Op) (a : Answer) → calls_from c (left c es) more ≡ entry_of 0 o (Some a)
      → FlagsBehind xs ys (number_freed (never_behind c es) o)
  flags_behind (Op.Free r) a one = let n : NeverState = never_behind c es in
      let v = register_at n 0 r in
      let before = earlier_part_is_history c es more whole in
      let never : never_behind c (es ++ more) ≡ after_free n v = grind (arith, never_in_parts, es) in
      let there : (i : ℕ) → (placed_at ys i).freed ≡ (allocation_at (after_free n v) i).freed =
      λ i. is_freed_there whole i ∙ ap (λ (m : NeverState). (allocation_at m i).freed) never in
      record {
        later = later;
        kept = λ i out. there i ∙ others_kept n v i out ∙ sym (is_freed_there before i);
        frees = λ i is. (let unreleased : (placed_at xs i).released ≡ false =
            reach_is_kept c es before i (by_register (8 * 0 + r) i (points_there n v i is)) in
            let lt : i < length xs = exists_placed xs i unreleased in
            record {
              exists = lt;
              unreleased = unreleased;
              before = is_freed_there before i ∙ was_unfreed n v i is;
              behind = there i ∙ is_freed_behind n v i is (omega (arith, lt, (twins before).count));
            });
      }
  flags_behind o a one = grind (arith, later, left_in_parts, es, none_freed_from, is_free_call, flagged_free)

-- What is seen of a Free's call: where something is released, an event before that frees.

release_of_cycle : (s : Step) → is_of_cycle s ≡ false → is_release s ≡ false
release_of_cycle x0 h = grind arith

module _ {on : Bool} {h : HostState} {o : Op} {told : Answer} {q : PassState} {fs : List Event}
    (j : Joined on h o told q fs) (r : ℕ) (turn : InTurn j (Op.Free r)) where
  abbrev config : Config
  config = h.pass.table.config

  abbrev prior : List Event
  prior = before j (Op.Free r) turn

  abbrev part : List Event
  part = acts j (Op.Free r) turn

  abbrev give : List Event
  give = last j (Op.Free r) turn

  is_exact : FreeIsExact on turn.ends.turn
  is_exact = exact j (Op.Free r) turn

  releases_none : (es : List Event) → has_step is_of_cycle es ≡ false → has_step is_release es ≡ false
  releases_none es none = lacks_by is_of_cycle is_release release_of_cycle es none

  none_prior : has_step is_release prior ≡ false
  none_prior = before_lacks j (Op.Free r) turn is_release (λ y. refl)

  frees_before : FreesFirst turn.ends.turn → FreesBefore config h.pass.seen j.own.more
  frees_before first =
      let d = first.due in
      record {
        before = prior ++ d.before;
        event = d.event;
        behind = d.behind ++ give;
        is = in_parts j (Op.Free r) turn ∙ ap (λ (l : List Event). prior ++ (l ++ give)) d.is ∙ simp append_assoc;
        none_before = lacks_append is_release prior d.before none_prior (releases_none d.before first.no_cycle);
        decides = cc (within_is turn d.before, d.due.decides);
      }

  -- A cycle begins in the turn, after what frees, or nothing is released.
  pub releases_late : ReleasesLate config h.pass.seen j.own.more
  releases_late = elim (cases_Bool (has_step is_begin part)) [
    | inl begins ↦ inr (frees_before (is_exact.first (is_exact.begins.0 (first_at is_begin part begins).at)))
    | inr none ↦
        inl (ap (has_step is_release) (in_parts j (Op.Free r) turn) ∙ lacks_append is_release prior
        (part ++ give) none_prior (lacks_append is_release part give (releases_none part
        (is_exact.undue (λ (due : IsDueIn turn.ends.turn). none_at is_begin part none (is_exact.begins.1 due)))) refl))
  ]

-- What is quarantined over a call of the caller: the most is that before, or where a Free has freed its object.

-- Measures that agree on all lists of allocations have one maximum.

greatest_alike : (c : Config) (f g : List PlacedAllocation → ℕ) → ((xs : List PlacedAllocation) → f xs ≡ g xs)
    → (w : World) (es : List Event) → greatest_from c w f es ≡ greatest_from c w g es
unfolding greatest_from
greatest_alike c f g same w [] = same w.allocations
greatest_alike c f g same w (e ∷ es) = cc (same w.allocations, greatest_alike c f g same (world_behind c w e) es)

quarantines_most : (c : Config) (es : List Event) (o : Op) (fs : List Event)
    → ((weight : ℕ → ℕ) → MostWhereFreed weight c es o fs) → QuarantinesMostWhereFreed c es o fs
quarantines_most c es o fs most =
    grind (arith, storage_weight, quarantined_is, large_weight, reserved_is, greatest_alike, weighed)

module _ {on : Bool} {h : HostState} {o : Op} {told : Answer} {q : PassState} {fs : List Event}
    (j : Joined on h o told q fs) where
  abbrev c : Config
  c = h.pass.table.config

  abbrev es : List Event
  es = h.pass.seen

  most_by : (weight : ℕ → ℕ) (x : Op) (said : Answer) → (is_under_turn x ≡ true → InTurn j (unflagged x))
      → calls_from c (left c es) j.own.more ≡ entry_of 0 x (Some said) → MostWhereFreed weight c es x (es ++ j.own.more)
  most_by weight (Op.Free r) said in_turn one =
      free_most weight es j.own.more r said (whole j) one (releases_late j r (in_turn refl))
  most_by weight x said in_turn one = no_more_without_free weight c es j.own.more x said one refl

  pub quarantined_meanwhile : Calls c es o told fs → QuarantinesMostWhereFreed c es o fs
  quarantined_meanwhile made =
      subst (QuarantinesMostWhereFreed c es o) (sym j.own.is) (quarantines_most c es o (es ++ j.own.more)
      (λ weight. most_by weight o made.answer j.answers.in_turn (decided j made)))

  pub flagged_behind : Calls c es o told fs → FlagsBehindCall c es o fs
  flagged_behind made =
      subst (FlagsBehindCall c es o) (sym j.own.is)
      (flags_behind c es j.own.more (whole j) o made.answer (decided j made))

-- All that a call of the one caller does.
pub call_does : {on : Bool} {h : HostState} {o : Op} {told : Answer} {q : PassState} {fs : List Event}
    (w : WordsState) → CallerIsHome w h → Joined on h o told q fs → DoesCall on w.config h.pass.seen o told fs
call_does {on} {h} {o} {told} {q} {fs} w home j =
    let made = called j (callers_at_home home) in
    subst (λ (x : WordsState). DoesCall on x.config h.pass.seen o told fs) home.table (record {
      calls = made;
      held = held_at_end j made;
      ends = λ off. ends_told j off made;
      beside = beside_leaves j;
      quarantines = quarantined_meanwhile j made;
      flags = flagged_behind j made;
    })
