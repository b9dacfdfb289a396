-- What the tallies count: before each `give`, and while nobody holds the turn.
use Rattle.std.proofs.lemmas.List.Sums.{sum_by_push}
use Rattle.mk_laws.proofs.Vocabulary.{Bool, Config, Event, Flight, IsHistory, IsSettled, IsTidy, List, Moment}
use Rattle.mk_laws.proofs.Vocabulary.{OfHistories, PlacedAllocation, Seat, Step, TalliesAreTidy, Words, World, ℕ}
use Rattle.mk_laws.proofs.Vocabulary.{and_parts, ap, append_assoc, arith, calls_from, ends, eqb-true, false}
use Rattle.mk_laws.proofs.Vocabulary.{false_from_ne_true, first_world, flight_of, fresh_words_of, held_by_pages}
use Rattle.mk_laws.proofs.Vocabulary.{histories_keep_lengths, in_a_word, is_decided, is_run_gone, is_undecided_new}
use Rattle.mk_laws.proofs.Vocabulary.{left, left_from, left_more, ne_eqb, refl, subst, sym, true, true≢false}
use Rattle.mk_laws.proofs.Vocabulary.{undecided_new, unreleased_storage, world_behind, [], ◌++◌, ◌==◌, ◌∙◌, ◌∷◌}
use Rattle.mk_laws.proofs.{Vocabulary.{◌≡◌, ◌≤◌, ◌⊎◌}, Basics.{Before, KeptByEvents, Known, Meets, before_it}}
use Rattle.mk_laws.proofs.Basics.{holds_of_histories, known_left, known_world, placed_undecided}
use Rattle.mk_laws.proofs.InvariantHistories.{histories_keep_the_invariant, pages_show_the_storage, told_to_layout}
use Rattle.mk_laws.proofs.{OthersCounts.{entry_fulls, fulls_append, fulls_of}, TallySteps.{CountsNothing, Gives}}
use Rattle.mk_laws.proofs.TallySteps.{Leaves, Takes, TurnStep, give_counts_nothing, others_count_nothing, turn_step}
use Rattle.mk_laws.proofs.{Actors.give_phase, FreshWords.{FreshTold, fresh_told_behind}, LayoutHistories.known_before}
use Rattle.mk_laws.proofs.{LayoutHolders.giver_has_turn, Settled.gone_is_unmapped}
use Rattle.mk_geom.proofs.HeldWords.{pages_hold_mapped_words}
use Rattle.mk_core.{proofs.Histories.{calls_more}, specs.Readings.{TalliesTell}}
use Rattle.mk_core.specs.{Allocations.held_by_allocations, Counts.{TalliesAreExact, full_answers, releases}}
use Rattle.mk_laws.specs.WordLaws.{TalliesAreExactAtGives}

-- The fresh count of the moment is that of the allocations, after every history.

abbrev pub FreshIsTold : Config → List Event → Type 0
FreshIsTold c es = FreshTold c (left c es)

world_before : {c : Config} {es : List Event} → IsHistory c es → Before c (left c es)
world_before {c} {es} h =
    let all = histories_keep_the_invariant c es h in
    let others = told_to_layout c (left c es) _ (known_world c es h.within_limits h.enabled) all in
    let known = known_left c es h.within_limits h.enabled in
    known_before h.within_limits (histories_keep_lengths c es) known others all.order.quarantined

fresh_kept : KeptByEvents FreshIsTold
fresh_kept c es e h told =
    let here = before_it c (es ++ e ∷ []) es e [] h refl in
    let order = (histories_keep_the_invariant c es here.0).order in
    subst (FreshTold c) (sym (left_more c (first_world c) es e))
    (fresh_told_behind e.seat e.step (world_before here.0) here.1 order told)

fresh_at_first : (c : Config) → FreshIsTold c []
unfolding left_from
fresh_at_first c = refl

pub fresh_is_told : OfHistories FreshIsTold
fresh_is_told = holds_of_histories FreshIsTold fresh_at_first fresh_kept

-- At a `give` nothing is on its way.

decided_no_new : (f : Flight) → is_decided f.stage ≡ true → is_undecided_new f ≡ true → ⊥
decided_no_new f decided new = true≢false (sym decided ∙ ap is_decided (undecided_new f new).stage)

giving : (phase : ℕ) → (phase ≤ 1) ⊎ (phase ≡ 5) → (phase == 4) ≡ false
giving phase h = grind (arith, ne_eqb)

exact_at_give : {c : Config} {es : List Event} (seat : Seat) → IsHistory c es → Meets c (left c es).now seat Step.Give
    → TalliesAreExact c es
exact_at_give {c} {es} seat h meets =
    let m : Moment = (left c es).now in
    let f : Flight = flight_of m seat in
    let known : Known c m = known_left c es h.within_limits h.enabled in
    let held : Bool = m.words.held == held_by_pages m.words in
    let b = and_parts _ held (and_parts _ _ meets.holder).0 in
    let d = and_parts _ (is_run_gone m.words m.seats.holding.freed) b.0 in
    let settled : IsSettled (left c es) = record {
      releasing = giving _ (give_phase _ meets.phase);
      placing = false_from_ne_true _
          (λ has. decided_no_new f d.0 (placed_undecided c m seat known (giver_has_turn c m seat known meets) has));
      unmapped = gone_is_unmapped m.words m.seats.holding.freed d.1;
    } in
    grind (arith, pages_show_the_storage, eqb-true, pages_hold_mapped_words, and_parts, fresh_is_told)

pub tallies_are_exact_at_gives : OfHistories TalliesAreExactAtGives
tallies_are_exact_at_gives c es h before e behind is gives =
    let here = before_it c es before e behind h is in
    exact_at_give e.seat here.0 (subst (Meets c (left c before).now e.seat) gives here.1)

-- An event that counts nothing leaves the tallies exact and tidy.
module _ (c : Config) (es : List Event) (e : Event) (nothing : CountsNothing c (left c es) e) where
  more : left c (es ++ e ∷ []) ≡ world_behind c (left c es) e
  more = left_more c (first_world c) es e

  tally : (word : Words → ℕ) (n : ℕ) → word (world_behind c (left c es) e).now.words ≡ word (left c es).now.words
      → word (left c es).now.words ≡ n → word (left c (es ++ e ∷ [])).now.words ≡ n
  tally word n same is = ap (λ (w : World). word w.now.words) more ∙ same ∙ is

  same_allocations : (left c es).allocations ≡ (left c (es ++ e ∷ [])).allocations
  same_allocations = sym (ap (λ (w : World). w.allocations) more ∙ nothing.alike.allocations)

  pub same_ends : ends es ≡ ends (es ++ e ∷ [])
  same_ends = grind (arith, sum_by_push)

  pub same_fulls : full_answers c es ≡ full_answers c (es ++ e ∷ [])
  same_fulls = grind (arith, fulls_of, entry_fulls, calls_more, fulls_append)

  pub exact_more : TalliesAreExact c es → TalliesAreExact c (es ++ e ∷ [])
  exact_more exact = record {
    held = tally (λ (w : Words). w.held) _ nothing.alike.tallies.held exact.held
        ∙ ap (λ (xs : List PlacedAllocation). held_by_allocations c xs) same_allocations;
    fresh = tally (λ (w : Words). w.fresh) _ nothing.alike.tallies.fresh exact.fresh
        ∙ ap (λ (xs : List PlacedAllocation). in_a_word (fresh_words_of c xs)) same_allocations;
  }

  pub counts_tidy_more : TalliesAreTidy c es → TalliesAreTidy c (es ++ e ∷ [])
  counts_tidy_more tidy = record {
    cycles = tally (λ (w : Words). w.cycles) _ nothing.alike.tallies.cycles tidy.cycles ∙ ap in_a_word same_ends;
    released = tally (λ (w : Words). w.released) _ nothing.alike.tallies.released tidy.released
        ∙ ap (λ (xs : List PlacedAllocation). in_a_word (releases xs)) same_allocations;
    full = tally (λ (w : Words). w.full) _ nothing.alike.tallies.full tidy.full ∙ ap in_a_word same_fulls;
  }

-- the earlier part of a tidy list is tidy
tidy_before : (c : Config) (es : List Event) (e : Event) → IsTidy c (es ++ e ∷ []) → IsTidy c es
tidy_before c es e tidy before g behind is gives = tidy before g (behind ++ e ∷ [])
    (ap (λ (xs : List Event). xs ++ e ∷ []) is ∙ append_assoc before (g ∷ behind) (e ∷ [])) gives

abbrev ExactAndTidy : Config → List Event → Type 0
ExactAndTidy c es = TalliesAreExact c es × (IsTidy c es → TalliesAreTidy c es)

told_behind : {c : Config} {es : List Event} (e : Event) → IsHistory c es → Meets c (left c es).now e.seat e.step
    → TalliesTell c es → TurnStep e.step (left c es).now.words.turn (world_behind c (left c es) e).now.words.turn
    → (world_behind c (left c es) e).now.words.turn ≡ 0 → ExactAndTidy c (es ++ e ∷ [])
told_behind e h meets tells (Takes held) free = absurd (held free)
told_behind {c} {es} e h meets tells (Gives is) free =
    let nothing = give_counts_nothing c (left c es) e is in
    let exact = exact_at_give e.seat h (subst (Meets c (left c es).now e.seat) is meets) in
    (exact_more c es e nothing exact, λ tidy. counts_tidy_more c es e nothing (tidy es e [] refl is))
told_behind {c} {es} e h meets tells (Leaves same) free =
    let was : (left c es).now.words.turn ≡ 0 = sym same ∙ free in
    let nothing = others_count_nothing c (left c es) e (known_left c es h.within_limits h.enabled) meets was in
    let told = tells was in
    (exact_more c es e nothing told.0, λ tidy. counts_tidy_more c es e nothing (told.1 (tidy_before c es e tidy)))

tells_at_first : (c : Config) → TalliesTell c []
unfolding left_from calls_from unreleased_storage
tells_at_first c free =
    (record { held = refl; fresh = refl }, λ tidy. record { cycles = refl; released = refl; full = refl })

tells_kept : KeptByEvents TalliesTell
tells_kept c es e h tells free =
    let here = before_it c (es ++ e ∷ []) es e [] h refl in
    grind (arith, told_behind, turn_step, left_more)

pub tallies_tell : OfHistories TalliesTell
tallies_tell = holds_of_histories TalliesTell tells_at_first tells_kept
