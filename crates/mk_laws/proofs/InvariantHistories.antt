-- The invariant, over one event and over all histories, and the theorems, from it after each front of a history.
use Rattle.mk_laws.proofs.Vocabulary.{AreAdmitted, AreEnabledFrom, Config, Decided, Event, ImagePremisesAlong}
use Rattle.mk_laws.proofs.Vocabulary.{ImagesSay, Invariant, IsEnabled, IsHistory, KeepsTheInvariant, LayoutPremises}
use Rattle.mk_laws.proofs.Vocabulary.{List, MeetsAll, NeverState, OfHistories, Step, World, admitted_in_parts}
use Rattle.mk_laws.proofs.Vocabulary.{append-nil, asked, call_decided, calls_from, earlier_part_is_history}
use Rattle.mk_laws.proofs.Vocabulary.{enabled_in_parts, enabled_meets, eqb-true, left, left_from, left_in_parts}
use Rattle.mk_laws.proofs.Vocabulary.{never_behind, never_in_parts, same_Some, subst, sym, true≢false, word_points}
use Rattle.mk_laws.proofs.Vocabulary.{world_behind, [], ◌++◌, ◌∙◌, ◌∷◌, ◌≡◌}
use Rattle.mk_laws.proofs.GuardHistories.{close_finds_marks_closed, marking_guards, marks_at_first, marks_behind}
use Rattle.mk_laws.proofs.{GuardHistories.stopped_marks_are_closed, ImagesHistories.{first_mirrors, histories_compare}}
use Rattle.mk_laws.proofs.ImagesHistories.{histories_refine, one_event, reached_is_unreleased}
use Rattle.mk_laws.proofs.LayoutHistories.{in_order_at_first, order_behind}
use Rattle.mk_laws.proofs.Settled.{first_fit_is_the_place, headers_stand, unreleased_are_apart, unreleased_stand}
use Rattle.mk_laws.proofs.{Basics.{KnownWorld, holds_of_histories, known_world}, ForImages.say_to_images}
use Rattle.mk_laws.proofs.{FreedRuns.never_after, RunGates.run_gates_behind, Saying.images_say, TellGuard.guard_in}
use Rattle.mk_laws.proofs.{TellImages.images_tell_the_zeros, ZerosHistories.{zeros_at_first, zeros_behind}}
use Rattle.mk_core.specs.{HistoryLaws.ExchangesCompareValues, History.RefinesNever}
use Rattle.mk_laws.specs.Theorems.{AllocationsAreDisjoint, AllocationsStand, ClosesFindMarksClosed}
use Rattle.mk_laws.proofs.InvariantLaws.{EventsKeepTheInvariant, InvariantAtFirst}
use Rattle.mk_laws.specs.Theorems.{FirstFitFindsThePlace, GuardsBlackCells}
use Rattle.mk_laws.specs.Theorems.{KeepsTheReach, PagesShowTheStorage}
use Rattle.mk_laws.proofs.InvariantLaws.{MarksStayClosed}
use Rattle.mk_laws.proofs.ImagePremises as images
use Rattle.mk_laws.proofs.Kept as guard
use Rattle.mk_laws.proofs.ZeroLaws as zeros

module _ (c : Config) (w : World) (n : NeverState) (known : KnownWorld c w) (all : Invariant c w n) where
  pub told_to_guard : guard.GuardPremises c w
  told_to_guard = guard_in c w known all.order.laid all.zeros

  pub told_to_images : images.ImagePremises c w
  told_to_images = say_to_images c w known all.order.laid all.order.quarantined all.zeros all.run_gates
      (stopped_marks_are_closed c w known.limits told_to_guard all.marks)

  told_by_images : ImagesSay c w n
  told_by_images = images_say c w n known told_to_images all.mirrors

  pub told_to_layout : LayoutPremises c w
  told_to_layout = record {
    target = λ seat cell is. let x =
        told_by_images.target seat cell is in record { number = x.number; unreleased = x.unreleased; is = x.cell };
    marked = λ three run is. told_by_images.marked (eqb-true _ 3 three) run is;
  }

  pub told_to_zeros : (e : Event) → IsEnabled c w.now e → AreAdmitted c.globals n (asked (call_decided c w.now e))
      → zeros.ZeroPremises c w e
  told_to_zeros e on admitted = images_tell_the_zeros c w n e all.order.laid told_by_images on admitted

-- One event, whatever it is.
pub invariant_behind : {c : Config} {w : World} {n : NeverState} (e : Event) → KnownWorld c w → Invariant c w n
    → IsEnabled c w.now e
    → AreAdmitted c.globals n (asked (call_decided c w.now e)) → Invariant c (world_behind c w e) (never_after c w n e)
invariant_behind {c} {w} {n} e known all on admitted = record {
  order = order_behind e known.limits known.lengths known.now on (told_to_layout c w n known all) all.order;
  zeros = zeros_behind known.limits known.lengths known.now on (told_to_zeros c w n known all e on admitted) all.zeros;
  run_gates = run_gates_behind known all.order.laid all.run_gates e.seat e.step (enabled_meets c w.now e on)
      (told_to_zeros c w n known all e on admitted).stored;
  mirrors = (one_event c w n e known (told_to_images c w n known all) all.mirrors on admitted).mirrors;
  marks = marks_behind c w e.seat known.limits known.now known.lengths (told_to_guard c w n known all) e.step
      (enabled_meets c w.now e on) all.marks;
}

pub invariant_at_first : InvariantAtFirst
invariant_at_first c = record {
  order = in_order_at_first c;
  zeros = zeros_at_first c;
  run_gates = λ off. absurd (true≢false off);
  mirrors = first_mirrors c;
  marks = marks_at_first c;
}

-- what the last event of a history finds and leaves
pub record ComesLast (c : Config) (es : List Event) (e : Event) : Type 0 where
  pub before : IsHistory c es
  pub on : IsEnabled c (left c es).now e
  pub meets : MeetsAll c (left c es).now e
  pub admitted : AreAdmitted c.globals (never_behind c es) (asked (call_decided c (left c es).now e))
  pub leaves : left c (es ++ e ∷ []) ≡ world_behind c (left c es) e
  pub never : never_behind c (es ++ e ∷ []) ≡ never_after c (left c es) (never_behind c es) e

pub comes_last : (c : Config) (es : List Event) (e : Event) → IsHistory c (es ++ e ∷ []) → ComesLast c es e
unfolding left_from AreEnabledFrom calls_from
comes_last c es e h =
    let xs : List Decided = call_decided c (left c es).now e ++ [] in
    let one : asked xs ≡ asked (call_decided c (left c es).now e) = rw (append-nil _) in
    let on = ((enabled_in_parts c es (e ∷ [])).0 h.enabled).1.0 in
    record {
      before = earlier_part_is_history c es (e ∷ []) h;
      on = on;
      meets = enabled_meets c (left c es).now e on;
      admitted = rw one at ((admitted_in_parts c es (e ∷ [])).0 h.admitted).1;
      leaves = left_in_parts c es (e ∷ []);
      never = never_in_parts c es (e ∷ []) ∙ rw one;
    }

-- One event of a history, in the words of the list.
pub events_keep_the_invariant : EventsKeepTheInvariant
events_keep_the_invariant c es e h all =
    let last = comes_last c es e h in
    let known = known_world c es last.before.within_limits last.before.enabled in
    rw last.leaves (rw last.never (invariant_behind e known all last.on last.admitted))

pub histories_keep_the_invariant : OfHistories KeepsTheInvariant
unfolding left_from calls_from
histories_keep_the_invariant = holds_of_histories KeepsTheInvariant invariant_at_first
    (λ c es e h all. events_keep_the_invariant c es e h all)

world_is_known : {c : Config} {es : List Event} → IsHistory c es → KnownWorld c (left c es)
world_is_known {c} {es} h = known_world c es h.within_limits h.enabled

images_are_told : {c : Config} {es : List Event} → IsHistory c es → ImagePremisesAlong c es
images_are_told {c} h front more e =
    let whole : IsHistory c (front ++ more) = subst (IsHistory c) (sym e) h in
    let earlier = earlier_part_is_history c front more whole in
    told_to_images c (left c front) _ (world_is_known earlier) (histories_keep_the_invariant c front earlier)

pub histories_refine_never : OfHistories RefinesNever
histories_refine_never c es h = histories_refine c es h (images_are_told h)

pub reach_is_kept : OfHistories KeepsTheReach
reach_is_kept c es h = reached_is_unreleased c es h (images_are_told h)

pub exchanges_compare : OfHistories ExchangesCompareValues
exchanges_compare c es h = histories_compare c es h (images_are_told h)

pub allocations_stand : OfHistories AllocationsStand
allocations_stand c es h = unreleased_stand c es h.within_limits (histories_keep_the_invariant c es h).order.laid

pub allocations_are_disjoint : OfHistories AllocationsAreDisjoint
allocations_are_disjoint c es h i j n u v one two =
    let si = allocations_stand c es h i u in
    let sj = allocations_stand c es h j v in
    unreleased_are_apart c es (histories_keep_the_invariant c es h).order.laid i j u v
    (same_Some _ _ (sym (word_points c (left c es).now.words _ h.within_limits si.stands si.headers n one)
    ∙ word_points c (left c es).now.words _ h.within_limits sj.stands sj.headers n two))

pub pages_show_the_storage : OfHistories PagesShowTheStorage
pages_show_the_storage c es h = headers_stand c es h.within_limits (histories_keep_the_invariant c es h).order.laid

pub first_fit_finds_the_place : OfHistories FirstFitFindsThePlace
first_fit_finds_the_place c es h o =
    first_fit_is_the_place c es o h.within_limits (histories_keep_the_invariant c es h).order.laid

pub black_cells_are_guarded : OfHistories GuardsBlackCells
black_cells_are_guarded c es h = marking_guards c (left c es).now (histories_keep_the_invariant c es h).marks

pub marks_stay_closed : OfHistories MarksStayClosed
marks_stay_closed c es h =
    let all = histories_keep_the_invariant c es h in
    stopped_marks_are_closed c (left c es) h.within_limits (told_to_guard c (left c es) _ (world_is_known h) all)
    all.marks

pub closes_find_marks_closed : OfHistories ClosesFindMarksClosed
unfolding AreEnabledFrom
closes_find_marks_closed c es h before behind seat is =
    let e : Event = record { seat = seat; step = Step.Close } in
    let parts : IsHistory c (before ++ e ∷ behind) = subst (IsHistory c) is h in
    let earlier = earlier_part_is_history c before (e ∷ behind) parts in
    let all = histories_keep_the_invariant c before earlier in
    let on = ((enabled_in_parts c before (e ∷ behind)).0 parts.enabled).1.0 in
    close_finds_marks_closed c before seat earlier.within_limits earlier.enabled on
    (told_to_guard c (left c before) _ (world_is_known earlier) all) all.marks

pub ruleset pages_show_the_storage_facts = (pages_show_the_storage, first_fit_finds_the_place)

pub ruleset marks_are_closed_facts = (closes_find_marks_closed, marks_stay_closed)
