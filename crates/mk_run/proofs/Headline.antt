-- The history of a run keeps all promises, and its texts are all that is printed of it.
use Rattle.std.proofs.{Common.{slice_get, take_all}, lemmas.Bool.Decides.nat_tests}
use Rattle.std.specs.List.{flat_map, range_with_len}
use Rattle.mk_heap.proofs.Below.Laws.Vocabulary.{Answer, Bool, Caller, Config, Decided, Event, List, Op, Some, ℕ, ap}
use Rattle.mk_heap.proofs.Below.Laws.Vocabulary.{arith, asked}
use Rattle.mk_heap.proofs.Below.Laws.Vocabulary.{calls, length, refl, seat_exists, subst, suc, sym, true, [], ◌++◌, ◌+◌}
use Rattle.mk_heap.proofs.Below.Laws.Vocabulary.{◌<◌, ◌==◌}
use Rattle.mk_heap.proofs.Below.Laws.{Vocabulary.{◌∙◌, ◌∷◌, ◌≡◌}, Promises.histories_keep_all_promises}
use Rattle.mk_heap.proofs.Below.Laws.Waiting.{resting_calls_are_admitted}
use Rattle.mk_heap.specs.Below.Laws.Waiting.{CallsInFlightAreAdmitted}
use Rattle.mk_run.proofs.Vocabulary.{IsRunOf, IsScript, IsWhole, Item, Outcome, Text, answers_in, config_of, feed}
use Rattle.mk_run.{proofs.Vocabulary.{slice_get_within}, specs.Headline.{cycles_go_on}}
use Rattle.mk_check.{proofs.GivenAnswers.{serves}, specs.Feed.{ended_calls, text_behind}}
use Rattle.mk_check.specs.{Feed.{has_ended, answers_among, answers_given}, Laws.{AreNotedBy, ops_of_caller}}
use Rattle.mk_heap.proofs.{BoundedQuarantine.quarantine_is_bounded, UnsweptHistories.unswept_is_precise}
use Rattle.mk_heap.proofs.Below.Objects.{DeedBounds.bounds_are_over_deeds, DeedFulls.deeds_say_why_full}
use Rattle.mk_heap.proofs.Below.Objects.Deeds.{deeds_leave_the_storage}
use Rattle.mk_run.specs.Headline.{NoAnswerIsLeft, RunsKeepTheirPromises, RunsPrintTheirTexts, RunsStandInOneHistory}
use Rattle.mk_heap.specs.Hosts as report

-- A caller has as many answers among the calls as operations.

more_answers : (k : ℕ) (b : Bool) (x : Decided) (xs : List Decided)
    → length (ops_of_caller k (asked xs)) ≡ length (answers_among k xs)
    → (x.caller == k) ≡ b → length (ops_of_caller k (asked (x ∷ xs))) ≡ length (answers_among k (x ∷ xs))
more_answers k x1 x xs same is = grind arith

as_many : (k : ℕ) (xs : List Decided) → length (ops_of_caller k (asked xs)) ≡ length (answers_among k xs)
as_many k [] = refl
as_many k (x ∷ xs) = more_answers k (x.caller == k) x xs (as_many k xs) refl

-- Where no call is in flight, each answer is given.

exists : (c : Config) (k : ℕ) → k < c.callers → seat_exists c (Caller k) ≡ true
exists c k less = grind (arith, nat_tests)

pub all_given : {c : Config} {es : List Event} (k : ℕ) → IsWhole c es → k < c.callers
    → answers_given c es k ≡ answers_in c k es
all_given {c} {es} k whole less =
    let answers = serves c es k whole.history.enabled in
    let rests = (whole.rests (Caller k) (exists c k less)).call in
    let all = rw rests at answers.decided in
    take_all (ended_calls k es) (answers_among k (calls c es)) (omega arith)

-- pieces that are those of their places
pieces : {X A : Type 0} (f : X → List A) (g : ℕ → List A) (a : ℕ) (xs : List X) → ((k : ℕ) (x : X)
    → slice_get xs k ≡ Some x → f x ≡ g (a + k)) → flat_map f xs ≡ flat_map g (range_with_len a (length xs))
pieces f g a [] each = refl
pieces f g a (x ∷ xs) each =
    let first : f x ≡ g a = each 0 x refl ∙ ap g (omega arith) in
    let rest = pieces f g (a + 1) xs (λ k y is. each (suc k) y is ∙ ap g (omega arith)) in
    ap (λ piece. piece ++ flat_map f xs) first ∙ ap (λ more. g a ++ more) rest

-- What a script noted and where it stands, by the answers that its ended calls have.

module _ {on with_cycle : Bool} {program : List Item} {markers : ℕ} {outcome : Outcome}
    (runs : IsRunOf on with_cycle program markers outcome) (k : ℕ) (is : IsScript program k) where
  abbrev c : Config
  c = config_of program markers

  abbrev es : List Event
  es = report.history_of outcome.report

  given : answers_in c k es ≡ answers_given c es k
  given = sym (all_given k runs.whole is)

  pub noted_of_run : AreNotedBy program k (answers_given c es k) (asked (calls c es))
  noted_of_run = subst (λ (xs : List Answer). AreNotedBy program k xs (asked (calls c es))) given
      (runs.follows k is).noted

  pub ends_of_run : has_ended (feed program k (answers_given c es k)) ≡ true
  ends_of_run = subst (λ (xs : List Answer). has_ended (feed program k xs) ≡ true) given (runs.ends k is)

-- It has used all of them.
pub none_is_left : (program : List Item) (markers : ℕ) {es : List Event} (k : ℕ)
    → IsWhole (config_of program markers) es → IsScript program k
    → AreNotedBy program k (answers_given (config_of program markers) es k)
    (asked (calls (config_of program markers) es))
    → length (feed program k (answers_given (config_of program markers) es k)).ops
    ≡ length (answers_given (config_of program markers) es k)
none_is_left program markers {es} k whole is noted =
    ap (λ (os : List Op). length os) (sym noted)
    ∙ (as_many k (calls (config_of program markers) es)
    ∙ ap (λ (xs : List Answer). length xs) (sym (all_given k whole is)))

pub no_answer_is_left : NoAnswerIsLeft
no_answer_is_left program markers sweep last_cycle es k h is =
    none_is_left program markers k h.whole is (h.operations k is)

unfoldable pub runs_stand_in_one_history : RunsStandInOneHistory
runs_stand_in_one_history program markers sweep last_cycle outcome runs begun stops markers_below unswept swept =
    record {
      whole = runs.whole;
      operations = noted_of_run runs;
      ends = ends_of_run runs;
      cycles = λ k is. (runs.follows k is).exact;
      roots = begun;
      stops = stops;
      few_markers = markers_below;
      host = runs.host;
      over = runs.over;
      unswept = unswept;
      swept = swept;
    }

-- All callers rest at the end, so nobody ever waits in a ring.

pub whole_calls_are_admitted : (c : Config) (es : List Event) → IsWhole c es → CallsInFlightAreAdmitted c es
whole_calls_are_admitted c es whole = resting_calls_are_admitted c es (λ k lt.
    let rests = whole.rests (Caller k) (exists c k lt) in
    record { call = rests.call; out = rests.out })

pub runs_keep_their_promises : RunsKeepTheirPromises
runs_keep_their_promises program markers sweep last_cycle es h =
    let c = config_of program markers in
    let kept = histories_keep_all_promises c es h.whole.history in
    let bounded = quarantine_is_bounded h.whole.history h.cycles h.host in
    record {
      promises = kept;
      releases = λ none. unswept_is_precise c es kept (h.unswept none);
      bounded = bounded;
      deeds_leave = deeds_leave_the_storage c es;
      deeds_bound = bounds_are_over_deeds (cycles_go_on markers) c es h.whole.history bounded;
      fulls = deeds_say_why_full c es h.whole.history;
      no_ring = kept.waits (whole_calls_are_admitted c es h.whole);
    }

pub runs_print_their_texts : RunsPrintTheirTexts
runs_print_their_texts on with_cycle program markers outcome runs =
    let c = config_of program markers in
    let es = report.history_of outcome.report in
    let text_of = text_behind program c es in
    let texts = outcome.texts.items in
    let piece : (k : ℕ) (text : Text) → slice_get texts k ≡ Some text
    → text.bytes.items ≡ text_of (0 + k) = grind (arith, slice_get_within, all_given) in
    cc (pieces (λ (text : Text). text.bytes.items) text_of 0 texts piece, runs.count)
