-- A run of all scripts, when the heap is closed.
use Rattle.mk_heap.proofs.Below.Laws.Vocabulary.{Bool, Caller, Config, Event, List, ℕ, arith, subst, sym, true, [], ◌+◌}
use Rattle.mk_heap.proofs.Below.Laws.Vocabulary.{◌∙◌, ◌∷◌}
use Rattle.mk_heap.proofs.Below.Laws.Vocabulary.{◌≡◌, ◌≤◌}
use Rattle.mk_run.proofs.Vocabulary.{AreTextsFrom, CallersAreStill, EndsScript, FollowsScript, Grows, HasCallers}
use Rattle.mk_run.proofs.Vocabulary.{HasJoined, HostComesLast, HostState, IsRunOf, IsScript, IsTextOf, IsWhole, Item}
use Rattle.mk_run.proofs.Vocabulary.{Outcome, Text, WordsState, config_of, slice_get_within}
use Rattle.mk_run.proofs.LaterLists.{still_ends, still_follows, still_text}
use Rattle.mk_heap.specs.{Ending.CallersAreJoined, Hosts.{with_seen, HasCounts}, Below.Words.States.has_over}
use Rattle.mk_heap.specs.Hosts as report

pub all_callers_joined : {on : Bool} {program : List Item} {w : WordsState} {h : HostState}
    → HasJoined on program w 0 h → CallersAreJoined h
all_callers_joined joined = λ k lt. let n = joined.count in joined.seats k (omega arith) (omega arith)

-- All callers that there are are home.
pub all_callers_home : {on : Bool} {program : List Item} (markers : ℕ) {w : WordsState} {h : HostState}
    → w.config ≡ config_of program markers → HasJoined on program w 0 h → HasCallers w.config h.pass.seats
all_callers_home markers made joined = grind arith

-- What was joined stays so where the callers are still.

module _ {on : Bool} {program : List Item} {w : WordsState} {h : HostState} (fs : List Event)
    (joined : HasJoined on program w 0 h) (still : CallersAreStill h.pass fs) where
  later : (k : ℕ) → 0 ≤ k → IsScript program k → Grows (Caller k ∷ []) h.pass.seen fs
  later k le is = still k (joined.seats k le is)

  pub still_follows_on : (k : ℕ) → 0 ≤ k → IsScript program k → FollowsScript on program k w.config fs
  still_follows_on k le is = still_follows program w.config (later k le is) (joined.follow k le is)

  pub still_joined : HasJoined on program w 0 (with_seen h fs)
  still_joined = record {
    table = joined.table;
    seat = joined.seat;
    count = joined.count;
    seats = joined.seats;
    follow = still_follows_on;
  }

  pub still_texts : {texts : List Text} → AreTextsFrom program 0 w.config h.pass.seen texts
      → AreTextsFrom program 0 w.config fs texts
  still_texts {texts} h' = record {
    count = h'.count;
    ends = λ k le is. still_ends program w.config (later k le is) (h'.ends k le is);
    each = λ i text at. (let within = slice_get_within texts i text at in
        let count = h'.count in
        still_text program w.config (later (0 + i) (omega arith) (omega arith)) (h'.each i text at));
  }

-- When the heap is closed.

pub is_run : {on with_cycle : Bool} {program : List Item} (markers : ℕ) {w : WordsState} {h : HostState}
    (outcome : Outcome)
    → w.config ≡ config_of program markers → HasJoined on program w 0 h
    → HostComesLast w.config.callers with_cycle h.pass.seen → has_over h.pass.seen ≡ true
    → AreTextsFrom program 0 w.config h.pass.seen outcome.texts.items → report.history_of outcome.report ≡ h.pass.seen
    → report.config_of outcome.report ≡ w.config
    → IsWhole (report.config_of outcome.report) (report.history_of outcome.report)
    → HasCounts (report.config_of outcome.report) (report.history_of outcome.report) outcome.report
    → IsRunOf on with_cycle program markers outcome
is_run {on} {with_cycle} {program} markers {w = w} {h = h} outcome made joined last over texts history config whole
    counts =
    let c = config_of program markers in
    let es = report.history_of outcome.report in
    let same : report.config_of outcome.report ≡ c = config ∙ made in
    let count = texts.count in
    record {
      config = same;
      whole = subst (λ (d : Config). IsWhole d es) same whole;
      counts = subst (λ (d : Config). HasCounts d es outcome.report) same counts;
      follows = λ k is. subst (λ (l : List Event). FollowsScript on program k c l) (sym history)
          (subst (λ (d : Config). FollowsScript on program k d h.pass.seen) made (joined.follow k (omega arith) is));
      ends = λ k is.
          rw history (subst (λ (d : Config). EndsScript program k d h.pass.seen) made (texts.ends k (omega arith) is));
      host = rw history (subst (λ (d : Config). HostComesLast d.callers with_cycle h.pass.seen) made last);
      over = rw history over;
      count = omega arith;
      texts = λ k text at. rw history (subst (λ (d : Config). IsTextOf program k d h.pass.seen text) made
          (subst (λ (j : ℕ). IsTextOf program j w.config h.pass.seen text) (omega arith) (texts.each k text at)));
    }
