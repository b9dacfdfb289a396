-- All that happened on an object: it was made, the jobs were done, and the host came last, with markers beside them.
use Rattle.std.proofs.{Common.{IfOk, Ok, ⊎_elim}, lemmas.Result.IfOk-weaker}
use Rattle.mk_jobs.proofs.RunVocabulary.{AreOfOthers, Caller, CallerState, Config, Event, Grows, Has, HasCallers}
use Rattle.mk_jobs.proofs.RunVocabulary.{NeverState, HasMade, HaveDone, Host, HostState, IsAtHome, IsHistory, IsMadeFor}
use Rattle.mk_jobs.proofs.RunVocabulary.{Jobs, Joined, PassState, Plan, Replied, Seat, TurnsOfAreExact, WordsState}
use Rattle.mk_jobs.proofs.{RunVocabulary.{pass_for, replied_to}, JobRuns.are_jobs_of}
use Rattle.mk_jobs.{proofs.JoinedJobs.{exact_on, next_unasked, still_have}, specs.Runs.{AreExplainedJobs, IsRun}}
use Rattle.mk_heap.proofs.Below.Laws.Vocabulary.{Bool, List, ℕ, ap, arith, false, Option, is_one_of, length, subst, sym}
use Rattle.mk_heap.proofs.Below.Laws.Vocabulary.{true}
use Rattle.mk_heap.proofs.Below.Laws.Vocabulary.{true≢false, [], ◌++◌, ◌+◌, ◌<◌, ◌∙◌, ◌∷◌, ◌≡◌, ◌≤◌}
use Rattle.mk_heap.proofs.Below.{Objects.Bounds.quarantines_are_bounded, Words.Seats.others_own}
use Rattle.mk_heap.proofs.{Below.Objects.EndedCycles.{others_at, others_behind}, HostTurns.{comes_last, still_last}}
use Rattle.mk_heap.proofs.Below.Objects.ListParts.{InFirst, InSecond, stands}
use Rattle.mk_heap.specs.{Below.Words.States.has_over, Hosts.JoinsMarkers, Ending.CallersAreJoined}
use Rattle.mk_heap.specs.{Hosts.{AllAreJoined, with_seen}, Ending.{BeginsAsAsked, CallersAreStill}}
use Rattle.mk_heap.specs.{Hosts.{HasCounts, IsWhole}, Below.Objects.Bounds.HostBeginsLast, Ending.HostComesLast}
use Rattle.mk_jobs.specs.{declared.{runs.Outcome.Outcome, working.Ended.Ended}, Laws.IsAlwaysExplained}
use Rattle.mk_jobs.specs.{Jobs.{IsEnd, IsFounding}, Joining.{HaveEnded, HaveFoundedAndWorked}, Passes.Founds}
use Rattle.mk_heap.specs.Hosts as report

-- Where the host comes last, so does each of its cycles.
host_begins_last : (c : Config) {with_cycle : Bool} {es : List Event} → HostComesLast c.callers with_cycle es
    → HostBeginsLast c es
host_begins_last c h before e behind is begins host k lt =
    ⊎_elim (λ (f : InFirst h.scripts before e). (let others = others_at (Host ∷ []) before e f.behind
    (subst (λ (l : List Event). AreOfOthers (Host ∷ []) l) f.is h.without_host) in
    let none : true ≡ false = subst (λ (s : Seat). is_one_of (Host ∷ []) s ≡ false) host others in
    absurd (true≢false none))) (λ (s : InSecond h.scripts h.last before e behind). others_behind (Caller k ∷ []) s.rest
    e behind (subst (λ (l : List Event). AreOfOthers (Caller k ∷ []) l) s.is (h.without_callers k lt)))
    (stands h.scripts h.last before e behind (sym h.is ∙ is))

module _ {Job Done Point : Type 0} (p : Plan Job Done Point) where
  -- What the operations of the first caller lead to, before its jobs
  pub founds_object : {w : WordsState} {markers : ℕ} {h : HostState} (s : CallerState) {q : PassState} (r : PassState)
      → HasMade w markers 0 h → IsAtHome s (pass_for h (Caller h.callers)) → Founds p s.pass q → r ≡ q
      → IsFounding p (replied_to r)
  founds_object s r made is founds same = record {
    found = founds.ends.last;
    founds =
        rw (ap replied_to same ∙ founds.ends.goes.did
        ∙ ap (λ (l : List Replied). l ++ founds.ends.goes.all) (next_unasked s made is)) founds.ends.goes.leads;
    founded = subst IsEnd (sym founds.ends.ended) tt;
  }

  -- The jobs were done, and the host came last.
  module _ {on : Bool} {w : WordsState} {markers : ℕ} {lists : List (Jobs Job)} {joined : Joined Done}
      (count : length lists ≡ w.config.callers) (did : HaveFoundedAndWorked p on w markers lists joined) where
    abbrev h : HostState
    h = joined.host

    pub callers_home : HasCallers w.config h.pass.seats
    callers_home k lt = did.worked.seats k (omega arith) (omega (arith, lt, count))

    pub callers_joined : CallersAreJoined h
    callers_joined k lt = did.worked.seats k (omega arith) (omega (arith, lt, did.worked.count))

    pub have_ended : (g : HostState) (ended : Ended Done) → g ≡ with_seen h g.pass.seen
        → CallersAreStill h.pass g.pass.seen → BeginsAsAsked false h.pass.seen g.pass.seen
        → has_over g.pass.seen ≡ true → ended.dones ≡ joined.dones → HaveEnded p on w markers lists g ended
    have_ended g ended is still begins over dones =
        let grows : (j : ℕ) → 0 ≤ j → j < 0 + length lists → Grows (Caller j ∷ []) h.pass.seen g.pass.seen =
        λ j le lt. still j (did.worked.seats j le lt) in
        record {
          table = ap (λ (x : HostState). x.pass.table) is ∙ did.worked.table;
          own = subst (λ (x : HostState). Has x.pass.seats Host) (sym is) did.worked.own;
          over = over;
          last = comes_last w.config h.pass callers_home did.worked.without_host still begins;
          count = (let now = ap (λ (x : HostState). x.callers) is in
              let then = did.worked.count in omega (arith, now, then));
          callers = λ k lt. subst (λ (x : HostState). Has x.pass.seats (Caller k)) (sym is)
              (did.worked.seats k (omega arith) (omega (arith, lt)));
          exact = exact_on w.config 0 (length lists) grows did.worked.exact;
          same_markers = ap (λ (x : HostState). x.markers) is ∙ did.worked.same_markers;
          founding = did.founding;
          founds = did.founds;
          done =
              rw dones (IfOk-weaker joined.dones
              (λ all. HaveDone p w.config h.pass.seen did.founding 0 lists all.items)
              (λ all. HaveDone p w.config g.pass.seen did.founding 0 lists all.items)
              (λ all done. still_have p w.config h.pass.seen g.pass.seen did.founding 0 lists all.items grows done)
              did.worked.done);
        }

  -- All stays so as markers are joined.
  module _ {on : Bool} {w : WordsState} {markers : ℕ} {lists : List (Jobs Job)} {h g : HostState} {ended : Ended Done}
      (all : length lists ≡ w.config.callers) (before : HaveEnded p on w markers lists h ended)
      (joins : JoinsMarkers 0 h g) where
    table_joined : g.pass.table ≡ w
    table_joined = joins.table ∙ before.table

    history_joined : IsHistory w.config g.pass.seen
    history_joined = subst (λ (v : WordsState). IsHistory v.config g.pass.seen) table_joined joins.history

    still : (k : ℕ) → 0 ≤ k → k < 0 + length lists → Grows (Caller k ∷ []) h.pass.seen g.pass.seen
    still k le lt = record {
      more = joins.behind.more;
      is = joins.behind.is;
      of_others = others_own h.pass.seats (Caller k) joins.behind.more (before.callers k (omega (arith, lt)))
          joins.behind.of_others;
    }

    pub ended_joined : HaveEnded p on w markers lists g ended
    ended_joined = record {
      table = table_joined;
      own = joins.home Host before.own;
      over = joins.overs ∙ before.over;
      last = still_last w.config h.pass before.own (λ k lt. before.callers k (omega (arith, lt, all))) joins.behind
          history_joined before.last;
      count = joins.callers ∙ before.count;
      callers = λ k lt. joins.home (Caller k) (before.callers k lt);
      exact = exact_on w.config 0 (length lists) still before.exact;
      same_markers = joins.same_markers ∙ before.same_markers;
      founding = before.founding;
      founds = before.founds;
      done =
          IfOk-weaker ended.dones (λ all. HaveDone p w.config h.pass.seen before.founding 0 lists all.items)
          (λ all. HaveDone p w.config g.pass.seen before.founding 0 lists all.items)
          (λ all done. still_have p w.config h.pass.seen g.pass.seen before.founding 0 lists all.items still done)
          before.done;
    }

    pub all_joined : AllAreJoined g
    all_joined = record {
      callers = λ k lt. ended_joined.callers k (omega (arith, lt, ended_joined.count));
      markers = λ i lt. joins.markers i (omega arith) lt;
    }

  -- When the heap is closed.
  pub is_run : {on : Bool} (c : Config) {w : WordsState} {markers : ℕ} {lists : List (Jobs Job)} {h : HostState}
      {ended : Ended Done} (outcome : Outcome Done) → w.config ≡ c → IsMadeFor p c → length lists ≡ c.callers
      → (before : HaveEnded p on w markers lists h ended)
      → ended.dones ≡ Ok outcome.done
      → report.history_of outcome.report ≡ h.pass.seen → report.config_of outcome.report ≡ w.config
      → IsWhole (report.config_of outcome.report) (report.history_of outcome.report)
      → HasCounts (report.config_of outcome.report) (report.history_of outcome.report) outcome.report
      → IsRun p on c lists outcome
  is_run {on} c {w} {lists = lists} {h = h} outcome made for_it count before all history config whole counts =
      let es : List Event = report.history_of outcome.report in
      let same : report.config_of outcome.report ≡ c = config ∙ made in
      let whole_so : IsWhole c es = subst (λ (d : Config). IsWhole d es) same whole in
      let exact : (k : ℕ) → k < c.callers → TurnsOfAreExact on c (Caller k) es =
      λ k lt. rw history (subst (λ (d : Config). TurnsOfAreExact on d (Caller k) h.pass.seen) made
      (before.exact k (omega arith) (omega (arith, lt, count)))) in
      let host : HostComesLast c.callers false es =
      rw history (subst (λ (d : Config). HostComesLast d.callers false h.pass.seen) made before.last) in
      let done : HaveDone p w.config h.pass.seen before.founding 0 lists outcome.done.items =
      subst (λ r. IfOk r (λ all. HaveDone p w.config h.pass.seen before.founding 0 lists all.items)) all before.done in
      record {
        config = same;
        whole = whole_so;
        counts = subst (λ (d : Config). HasCounts d es outcome.report) same counts;
        jobs =
            are_jobs_of p c es lists outcome.done.items whole_so.history for_it.types before.founds count
            (rw history (subst (λ
            (d : Config). HaveDone p d h.pass.seen before.founding 0 lists outcome.done.items) made
            done));
        exact = exact;
        bounded = quarantines_are_bounded on c es whole_so.history exact (host_begins_last c host);
        host = host;
        over = rw history before.over;
      }

  -- Where the jobs on the object are always explained, those of a run are.
  pub explained_run : {on : Bool} {State : Type 0} {first : State} {left_by : State → Job → Done → Option State}
      {content : NeverState → List ℕ → State → Type 0} {c : Config} {lists : List (Jobs Job)} (outcome : Outcome Done)
      → IsAlwaysExplained p first left_by content → IsRun p on c lists outcome
      → AreExplainedJobs p first left_by content c (report.history_of outcome.report) lists outcome.done.items
  explained_run {c = c} outcome always run = record {
    jobs = run.jobs;
    explained = always c.callers run.jobs.founding run.jobs.runs _ run.jobs.interleaved;
  }
