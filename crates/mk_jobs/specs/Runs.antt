-- Lists of jobs that callers did on an object of their own, and what is promised of them.
use Rattle.std.specs.Prelude.{◌≡◌, ℕ, ◌+◌, List, [], ◌∷◌, ◌++◌, map, ◌<◌, Bool, true, false, length, slice_get, Option}
use Rattle.std.specs.Prelude.{Some}
use Rattle.mk_never.specs.NeverHeap.{NeverState, start_of}
use Rattle.mk_core.specs.{declared.config.Config.Config, declared.events.Event.Event, Calls.asked, History.calls}
use Rattle.mk_core.specs.declared.events.Seat.TheVariants.{Caller}
use Rattle.mk_heap.specs.{Below.Words.States.{PassState, has_over}, Below.Objects.Bounds.QuarantineIsBounded}
use Rattle.mk_heap.specs.{Below.Objects.TurnCycles.TurnsOfAreExact, Ending.HostComesLast, Hosts.{HasCounts, IsWhole}}
use Rattle.mk_jobs.specs.{declared.job_lists.Dones.Dones, declared.job_lists.Jobs.Jobs, Typing.Plan}
use Rattle.mk_jobs.specs.{Jobs.{AreJobRuns, JobRun, Replied, all_of, IsInterleaved}, Passes.{replied_in, replied_to}}
use Rattle.mk_jobs.specs.{declared.runs.Outcome.Outcome, Laws.IsExplained}
use Rattle.mk_heap.specs.Hosts as report

module _ {Job Done Point : Type 0} (p : Plan Job Done Point) where
  -- After the first operations come those of these jobs, one after the other, and this became of each. That is all.
  pub record AreDone (jobs : List Job) (dones : List Done) (first all : List Replied) : Type 0 where
    pub runs : List (JobRun Job Done)
    pub are_runs : AreJobRuns p runs
    pub same_jobs : map (λ (r : JobRun Job Done). r.job) runs ≡ jobs
    pub same_dones : map (λ (r : JobRun Job Done). r.done) runs ≡ dones
    pub all_are : all ≡ first ++ all_of runs

  -- The pass has seen more, in which its caller did these jobs.
  pub record DoesJobs (q : PassState) (jobs : List Job) (dones : List Done) (q' : PassState) : Type 0 where
    pub is : q' ≡ record q { seen = q'.seen }
    pub done : AreDone jobs dones (replied_to q) (replied_to q')

  -- Caller k, after these operations, and each caller after it did a list of jobs.
  abbrev pub HaveDone : Config → List Event → List Replied → ℕ → List (Jobs Job) → List (Dones Done) → Type 0
  HaveDone c es first k [] [] = Unit {0}
  HaveDone c es first k (jobs ∷ lists) (dones ∷ all) =
      AreDone jobs.list.items dones.list.items first (replied_in c k es) × HaveDone c es [] (k + 1) lists all
  HaveDone c es first k _ _ = ⊥

-- The runs of caller k are its list of jobs, in order, and this became of each.
abbrev pub AreRunsOf : {Job Done : Type 0} → List (Jobs Job) → List (Dones Done) → (ℕ → List (JobRun Job Done))
    → Type 0
AreRunsOf {Job} {Done} lists all runs =
    (k : ℕ) (jobs : Jobs Job) (dones : Dones Done) → slice_get lists k ≡ Some jobs → slice_get all k ≡ Some dones
    → (map (λ (r : JobRun Job Done). r.job) (runs k) ≡ jobs.list.items)
    × (map (λ (r : JobRun Job Done). r.done) (runs k) ≡ dones.list.items)

module _ {Job Done Point : Type 0} (p : Plan Job Done Point) where
  -- the heap of an object
  abbrev pub object_config : ℕ → ℕ → ℕ → ℕ → Config
  object_config pages resident callers markers =
      record {
        pages = pages;
        resident = resident;
        callers = callers;
        markers = markers;
        types = p.types;
        globals = p.globals;
      }

  -- In this history the first caller made the object, and each caller did its list of jobs, once and in order, and
  -- nothing else; and this became of them.
  pub record AreJobsOf (c : Config) (es : List Event) (lists : List (Jobs Job)) (all : List (Dones Done)) : Type 0 where
    pub founding : List Replied
    pub runs : ℕ → List (JobRun Job Done)
    pub one_each : length all ≡ length lists
    pub are : AreRunsOf lists all runs
    pub interleaved : IsInterleaved p (start_of p.types c.callers) c.callers founding runs (asked (calls c es))

  -- All callers did their jobs on a heap of this configuration, and this is its report. Each turn of theirs did with
  -- cycles what its operation asks. The host came after them, and said that all is over.
  pub record IsRun (on : Bool) (c : Config) (lists : List (Jobs Job)) (outcome : Outcome Done) : Type 0 where
    pub config : report.config_of outcome.report ≡ c
    pub whole : IsWhole c (report.history_of outcome.report)
    pub counts : HasCounts c (report.history_of outcome.report) outcome.report
    pub jobs : AreJobsOf c (report.history_of outcome.report) lists outcome.done.items
    pub exact : (k : ℕ) → k < c.callers → TurnsOfAreExact on c (Caller k) (report.history_of outcome.report)
    pub bounded : QuarantineIsBounded on c (report.history_of outcome.report)
    pub host : HostComesLast c.callers false (report.history_of outcome.report)
    pub over : has_over (report.history_of outcome.report) ≡ true

  -- They stand in one order, in which each was decided by an operation of its own. A plain object explains it, and is
  -- what is left; and no object of the heap leaks.
  pub record AreExplainedJobs {State : Type 0} (first : State) (left_by : State → Job → Done → Option State)
      (content : NeverState → List ℕ → State → Type 0) (c : Config) (es : List Event) (lists : List (Jobs Job))
      (all : List (Dones Done)) : Type 0 where
    pub jobs : AreJobsOf c es lists all
    pub explained : IsExplained p first left_by content c.callers jobs.founding jobs.runs (asked (calls c es))
