-- Callers on threads of their own: what each hands back, and the host that has joined some of them.
-- Private functions alone cite these words.
use Rattle.std.specs.Prelude.{◌≡◌, ℕ, ◌+◌, length, All, ◌<◌, ◌≤◌, Bool, true, false, List, [], ◌∷◌, IfOk}
use Rattle.mk_core.specs.{declared.config.Config.Config, declared.events.Event.Event, History.AreOfOthers}
use Rattle.mk_core.specs.declared.events.Seat.TheVariants.{Caller, Host}
use Rattle.mk_heap.specs.{Below.Words.States.{WordsState, Has, has_over, PassState}, Below.Callers.States.IsIdleCaller}
use Rattle.mk_heap.specs.{Below.Objects.TurnCalls.OwnAreExact, Hosts.HostState}
use Rattle.mk_heap.specs.{Below.Objects.TurnCycles.TurnsOfAreExact, Ending.HostComesLast}
use Rattle.mk_jobs.specs.{declared.engines.Engines.Engines, declared.engines.CallerEngines.CallerEngines}
use Rattle.mk_jobs.specs.{Runs.{AreDone, HaveDone}, Passes.replied_in, Jobs.{IsFounding, Replied}, Typing.Plan}
use Rattle.mk_jobs.specs.{declared.job_lists.Jobs.Jobs, declared.joining.Callers.Callers}
use Rattle.mk_jobs.specs.{declared.joining.Joined.Joined, declared.joining.Worked.Worked, declared.working.Ended.Ended}

-- The engines of a run. Private functions alone cite these words.

-- There is an engine for each caller from k on, made for the pages of the heap.
pub record AreEnginesFrom {E : Type 0} (made_for : E → ℕ) (w : WordsState) (k : ℕ) (engines : CallerEngines E)
    : Type 0 where
  pub count : k + 1 + length engines.others.items ≡ w.config.callers
  pub first : made_for engines.first ≡ w.config.pages
  pub others : All (λ (engine : E). made_for engine ≡ w.config.pages) engines.others.items

-- There is one for each caller, and one for the host.
pub record AreEnginesOf {E : Type 0} (made_for : E → ℕ) (w : WordsState) (engines : Engines E) : Type 0 where
  pub callers : AreEnginesFrom made_for w 0 engines.callers
  pub host : made_for engines.host ≡ w.config.pages

-- The pass of caller k between two jobs, which its own thread may take.
pub record IsBetweenJobs (on : Bool) (w : WordsState) (k : ℕ) (p : PassState) : Type 0 where
  pub table : p.table ≡ w
  pub seat : p.seat ≡ Caller k
  pub alone : p.seats ≡ Caller k ∷ []
  pub idle : IsIdleCaller p
  pub exact : OwnAreExact on p

-- The callers from k on have not begun their jobs: there is the pass of the first, and an engine for each.
pub record AreCallersFrom {E : Type 0} (on : Bool) (made_for : E → ℕ) (w : WordsState) (k : ℕ) (callers : Callers E)
    : Type 0 where
  pub pass : IsBetweenJobs on w k callers.pass
  pub engines : AreEnginesFrom made_for w k callers.engines

-- The turns of the callers from k on, so many, did with cycles what their operations ask.
abbrev pub AreExactFrom : Bool → Config → ℕ → ℕ → List Event → Type 0
AreExactFrom on c k count es = (j : ℕ) → k ≤ j → j < k + count → TurnsOfAreExact on c (Caller j) es

module _ {Job Done Point : Type 0} (p : Plan Job Done Point) (on : Bool) (w : WordsState) where
  -- Caller k did its jobs on a thread of its own, all of them where memory sufficed.
  pub record HasWorked (first : List Replied) (k : ℕ) (jobs : List Job) (worked : Worked Done) : Type 0 where
    pub ready : IsBetweenJobs on w k worked.pass
    pub done : IfOk worked.dones (λ dones. AreDone p jobs dones.list.items first
        (replied_in w.config k worked.pass.seen))

  -- The callers from k on did their jobs and are joined, and the host has made no more.
  pub record HaveWorked (markers : ℕ) (first : List Replied) (k : ℕ) (lists : List (Jobs Job)) (joined : Joined Done)
      : Type 0 where
    pub table : joined.host.pass.table ≡ w
    pub seat : joined.host.pass.seat ≡ Host
    pub own : Has joined.host.pass.seats Host
    pub count : joined.host.callers ≡ k + length lists
    pub seats : (j : ℕ) → k ≤ j → j < k + length lists → Has joined.host.pass.seats (Caller j)
    pub exact : AreExactFrom on w.config k (length lists) joined.host.pass.seen
    pub without_host : AreOfOthers (Host ∷ []) joined.host.pass.seen
    pub before_over : has_over joined.host.pass.seen ≡ false
    pub same_markers : joined.host.markers ≡ markers
    pub done : IfOk joined.dones (λ all. HaveDone p w.config joined.host.pass.seen first k lists all.items)

  -- All callers did their jobs on an object that the first one had made, and are joined.
  pub record HaveFoundedAndWorked (markers : ℕ) (lists : List (Jobs Job)) (joined : Joined Done) : Type 0 where
    pub founding : List Replied
    pub founds : IsFounding p founding
    pub worked : HaveWorked markers founding 0 lists joined

  -- All jobs are done, and the host said that all is over. It has made so many markers.
  pub record HaveEnded (markers : ℕ) (lists : List (Jobs Job)) (h : HostState) (ended : Ended Done) : Type 0 where
    pub table : h.pass.table ≡ w
    pub own : Has h.pass.seats Host
    pub over : has_over h.pass.seen ≡ true
    pub last : HostComesLast w.config.callers false h.pass.seen
    pub count : h.callers ≡ length lists
    pub callers : (k : ℕ) → k < length lists → Has h.pass.seats (Caller k)
    pub exact : AreExactFrom on w.config 0 (length lists) h.pass.seen
    pub same_markers : h.markers ≡ markers
    pub founding : List Replied
    pub founds : IsFounding p founding
    pub done : IfOk ended.dones (λ all. HaveDone p w.config h.pass.seen founding 0 lists all.items)
