-- What is promised of the scripts of a program that ran, and that such a run can be observed.
use Rattle.std.specs.{Prelude.{◌≡◌, ℕ, Bool, true, false, List, length, nat_lt, count_by}, List.flat_map}
use Rattle.mk_core.specs.{declared.events.{Event.Event, Seat.TheVariants.Caller}, Calls.asked}
use Rattle.mk_core.specs.{History.{calls, left}, declared.{config.Config.Config, events.Answer.Answer}}
use Rattle.mk_heap.specs.Below.Laws.{Releases.CyclesArePrecise, Promises.{AtEachMoment, KeepsAllPromises}}
use Rattle.mk_heap.specs.Below.Laws.Waiting.{NobodyWaitsInARing}
use Rattle.mk_script.specs.declared.items.Item.{Item}
use Rattle.mk_check.specs.{Declarations.config_of, Feed.{feed, has_ended, answers_given, output, is_refusal}}
use Rattle.mk_check.specs.{Laws.{AreNotedBy, IsScript}, declared.text.Text.Text, Observed.{ObservedRun, told_to}}
use Rattle.mk_heap.specs.{Hosts.{IsWhole, MarkersAreBelow}, Below.Objects.Deeds.{DeedsBoundQuarantine, deeds_of}}
use Rattle.mk_heap.specs.Below.Objects.Deeds.{FullsHaveCauses, storage_after}
use Rattle.mk_heap.specs.Below.{Cycles.Beside.CyclesMarkRootsFirst, Objects.TurnCycles.TurnsOfAreExact}
use Rattle.mk_heap.specs.Below.{Words.States.has_over, Objects.Bounds.QuarantineIsBounded}
use Rattle.mk_heap.specs.{Below.Cycles.BeginCycle.CyclesHoldGatesFirst, Ending.HostComesLast, Unswept.IsUnswept}
use Rattle.mk_run.specs.{declared.outcomes.Outcome.Outcome, Running.IsRunOf, Keeping.CyclesSweep}
use Rattle.mk_heap.specs.Hosts as report

-- Whether the cycle that a Free begins goes on after its call: where there are markers to work on it.
abbrev pub cycles_go_on : ℕ → Bool
cycles_go_on markers = nat_lt 0 markers

-- Whatever the interleaving of callers and markers, the replies of a program's scripts stand in one history, each
-- script's operations there once and in order. This is what a run does; what follows of it is below.
pub record StandsInOneHistory (program : List Item) (markers : ℕ) (sweep last_cycle : Bool)
    (history : List Event) : Type 0 where
  -- It is a history of one heap of the program's configuration, and tidy, and no call of it is in flight.
  pub whole : IsWhole (config_of program markers) history
  -- Each script's operations are there once and in order: they are those that it asks for, fed with their own answers.
  pub operations :
      (k : ℕ) → IsScript program k
      → AreNotedBy program k (answers_given (config_of program markers) history k)
      (asked (calls (config_of program markers) history))
  -- Fed with these answers it has run to its end.
  pub ends :
      (k : ℕ) → IsScript program k
      → has_ended (feed program k (answers_given (config_of program markers) history k)) ≡ true
  -- A Free begins a cycle in its call exactly where it is due. Without markers that cycle ends in the call, and with
  -- markers it doesn't. A New begins or ends a cycle only where its object fits nowhere.
  pub cycles :
      (k : ℕ) → IsScript program k
      → TurnsOfAreExact (cycles_go_on markers) (config_of program markers) (Caller k) history
  -- With markers each cycle begins with the roots: after its `begin`, and in the same turn, there is a look at each
  -- register of each caller and at each global, and by their end what was found there points into nothing or into a
  -- marked cell.
  pub roots : cycles_go_on markers ≡ true → CyclesMarkRootsFirst (config_of program markers) history
  -- Without markers nothing is marked beside the scripts: after its `begin` the turn's holder only holds gates until it
  -- wants the marks to be closed.
  pub stops : cycles_go_on markers ≡ false → CyclesHoldGatesFirst (config_of program markers) history
  -- No event is of a marker that the run doesn't have: their numbers are below this one.
  pub few_markers : MarkersAreBelow markers history
  -- No step of a script stands after one of the host. The host begins one cycle where a last one is asked for, and else
  -- none.
  pub host : HostComesLast (config_of program markers).callers last_cycle history
  -- And it has said to the markers that all is over.
  pub over : has_over history ≡ true
  -- Unless a sweep makes the marks, none of them is a sweeping one.
  pub unswept : sweep ≡ false → IsUnswept (config_of program markers) history
  -- If sweeps make the marks, each cycle marks whatever is swept, reached or not, and releases all else of its
  -- snapshot.
  pub swept : sweep ≡ true → CyclesSweep (config_of program markers) history

-- What follows of it, by laws.
pub record KeepsRunPromises (program : List Item) (markers : ℕ) (sweep : Bool) (history : List Event) : Type 0 where
  -- Its answers are those of the heap that never reuses storage: a dangling load gives the freed object's own word, or
  -- Fault for a freed large run. Full stands only where nothing fits beside live and quarantined storage, after a
  -- cycle begun and ended in that call; every other object stands at its place. Marks are closed at each `close`, and
  -- what is released was freed before its cycle and isn't reached.
  pub promises : KeepsAllPromises (config_of program markers) history
  -- Unless a sweep makes the marks, each cycle releases all of its snapshot that no word in a scanned cell, a register
  -- or a global led to from the `begin` to the `close`, and after its `end` that storage counts as free.
  pub releases : sweep ≡ false → CyclesArePrecise (config_of program markers) history
  -- Quarantine is bounded: where nobody holds the turn, what was freed since the last `begin` is at most a quarter of
  -- what is held and was given back since, the last cycle kept the rest, and freed large objects take no memory.
  pub bounded : QuarantineIsBounded (cycles_go_on markers) (config_of program markers) history
  -- That is said once more without events, over the deeds of the history, which are of seven kinds. They leave its
  -- allocations. Whenever a turn ends, what was freed since the last cycle began is bounded so. Each New that is full
  -- came after a cycle begun and ended in its own turn, and its object fits nowhere beside what is left.
  pub deeds_leave :
      storage_after (deeds_of (config_of program markers) history)
      ≡ (left (config_of program markers) history).allocations
  pub deeds_bound :
      DeedsBoundQuarantine (cycles_go_on markers) (config_of program markers)
      (deeds_of (config_of program markers) history)
  pub fulls : FullsHaveCauses (config_of program markers) (deeds_of (config_of program markers) history)
  -- Nobody ever waits in a ring: who is waited for has the turn, or is out of the way after at most seven steps of its
  -- own, each of which may come whatever others did; and so is whoever the turn's holder waits for.
  pub no_ring : AtEachMoment NobodyWaitsInARing (config_of program markers) history

-- Each run that stands in one history keeps them.
abbrev pub RunsKeepTheirPromises : Type 0
RunsKeepTheirPromises =
    (program : List Item) (markers : ℕ) (sweep last_cycle : Bool) (history : List Event)
    → StandsInOneHistory program markers sweep last_cycle history → KeepsRunPromises program markers sweep history

-- No answer is left over: each script asked for as many operations as it was answered.
abbrev pub NoAnswerIsLeft : Type 0
NoAnswerIsLeft =
    (program : List Item) (markers : ℕ) (sweep last_cycle : Bool) (history : List Event) (k : ℕ)
    → StandsInOneHistory program markers sweep last_cycle history → IsScript program k
    → length (feed program k (answers_given (config_of program markers) history k)).ops
    ≡ length (answers_given (config_of program markers) history k)

-- The texts of an outcome, one after the other.
abbrev pub printed : Outcome → List ℕ
printed outcome = flat_map (λ (text : Text). text.bytes.items) outcome.texts.items

-- The history of a run is such a history.
abbrev pub RunsStandInOneHistory : Type 0
RunsStandInOneHistory =
    (program : List Item) (markers : ℕ) (sweep last_cycle : Bool) (outcome : Outcome)
    → IsRunOf (cycles_go_on markers) last_cycle program markers outcome
    → (cycles_go_on markers ≡ true
    → CyclesMarkRootsFirst (config_of program markers) (report.history_of outcome.report))
    → (cycles_go_on markers ≡ false
    → CyclesHoldGatesFirst (config_of program markers) (report.history_of outcome.report))
    → MarkersAreBelow markers (report.history_of outcome.report)
    → (sweep ≡ false → IsUnswept (config_of program markers) (report.history_of outcome.report))
    → (sweep ≡ true → CyclesSweep (config_of program markers) (report.history_of outcome.report))
    → StandsInOneHistory program markers sweep last_cycle (report.history_of outcome.report)

-- What the scripts print of it are the texts of the outcome, whole.
abbrev pub RunsPrintTheirTexts : Type 0
RunsPrintTheirTexts =
    (on with_cycle : Bool) (program : List Item) (markers : ℕ) (outcome : Outcome)
    → IsRunOf on with_cycle program markers outcome
    → printed outcome ≡ output program (config_of program markers) (report.history_of outcome.report)

-- As many are told as are answered, and as many refusals.
pub record TellsAsMuch (told answers : List Answer) : Type 0 where
  pub all : length told ≡ length answers
  pub refusals : count_by is_refusal told ≡ count_by is_refusal answers

-- The calls of the history, in their order, are a run that can be observed. It prints what the history does, and each
-- script is told as much.
pub record CanBeObserved (program : List Item) (c : Config) (history : List Event) : Type 0 where
  pub run : ObservedRun program (output program c history)
  pub calls_are : run.calls ≡ asked (calls c history)
  pub tells :
      (k : ℕ) → IsScript program k
      → TellsAsMuch (told_to program run.calls k) (answers_given c history k)

-- Where the scripts' replies stand in one history, the run is one that can be observed.
abbrev pub RunsCanBeObserved : Type 0
RunsCanBeObserved =
    (program : List Item) (markers : ℕ) (sweep last_cycle : Bool) (history : List Event)
    → StandsInOneHistory program markers sweep last_cycle history
    → CanBeObserved program (config_of program markers) history

-- What an outcome's texts say was printed by such a run.
abbrev pub PrintedRunsCanBeObserved : Type 0
PrintedRunsCanBeObserved =
    (on with_cycle : Bool) (program : List Item) (markers : ℕ) (outcome : Outcome)
    → IsRunOf on with_cycle program markers outcome → ObservedRun program (printed outcome)
