-- What a run of a program's scripts is, in the history of its heap: before its first thread starts, and on the way.
use Rattle.std.specs.Prelude.{◌≡◌, ℕ, Bool, true, List, length, count_by, slice_get, Some, ◌+◌, [], ◌<◌, ◌≤◌, ◌∷◌, ◌++◌}
use Rattle.mk_core.specs.declared.{config.Config.Config, events.{Answer.Answer, Event.Event}}
use Rattle.mk_core.specs.{declared.events.Seat.TheVariants.Caller, Calls.asked, History.calls}
use Rattle.mk_script.specs.{declared.items.Item.Item, Scopes.script_names}
use Rattle.mk_check.specs.{Declarations.config_of, Feed.{feed, has_ended, is_refusal, answers_among}}
use Rattle.mk_check.specs.{Laws.{AreNotedBy, IsScript}, declared.text.Text.Text, Feeding.{FeedStandsFor, FeedState}}
use Rattle.mk_heap.specs.Below.{Words.States.has_over, Objects.TurnCycles.TurnsOfAreExact}
use Rattle.mk_heap.specs.{Hosts.{IsWhole, HasCounts}, Ending.HostComesLast}
use Rattle.mk_run.specs.declared.{outcomes.Outcome.Outcome, ready.ReadyScript.ReadyScript}
use Rattle.mk_run.specs.declared.{ready.ReadyRun.ReadyRun, scripts.Counts.Counts}
use Rattle.mk_heap.specs.Hosts as report

-- the answers of caller k's calls of a history
abbrev pub answers_in : Config → ℕ → List Event → List Answer
answers_in c k es = answers_among k (calls c es)

-- Caller k's calls of the history are those that script k asks for, once and in order, given their answers; and each
-- turn that it gave back did with cycles what its operation asks.
pub record FollowsScript (on : Bool) (program : List Item) (k : ℕ) (c : Config) (es : List Event) : Type 0 where
  pub noted : AreNotedBy program k (answers_in c k es) (asked (calls c es))
  pub exact : TurnsOfAreExact on c (Caller k) es

-- Script k ran to its end.
abbrev pub EndsScript : List Item → ℕ → Config → List Event → Type 0
EndsScript program k c es = has_ended (feed program k (answers_in c k es)) ≡ true

-- The text is that of script k for its answers in the history, with the counts of its calls.
pub record IsTextOf (program : List Item) (k : ℕ) (c : Config) (es : List Event) (text : Text) : Type 0 where
  pub bytes : text.bytes.items ≡ (feed program k (answers_in c k es)).text
  pub ops : text.ops ≡ length (answers_in c k es)
  pub refused : text.refused ≡ count_by is_refusal (answers_in c k es)

-- All scripts of the program ran to their ends on a heap of its configuration, and these are their texts. The host came
-- after them, where asked with a last cycle, and said that all is over.
pub record IsRunOf (on with_cycle : Bool) (program : List Item) (markers : ℕ) (outcome : Outcome) : Type 0 where
  pub config : report.config_of outcome.report ≡ config_of program markers
  pub whole : IsWhole (config_of program markers) (report.history_of outcome.report)
  pub counts : HasCounts (config_of program markers) (report.history_of outcome.report) outcome.report
  pub follows : (k : ℕ) → IsScript program k
      → FollowsScript on program k (config_of program markers) (report.history_of outcome.report)
  pub ends : (k : ℕ) → IsScript program k
      → EndsScript program k (config_of program markers) (report.history_of outcome.report)
  pub host :
      HostComesLast (config_of program markers).callers with_cycle (report.history_of outcome.report)
  pub over : has_over (report.history_of outcome.report) ≡ true
  pub count : length outcome.texts.items ≡ length (script_names program)
  pub texts : (k : ℕ) (text : Text) → slice_get outcome.texts.items k ≡ Some text
      → IsTextOf program k (config_of program markers) (report.history_of outcome.report) text

-- It is script k, which has no answer yet, with an engine made for so many pages.
pub record IsReadyScript {E : Type 0} (made_for : E → ℕ) (program : List Item) (pages k : ℕ) (ready : ReadyScript E)
    : Type 0 where
  pub feed : FeedStandsFor program k ready.feed []
  pub engine : made_for ready.engine ≡ pages

-- They are the scripts from k on, in order, one for each caller.
pub record AreReadyFrom {E : Type 0} (made_for : E → ℕ) (program : List Item) (c : Config) (k : ℕ)
    (scripts : List (ReadyScript E)) : Type 0 where
  pub count : k + length scripts ≡ c.callers
  pub each :
      (i : ℕ) (ready : ReadyScript E) → slice_get scripts i ≡ Some ready
      → IsReadyScript made_for program c.pages (k + i) ready

-- All scripts are ready, and so is the engine of the host.
pub record IsReadyRun {E : Type 0} {F : Type 0} (made_for : E → ℕ) (made_for_host : F → ℕ) (program : List Item)
    (c : Config) (ready : ReadyRun E F) : Type 0 where
  pub scripts : AreReadyFrom made_for program c 0 ready.scripts.items
  pub host : made_for_host ready.host ≡ c.pages

-- A script under way, with the counts of its answers and of those that refuse.
pub record Script : Type 0 where
  pub feed : FeedState
  pub ops : ℕ
  pub refused : ℕ

-- a script in the middle of its run
abbrev pub script_of : FeedState → Counts → Script
script_of s counts = record { feed = s; ops = counts.ops; refused = counts.refused }

-- Script k, fed with these answers.
pub record IsFedWith (program : List Item) (k : ℕ) (answers : List Answer) (s : Script) : Type 0 where
  pub feed : FeedStandsFor program k s.feed answers
  pub ops : s.ops ≡ length answers
  pub refused : s.refused ≡ count_by is_refusal answers

-- Whatever the first was fed with, the second is fed with that and one answer more.
abbrev pub ScriptTakesAnswer : Answer → Script → Script → Type 0
ScriptTakesAnswer a old new = (program : List Item) (k : ℕ) (answers : List Answer)
    → IsFedWith program k answers old → IsFedWith program k (answers ++ a ∷ []) new

-- One more answer may be counted.
pub record CountsHaveRoom (s : Counts) : Type 0 where
  pub ops : s.ops < 18446744073709551615
  pub refused : s.refused ≤ s.ops
