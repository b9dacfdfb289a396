-- What a command writes, and the status that it ends with where nothing fails.
use Rattle.std.specs.{declared.result.Result.Result, Prelude.{◌≡◌, ◌⊎◌, ℕ, List, Option, Some, None, IsSomeAnd}}
use Rattle.std.specs.Prelude.{Ok as Accepted, Err as Refused}
use Rattle.mk_core.specs.{declared.events.Event.Event, History.AreEnabled}
use Rattle.mk_run.specs.Below.Laws.Promises.{KeepsAllPromises}
use Rattle.mk_io.specs.{Bytes.TakesAll, declared.reading.ReadStop.ReadStop}
use Rattle.mk_script.specs.{declared.faults.Which.TheVariants.Bytes, declared.items.Item.Item}
use Rattle.mk_script.specs.{declared.faults.TextStop.TextStop, Grammar.program_of, Canonical.canonical_text}
use Rattle.mk_check.specs.{declared.typing_faults.TypeStop.TypeStop, Typing.{TypingFault, first_typing_fault}}
use Rattle.mk_check.specs.{Declarations.config_of, Feed.output as output_behind}
use Rattle.mk_outputs.specs.{declared.commands.Command.Command, Generated.generated_program}
use Rattle.mk_outputs.specs.declared.commands.TextCommand.{TextCommand}
use Rattle.mk_outputs.specs.declared.commands.TextCommand.TheVariants.{Run, Check, Print, Replay, Trace}
use Rattle.mk_outputs.specs.{declared.commands.Request.Request, declared.outputs.Output.Output, Commands.command_of}
use Rattle.mk_outputs.specs.{declared.statuses.Status.Status, declared.statuses.Status.TheVariants.{Ok, NoMemory}}
use Rattle.mk_outputs.specs.declared.statuses.Status.TheVariants.{ReadFault, Text, IllTyped, Limit, NotEnabled}
use Rattle.mk_outputs.specs.RunOutputs.{IsOutputOfRun, IsSummaryOfRun}
use Rattle.mk_replay.specs.{declared.schedule.Entry.Entry, declared.replaying.ReplayStop.ReplayStop}
use Rattle.mk_replay.specs.{Schedules.replay_of, Replays.{history_of, refusal_of}}
use Rattle.mk_trace.specs.{declared.faults.TraceStop.TraceStop, declared.peaks.Peaks.Peaks}
use Rattle.mk_trace.specs.{Grammar.{Contents, trace_of}, Playing.{IsPlayed, ArePeaks}, Peaks.peaks_text}
use Rattle.mk_run.specs.Below.Heaps.Hosts.{history_of as history_of_report}
use lib.Chars.{codes}

-- where a program is well typed, this status; else that of its least ill-typed line
abbrev pub typed_or : Option TypingFault → Status → Status
typed_or None status = status
typed_or (Some fault) status = IllTyped fault.line fault.kind

-- To be printed a program needn't be well typed.
abbrev pub status_of_program : TextCommand → List Item → Status
status_of_program Print program = Ok
status_of_program _ program = typed_or (first_typing_fault program) Ok

-- what reading all of an input is refused for
abbrev pub status_of_read_stop : ReadStop → Status
status_of_read_stop ReadStop.ReadFault = ReadFault
status_of_read_stop ReadStop.TooLong = Limit 0 Bytes 1048577
status_of_read_stop ReadStop.NoMemory = NoMemory

-- the status of a text that is refused
abbrev pub status_of_text_stop : TextStop → Status
status_of_text_stop (TextStop.Text line kind) = Text line kind
status_of_text_stop (TextStop.Limit line which found) = Limit line which found
status_of_text_stop TextStop.NoMemory = NoMemory

-- the status of what is accepted, or that of the refusal
abbrev pub status_by : {X Stop : Type 0} → (X → Status) → (Stop → Status) → Result X Stop → Status
status_by accepted refused (Accepted x) = accepted x
status_by accepted refused (Refused stop) = refused stop

-- the status of an ill-typed program
abbrev pub status_of_type_stop : TypeStop → Status
status_of_type_stop (TypeStop.IllTyped line kind) = IllTyped line kind
status_of_type_stop TypeStop.NoMemory = NoMemory

-- the first event that isn't enabled, or none
abbrev pub status_of_refusal : Option ReplayStop → Status
status_of_refusal None = Ok
status_of_refusal (Some (ReplayStop.NotEnabled line event condition)) = NotEnabled line event condition
status_of_refusal (Some ReplayStop.NoMemory) = NoMemory

-- the status of a replay
abbrev pub status_of_schedule : List Item → List Entry → Status
status_of_schedule program schedule =
    typed_or (first_typing_fault program) (status_of_refusal (refusal_of program schedule))

-- the status of a trace that is refused
abbrev pub status_of_trace_stop : TraceStop → Status
status_of_trace_stop (TraceStop.Text line kind) = Text line kind
status_of_trace_stop (TraceStop.IllTyped line kind) = IllTyped line kind
status_of_trace_stop (TraceStop.Limit line which found) = Limit line which found
status_of_trace_stop TraceStop.NoMemory = NoMemory

-- The status of a command on an input, where nothing fails. Each trace without a fault is played to its end.
abbrev pub status_on : TextCommand → List ℕ → Status
status_on Replay input =
    status_by (λ parts. status_of_schedule parts.0 parts.1) status_of_text_stop (replay_of input)
status_on Trace input = status_by (λ _. Ok) status_of_trace_stop (trace_of input)
status_on command input = status_by (status_of_program command) status_of_text_stop (program_of input)

-- What a command writes on a program. What a run writes is of the history that the report on its heap has.
abbrev pub IsOutputOf : TextCommand → List Item → Output → Type 0
IsOutputOf (Run options) program output = IsSomeAnd output.report
    (λ report. IsOutputOfRun options program (history_of_report report) output.bytes.items)
IsOutputOf Check program output = output.bytes.items ≡ codes "ok\n"
IsOutputOf Print program output = output.bytes.items ≡ canonical_text program
IsOutputOf _ program output = ⊥

-- what a command on a program writes on one that it accepts
pub record IsOutputOnProgram (command : TextCommand) (input : List ℕ) (output : Output) : Type 0 where
  pub program : List Item
  pub is_text : program_of input ≡ Accepted program
  pub accepted : status_of_program command program ≡ Ok
  pub output_is : IsOutputOf command program output

-- what `replay` writes on a schedule whose history is enabled, and keeps all promises: the texts of the scripts so far
pub record IsOutputOnSchedule (input output : List ℕ) : Type 0 where
  pub program : List Item
  pub schedule : List Entry
  pub is_text : replay_of input ≡ Accepted (program, schedule)
  pub accepted : status_of_schedule program schedule ≡ Ok
  pub enabled : AreEnabled (config_of program 8) (history_of program schedule)
  pub promises : KeepsAllPromises (config_of program 8) (history_of program schedule)
  pub output_is : output ≡ output_behind program (config_of program 8) (history_of program schedule)

-- What is written of a trace that was played: the lines of the peaks of the history that its playing made.
pub record TellsOfPlay (contents : Contents) (output : List ℕ) : Type 0 where
  pub history : List Event
  pub played : IsPlayed contents history
  pub peaks : Peaks
  pub are_peaks : ArePeaks contents history peaks
  pub output_is : output ≡ peaks_text peaks

-- what `trace` writes on a text that is a trace without fault
pub record IsOutputOnTrace (input output : List ℕ) : Type 0 where
  pub contents : Contents
  pub is_text : trace_of input ≡ Accepted contents
  pub output_is : TellsOfPlay contents output

-- what a command writes on an input that it accepts
abbrev pub IsOutput : TextCommand → List ℕ → Output → Type 0
IsOutput Replay input output = IsOutputOnSchedule input output.bytes.items
IsOutput Trace input output = IsOutputOnTrace input output.bytes.items
IsOutput command input output = IsOutputOnProgram command input output

-- An input was read from the source to its end, and this is what the command writes on it. Where the source doesn't
-- tell its bytes, there is such an input.
pub record IsOutputOnSource (command : TextCommand) (old new : Option (List ℕ)) (output : Output) : Type 0 where
  pub input : List ℕ
  pub read : TakesAll old new input
  pub is_output : IsOutput command input output

-- What `gen` writes: it sums up the run of the generated program. Nothing is read.
pub record IsOutputOfRequest (request : Request) (old new : Option (List ℕ)) (output : Output) : Type 0 where
  pub unread : new ≡ old
  pub output_is : IsSomeAnd output.report (λ report. IsSummaryOfRun (generated_program request.start request.count)
      request.markers (history_of_report report) output.bytes.items)

-- What the command writes, whether it reads a text or not.
abbrev pub IsOutputOfCommand : Command → Option (List ℕ) → Option (List ℕ) → Output → Type 0
IsOutputOfCommand (Command.OnText on_text) old new output = IsOutputOnSource on_text old new output
IsOutputOfCommand (Command.Gen request) old new output = IsOutputOfRequest request old new output

-- W holds of what the words' command writes, where the source had one list of bytes left, and then the other.
pub record HasAnswered (words : List (List ℕ)) (old new : Option (List ℕ)) (W : List ℕ → Type 0) : Type 0 where
  pub command : Command
  pub output : Output
  pub named : command_of words ≡ Some command
  pub answers : IsOutputOfCommand command old new output
  pub written : W output.bytes.items

-- The command's status on what is left of the source, or no memory.
abbrev pub IsStatusOf : Command → Option (List ℕ) → Status → Type 0
IsStatusOf (Command.OnText on_text) (Some input) status = (status ≡ NoMemory) ⊎ (status ≡ status_on on_text input)
IsStatusOf (Command.OnText on_text) None status = Unit {0}
IsStatusOf (Command.Gen request) left status = (status ≡ NoMemory) ⊎ (status ≡ Ok)

-- The status that the command has on this input.
abbrev pub IsStatusOn : Option Command → Option (List ℕ) → Status → Type 0
IsStatusOn (Some command) left status = IsStatusOf command left status
IsStatusOn None left status = Unit {0}

-- Words of no form have no read, and `gen` has none, whatever it answers.
abbrev pub HasNoRead : Option Command → Type 0
HasNoRead (Some (Command.OnText on_text)) = ⊥
HasNoRead _ = Unit {0}
