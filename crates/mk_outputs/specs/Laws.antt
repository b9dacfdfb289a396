-- What is written of runs, by what can be observed of them, and what the programs of the generator are.
use Rattle.std.specs.Prelude.{◌≡◌, ℕ, false, List, [], ◌++◌, Option, Some, IfSome, Ok as Accepted, ◌+◌, ◌*◌, true, ◌∷◌}
use Rattle.std.specs.Prelude.{replicate, length}
use Rattle.mk_never.specs.declared.types.Kind.TheVariants.{Num, To}
use Rattle.mk_core.specs.declared.events.Answer.{Answer}
use Rattle.mk_script.specs.{declared.items.Item.Item, Grammar.program_of, Scopes.script_names}
use Rattle.mk_check.specs.{Observed.{ObservedRun, told_to}, Typing.IsWellTyped, Blocks.{script_of, script_length}}
use Rattle.mk_check.specs.{Declarations.{pages_of, resident_of, types_of, globals_of}, Feed.{feed, has_ended}}
use Rattle.mk_outputs.specs.{declared.commands.Command.Command, declared.commands.Command.TheVariants.{OnText, Gen}}
use Rattle.mk_outputs.specs.{declared.commands.Options.Options, declared.commands.TextCommand.TheVariants.Run}
use Rattle.mk_outputs.specs.{Commands.command_of, Generated.{generated_program, all_names}, RunOutputs.summary_by}

-- What is written of a run, by what can be observed of it: the calls of its scripts, and what they print where a heap
-- that never reuses storage replies to them.

-- The bytes begin with what the scripts of a run print. More comes after it only where more is asked for.
pub record BeginsWithRun (options : Options) (program : List Item) (bytes : List ℕ) : Type 0 where
  pub texts : List ℕ
  pub more : List ℕ
  pub run : ObservedRun program texts
  pub bytes_are : bytes ≡ texts ++ more
  pub no_more : options.report ≡ false → options.why ≡ false → more ≡ []

-- What is left to read, where this is known, is the text of a well typed program, which runs.
pub record IsSeenOfText (options : Options) (left : Option (List ℕ)) (bytes : List ℕ) : Type 0 where
  pub program : List Item
  pub is_text : IfSome left (λ input. program_of input ≡ Accepted program)
  pub is_well_typed : IsWellTyped program
  pub begins : BeginsWithRun options program bytes

-- The bytes sum up a run: how many replies each script is told, and how many of them are refusals.
pub record SumsUpRun (program : List Item) (bytes : List ℕ) : Type 0 where
  pub texts : List ℕ
  pub run : ObservedRun program texts
  pub bytes_are : bytes ≡ summary_by program (told_to program run.calls)

-- Of the other commands this says nothing.
abbrev pub IsSeen : Command → Option (List ℕ) → List ℕ → Type 0
IsSeen (OnText (Run options)) left bytes = IsSeenOfText options left bytes
IsSeen (Gen request) left bytes = SumsUpRun (generated_program request.start request.count) bytes
IsSeen _ left bytes = Unit {0}

-- So is what the words' command writes, where the source had this left and W holds of what was written.
pub record HasSeen (words : List (List ℕ)) (left : Option (List ℕ)) (W : List ℕ → Type 0) : Type 0 where
  pub command : Command
  pub bytes : List ℕ
  pub named : command_of words ≡ Some command
  pub is_seen : IsSeen command left bytes
  pub written : W bytes

-- A heap of 256 pages, all of which may be resident; a type of a number and a link to its like, and one of this many
-- numbers; a global for the first; and the scripts.
pub record DeclaresNodes (program : List Item) (numbers : ℕ) : Type 0 where
  pub pages : pages_of program ≡ 256
  pub resident : resident_of program ≡ 256
  pub types : types_of program ≡ (Num ∷ To 0 0 ∷ []) ∷ replicate numbers Num ∷ []
  pub globals : globals_of program ≡ 0 ∷ []
  pub scripts : script_names program ≡ all_names

-- Script k executes 1 instruction and 14 a turn. Where it has ended it has made 12 calls a turn, whatever they were
-- answered.
pub record MakesTurns (program : List Item) (k turns : ℕ) : Type 0 where
  pub instructions : script_length (script_of program k) ≡ 1 + 14 * turns
  pub calls :
      (answers : List Answer) → has_ended (feed program k answers) ≡ true
      → length (feed program k answers).ops ≡ 12 * turns
