-- The commands of the words.
use Rattle.std.specs.Prelude.{ℕ, Bool, true, false, ◌<◌, ◌≤◌, ◌||◌, nat_lt, nat_le, List, [], ◌∷◌, Option, Some, None}
use Rattle.std.specs.{Prelude.{option_and_then, option_map, if◌then◌else◌}, Str.bytes_eq}
use Rattle.mk_script.specs.Operands.{number_of_word}
use Rattle.mk_outputs.specs.{declared.commands.Command.Command, declared.commands.Command.TheVariants.{OnText, Gen}}
use Rattle.mk_outputs.specs.{declared.commands.Marking.Marking, declared.commands.Marking.TheVariants.{Stop, Beside}}
use Rattle.mk_outputs.specs.{declared.commands.Marking.TheVariants.Sweep, declared.commands.TextCommand.TextCommand}
use Rattle.mk_outputs.specs.declared.commands.TextCommand.TheVariants.{Run, Check, Print, Replay, Trace}
use Rattle.mk_outputs.specs.Given.{Given, Numbers, no_number, one_number, two_numbers, runs, gens, bare, given_by}
use lib.Chars.{codes}

-- the number of markers, 0 to 8, and 0 where none is given
abbrev pub markers_of : Option (List ℕ) → Option ℕ
markers_of None = Some 0
markers_of (Some digits) = option_and_then (λ n. if nat_le n 8 then Some n else None) (number_of_word digits)

-- Cycles mark by tracing: beside the scripts where there are markers, and else in the stop.
abbrev pub traced_by : ℕ → Marking
traced_by markers = if nat_lt 0 markers then Beside markers else Stop

-- A sweep goes with no markers.
abbrev pub marking_by : Bool → ℕ → Option Marking
marking_by true markers = if nat_lt 0 markers then None else Some Sweep
marking_by false markers = Some (traced_by markers)

-- `run` with these options, if they go together
abbrev pub run_with : Bool → Bool → Bool → ℕ → Option Command
run_with sweep why report markers =
    option_map (λ marking. OnText (Run (record { marking = marking; why = why; report = report })))
    (marking_by sweep markers)

-- `run` with what was given
abbrev pub run_of : Given → Option Command
run_of g = option_and_then (run_with g.sweep g.why g.report) (markers_of g.markers)

-- the first number that was given
abbrev pub start_of : Numbers → Option (List ℕ)
start_of no_number = None
start_of (one_number start) = Some start
start_of (two_numbers start count) = Some start

-- the second one
abbrev pub count_of : Numbers → Option (List ℕ)
count_of (two_numbers start count) = Some count
count_of _ = None

-- `gen` with these numbers, if they are within their bounds
abbrev pub gen_with : ℕ → ℕ → ℕ → Option Command
gen_with markers start count = if nat_lt count 48 || nat_lt 3000000 count then None
    else Some (Gen (record { start = start; count = count; markers = markers }))

-- the same, if all three are there
abbrev pub gen_from : Option ℕ → Option ℕ → Option ℕ → Option Command
gen_from markers start count =
    option_and_then (λ m. option_and_then (λ s. option_and_then (gen_with m s) count) start) markers

-- `gen` with what was given
abbrev pub gen_of : Given → Option Command
gen_of g = gen_from (markers_of g.markers) (option_and_then number_of_word (start_of g.numbers))
    (option_and_then number_of_word (count_of g.numbers))

-- the command of this name, with what the words after it give
abbrev pub command_named : List ℕ → List (List ℕ) → Option Command
command_named name words =
    if bytes_eq name (codes "run") then option_and_then run_of (given_by runs words)
    else if bytes_eq name (codes "check") then option_and_then (λ _. Some (OnText Check)) (given_by bare words)
    else if bytes_eq name (codes "print") then option_and_then (λ _. Some (OnText Print)) (given_by bare words)
    else if bytes_eq name (codes "replay") then option_and_then (λ _. Some (OnText Replay)) (given_by bare words)
    else if bytes_eq name (codes "gen") then option_and_then gen_of (given_by gens words)
    else if bytes_eq name (codes "trace") then option_and_then (λ _. Some (OnText Trace)) (given_by bare words)
    else None

-- how many markers there are
abbrev pub markers_beside : Marking → ℕ
markers_beside (Beside markers) = markers
markers_beside _ = 0

-- cycles sweep
abbrev pub is_sweep : Marking → Bool
is_sweep Sweep = true
is_sweep _ = false

-- Beside the scripts there are markers, and no more than a heap has.
abbrev pub MarkersAreWithin : Marking → Type 0
MarkersAreWithin (Beside markers) = (0 < markers) × (markers ≤ 8)
MarkersAreWithin _ = Unit {0}

-- The number of markers is within its bounds.
abbrev pub AreWithin : TextCommand → Type 0
AreWithin (Run options) = MarkersAreWithin options.marking
AreWithin _ = Unit {0}

-- A program that is generated makes no more turns than a script may have.
abbrev pub IsWithin : Command → Type 0
IsWithin (OnText on_text) = AreWithin on_text
IsWithin (Gen request) = (request.count ≤ 3000000) × (request.markers ≤ 8)

-- The command of the words: the first names it, and the others are its numbers and options. `--markers K` and
-- `--markers=K` may stand anywhere after the name. After `--` there are no options.
abbrev pub command_of : List (List ℕ) → Option Command
command_of [] = None
command_of (name ∷ words) = command_named name words
