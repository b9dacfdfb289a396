-- A text of a script part and a schedule: its program and the events, or its first fault; and how it is read.
use Rattle.std.specs.Prelude.{ℕ, ◌+◌, Bool, false, ◌&&◌, nat_le, ◌==◌, if◌then◌else◌, List, [], ◌∷◌, ◌++◌, length, map}
use Rattle.std.specs.{Prelude.{Option, Some, None, Ok, Err, ◌≡◌, ◌≤◌, take, drop, ◌<◌}, declared.result.Result.Result}
use Rattle.std.specs.{List.onto_first, Str.bytes_eq}
use Rattle.mk_core.specs.{declared.events.Seat.Seat, declared.events.Step.Step}
use Rattle.mk_script.specs.{declared.items.Item.Item, declared.faults.TextKind.TextKind}
use Rattle.mk_script.specs.{declared.faults.TextStop.TextStop, Grammar.{lines_of, words_of_line, fault_at}}
use Rattle.mk_script.specs.Grammar.{longest_text, too_long, items_of_lines}
use Rattle.mk_replay.specs.{declared.schedule.Entry.Entry, Forms.{both, form_of, seat_of}}
use lib.Chars.{codes}

-- A line is cut at each `; `, from left to right.
unfoldable pub pieces_of : List ℕ → List (List ℕ)
pieces_of [] = [] ∷ []
pieces_of (byte ∷ []) = (byte ∷ []) ∷ []
pieces_of (byte ∷ next ∷ rest) =
    if (byte == 59) && (next == 32) then [] ∷ pieces_of rest else onto_first byte (pieces_of (next ∷ rest))

-- the steps of a line of events
abbrev pub forms_of : List (List (List ℕ)) → Result (List Step) TextKind
forms_of [] = Ok []
forms_of (words ∷ more) = both (λ form forms. form ∷ forms) (form_of words) (forms_of more)

-- the events of a line, from a place on
abbrev pub entries_from : ℕ → ℕ → Seat → List Step → List Entry
entries_from line place seat [] = []
entries_from line place seat (form ∷ forms) =
    record { seat = seat; form = form; line = line; place = place } ∷ entries_from line (place + 1) seat forms

-- The first piece of a line begins with the seat.
abbrev pub entries_of_pieces : ℕ → List (List (List ℕ)) → Result (List Entry) TextKind
entries_of_pieces line [] = Err TextKind.Word
entries_of_pieces line ([] ∷ pieces) = Err TextKind.Word
entries_of_pieces line ((seat ∷ words) ∷ pieces) = both (entries_from line 1) (seat_of seat) (forms_of (words ∷ pieces))

-- the events of a line, with their seat
abbrev pub entries_of_line : ℕ → List ℕ → Result (List Entry) TextKind
entries_of_line line text = entries_of_pieces line (map words_of_line (pieces_of text))

-- goes on after a line's events, or ends with its fault
abbrev pub go_on : ℕ → Result (List Entry) TextKind → Result (List Entry) TextStop → Result (List Entry) TextStop
go_on line (Err fault) later = Err (TextStop.Text line fault)
go_on line (Ok entries) (Err fault) = Err fault
go_on line (Ok entries) (Ok later) = Ok (entries ++ later)

-- the events of lines, the first of which has this number
unfoldable pub entries_of_lines : ℕ → List (List ℕ) → Result (List Entry) TextStop
entries_of_lines line [] = Ok []
entries_of_lines line (text ∷ texts) = go_on line (entries_of_line line text) (entries_of_lines (line + 1) texts)

-- The only word of the line is `schedule`.
abbrev pub is_only_word : List (List ℕ) → Bool
is_only_word (word ∷ []) = bytes_eq word (codes "schedule")
is_only_word words = false

-- the line's only word is `schedule`
abbrev pub is_schedule_line : List ℕ → Bool
is_schedule_line line = is_only_word (words_of_line line)

-- the lines before the first of these, which are the script part, and those after it
unfoldable pub script_lines : List (List ℕ) → List (List ℕ)
script_lines [] = []
script_lines (line ∷ lines) = if is_schedule_line line then [] else line ∷ script_lines lines

-- the lines after it
unfoldable pub schedule_lines : List (List ℕ) → Option (List (List ℕ))
schedule_lines [] = None
schedule_lines (line ∷ lines) = if is_schedule_line line then Some lines else schedule_lines lines

-- the events after a script part of this many lines
abbrev pub schedule_behind : ℕ → Option (List (List ℕ)) → Result (List Entry) TextStop
schedule_behind count None = Err (TextStop.Text count TextKind.End)
schedule_behind count (Some lines) = entries_of_lines (count + 2) lines

-- the script part with the schedule, or the first fault
abbrev pub with_schedule : Result (List Item) TextStop → Result (List Entry) TextStop
    → Result (List Item × List Entry) TextStop
with_schedule (Err fault) entries = Err fault
with_schedule (Ok items) (Err fault) = Err fault
with_schedule (Ok items) (Ok entries) = Ok (items, entries)

-- the script part and the schedule of a text
abbrev pub replay_of_lines : List (List ℕ) → Result (List Item × List Entry) TextStop
replay_of_lines lines =
    with_schedule (items_of_lines (script_lines lines))
    (schedule_behind (length (script_lines lines)) (schedule_lines lines))

-- The program and the schedule of a text, or the first fault. Faults of the script part come first.
abbrev pub replay_of : List ℕ → Result (List Item × List Entry) TextStop
replay_of text =
    if nat_le (length text) longest_text then replay_of_lines (lines_of text) else Err (fault_at 0 too_long)

-- What reading a line gives. Private functions alone cite these words.

-- the expected entries stand after the old ones
pub record AddsEntries (expected : Result (List Entry) TextKind) (old new : List Entry) : Type 0 where
  pub entries : List Entry
  pub are : expected ≡ Ok entries
  pub added : new ≡ old ++ entries

-- a line's fault, unless memory ran out
pub record IsFaultOf (line : ℕ) (expected : Result (List Entry) TextKind) (stop : TextStop) : Type 0 where
  pub kind : TextKind
  pub is_fault : expected ≡ Err kind
  pub told : stop ≡ TextStop.Text line kind

-- a line's first piece ends there, and others follow
pub record IsEndOfPiece (text : List ℕ) (end : ℕ) : Type 0 where
  pub inside : end + 2 ≤ length text
  pub pieces : pieces_of text ≡ take end text ∷ pieces_of (drop (end + 2) text)

-- the forms of the pieces so far, or the fault that is to be named
abbrev pub forms_so_far : Option TextKind → List Step → Result (List Step) TextKind
forms_so_far None forms = Ok forms
forms_so_far (Some fault) forms = Err fault

-- one form more
abbrev pub with_form : Result (List Step) TextKind → Result Step TextKind → Result (List Step) TextKind
with_form forms form = both (λ before last. before ++ last ∷ []) forms form

-- the forms of a line whose first piece's form is this, and whose other pieces are these
abbrev pub forms_with : Result Step TextKind → List (List ℕ) → Result (List Step) TextKind
forms_with first others = both (λ form forms. form ∷ forms) first (forms_of (map words_of_line others))

-- What the reader of a whole text finds on its way.
-- Private functions alone cite these words.

-- The schedule line stands at this place of the lines.
pub record StandsAt (lines : List (List ℕ)) (place : ℕ) : Type 0 where
  pub inside : place < length lines
  pub before : script_lines lines ≡ take place lines
  pub behind : schedule_lines lines ≡ Some (drop (place + 1) lines)

-- No line is the schedule line.
pub record HasNone (lines : List (List ℕ)) : Type 0 where
  pub before : script_lines lines ≡ lines
  pub behind : schedule_lines lines ≡ None

-- the length of lines with a newline after each
abbrev pub text_length : List (List ℕ) → ℕ
text_length [] = 0
text_length (line ∷ lines) = length line + 1 + text_length lines
