-- A text and its program, or its first fault.
use Rattle.std.specs.Prelude.{ℕ, Bool, not, List, [], ◌∷◌, length, map, filter, ◌==◌, if◌then◌else◌, ◌≡◌, ◌+◌, ◌++◌}
use Rattle.std.specs.{Prelude.{nat_le, Ok, Err}, Borrow.Bor, List.{slice_split, position_or_len, before_first}}
use Rattle.std.specs.{List.after_first, declared.result.Result.Result}
use Rattle.mk_script.specs.declared.{items.Item.Item, faults.TextStop.TextStop}
use Rattle.mk_script.specs.declared.faults.LineFault.{LineFault, TheVariants.{Text, Limit}}
use Rattle.mk_script.specs.{Scopes.open_blocks, Lines.{line_of, has_script, has_none, checked_item}}
use Rattle.mk_script.specs.declared.faults.LineStop.{LineStop, TheVariants.{Fault, NoMemory}}
use Rattle.mk_script.specs.{Operands.◌>>=◌, declared.faults.{TextKind.TextKind, Which.Which}}

-- lines or words that are borrowed, as texts
abbrev pub texts_of : List (Bor (List ℕ)) → List (List ℕ)
texts_of texts = map (λ text. text.now) texts

-- without a last line that is empty
abbrev pub without_empty_last : List (List ℕ) → List (List ℕ)
without_empty_last [] = []
without_empty_last (x ∷ []) = if length x == 0 then [] else x ∷ []
without_empty_last (x ∷ y ∷ more) = x ∷ without_empty_last (y ∷ more)

-- The lines of a text: each is ended by a newline, and the last may lack it.
abbrev pub lines_of : List ℕ → List (List ℕ)
lines_of text = without_empty_last (slice_split (λ byte. byte == 10) text)

-- it has no byte
abbrev pub is_empty : List ℕ → Bool
is_empty word = length word == 0

-- The words of a line: what stands between spaces. No other byte separates words.
abbrev pub words_of_line : List ℕ → List (List ℕ)
words_of_line line = filter (λ word. not (is_empty word)) (slice_split (λ byte. byte == 32) line)

-- where the first newline stands, or the text's length
abbrev pub newline_or_end : List ℕ → ℕ
newline_or_end text = position_or_len (λ byte. byte == 10) text

-- what stands before it
abbrev pub first_line : List ℕ → List ℕ
first_line text = before_first (λ byte. byte == 10) text

-- what stands after it
abbrev pub later_lines : List ℕ → List ℕ
later_lines text = after_first (λ byte. byte == 10) text

-- the word, unless it has no byte
abbrev pub kept_word : List ℕ → List (List ℕ)
kept_word word = filter (λ word'. not (is_empty word')) (word ∷ [])

-- a fault at a line
abbrev pub fault_at : ℕ → LineFault → TextStop
fault_at line (Text kind') = TextStop.Text line kind'
fault_at line (Limit which' found) = TextStop.Limit line which' found

-- what the end of the text finds: an open block, or no script; the last line is that of the last item
abbrev pub at_end : List Item → Result (List Item) TextStop
at_end items =
    if has_none (open_blocks items)
    then (if has_script items then Ok items else Err (TextStop.Limit (length items) Which.Scripts 0))
    else Err (TextStop.Text (length items) TextKind.End)

-- goes on with a line's item, or ends with its fault
abbrev pub go_on : {A : Type 0} → ℕ → Result Item LineFault → (Item → Result A TextStop) → Result A TextStop
go_on line (Ok item) next = next item
go_on line (Err fault) next = Err (fault_at line fault)

-- the items of all lines, where these stand after the ones that were read
abbrev pub items_behind : List (List ℕ) → List Item → Result (List Item) TextStop
items_behind [] before = at_end before
items_behind (line ∷ lines) before =
    go_on (length before + 1) (line_of before (words_of_line line)) (λ item. items_behind lines (before ++ item ∷ []))

-- A text that has no line lacks its first.
abbrev pub items_of_lines : List (List ℕ) → Result (List Item) TextStop
items_of_lines [] = Err (TextStop.Text 1 TextKind.Header)
items_of_lines (line ∷ lines) = items_behind (line ∷ lines) []

-- how many bytes a text may have
abbrev pub longest_text : ℕ
longest_text = 1048576

-- what is wrong with one that has more
abbrev pub too_long : LineFault
too_long = Limit Which.Bytes (longest_text + 1)

-- The program of a text: an item a line; or the first fault.
abbrev pub program_of : List ℕ → Result (List Item) TextStop
program_of text =
    if nat_le (length text) longest_text then items_of_lines (lines_of text) else Err (fault_at 0 too_long)

-- There is a text of this program.
abbrev pub IsOfSomeText : List Item → Type 0
IsOfSomeText items = (text : List ℕ) × (program_of text ≡ Ok items)

-- What a call gives, unless memory runs out.
-- Private functions alone cite these words.

-- what is found, where it may stand after these
abbrev pub checked_behind : List Item → Result Item LineFault → Result Item LineFault
checked_behind before found = found >>= checked_item before

-- the same, of a text
abbrev pub stop_at : ℕ → LineStop → TextStop
stop_at line (Fault fault) = fault_at line fault
stop_at line NoMemory = TextStop.NoMemory

-- the item, if a check passes it
abbrev pub kept_if : {A : Type 0} → Result A LineFault → Item → Result Item LineFault
kept_if (Ok passed) item = Ok item
kept_if (Err fault) item = Err fault
