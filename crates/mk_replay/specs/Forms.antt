-- The words of an event and of a seat.
use Rattle.std.specs.Prelude.{ℕ, ◌==◌, if◌then◌else◌, false, List, [], ◌∷◌, Option, Some, None, ok_or, Ok, Err}
use Rattle.std.specs.{declared.result.Result.Result, Option.option_map_or, Str.bytes_eq}
use Rattle.mk_never.specs.declared.operations.Op.{Op}
use Rattle.mk_core.specs.{declared.events.Seat.Seat, declared.events.Word.Word, declared.events.Tally.Tally}
use Rattle.mk_core.specs.declared.events.Step.{Step}
use Rattle.mk_script.specs.{declared.faults.TextKind.TextKind, Operands.number_of_word}
use Rattle.mk_replay.specs.declared.forms.FormOfNumber.{FormOfNumber}
use Rattle.mk_replay.specs.declared.forms.FormOfNumber.TheVariants.{Hold, Open, Clear, Wipe, Undirty, Unblack}
use Rattle.mk_replay.specs.{declared.forms.FormOfNumbers.FormOfNumbers, declared.forms.WordOfNumber.WordOfNumber}
use lib.Chars.{codes}

-- the value that a word is listed with
abbrev pub value_among : {A : Type 0} → List (List ℕ × A) → List ℕ → Option A
value_among [] w = None
value_among (x ∷ xs) w = if bytes_eq w x.0 then Some x.1 else value_among xs w

-- the first of two faults in a line: a form that isn't there comes before something that isn't a number
abbrev pub worse_fault : TextKind → TextKind → TextKind
worse_fault TextKind.Word other = TextKind.Word
worse_fault first TextKind.Word = TextKind.Word
worse_fault first other = first

-- what both parts say, or the first fault
abbrev pub both : {A B C : Type 0} → (A → B → C) → Result A TextKind → Result B TextKind → Result C TextKind
both f (Ok x) (Ok y) = Ok (f x y)
both f (Ok x) (Err e) = Err e
both f (Err e) (Ok y) = Err e
both f (Err e) (Err e') = Err (worse_fault e e')

-- what the part says, or its fault
abbrev pub on_ok : {A B : Type 0} → (A → B) → Result A TextKind → Result B TextKind
on_ok f (Ok x) = Ok (f x)
on_ok f (Err e) = Err e

-- the number that a word is
abbrev pub number : List ℕ → Result ℕ TextKind
number w = ok_or (number_of_word w) TextKind.Number

-- A form is a step but for its operation: an `enter` has one that no `enter` may carry, and a `take` has none.
abbrev pub nothing_to_enter : Op
nothing_to_enter = Op.New 0 0 false

-- forms without a number
abbrev pub plain_forms : List (List ℕ × Step)
plain_forms =
    (codes "enter", Step.Enter nothing_to_enter) ∷ (codes "leave", Step.Leave) ∷ (codes "reg", Step.Reg)
    ∷ (codes "probe", Step.Probe) ∷ (codes "read", Step.Read) ∷ (codes "write", Step.Write) ∷ (codes "cas", Step.Cas)
    ∷ (codes "getg", Step.Getg) ∷ (codes "setg", Step.Setg) ∷ (codes "take", Step.Take None) ∷ (codes "give", Step.Give)
    ∷ (codes "grant", Step.Grant) ∷ (codes "full", Step.Full) ∷ (codes "begin", Step.Begin)
    ∷ (codes "close", Step.Close) ∷ (codes "release", Step.Release) ∷ (codes "end", Step.End)
    ∷ (codes "want", Step.Want) ∷ (codes "dirty", Step.Dirty) ∷ (codes "attend", Step.Attend)
    ∷ (codes "quit", Step.Quit) ∷ (codes "mload", Step.Mload) ∷ (codes "mmark", Step.Mmark)
    ∷ (codes "mblack", Step.Mblack) ∷ (codes "over", Step.Over) ∷ []

-- forms of one number
abbrev pub forms_of_number : List (List ℕ × (ℕ → Step))
forms_of_number =
    (codes "hold", (λ n. Step.Hold n)) ∷ (codes "open", (λ n. Step.Open n)) ∷ (codes "clear", (λ n. Step.Clear n))
    ∷ (codes "wipe", (λ n. Step.Wipe n)) ∷ (codes "undirty", (λ n. Step.Undirty n))
    ∷ (codes "unblack", (λ n. Step.Unblack n)) ∷ []

-- forms of two numbers
abbrev pub forms_of_numbers : List (List ℕ × (ℕ → ℕ → Step))
forms_of_numbers =
    (codes "head", (λ p v. Step.Head p v)) ∷ (codes "used", (λ p v. Step.Used p v))
    ∷ (codes "quar", (λ p v. Step.Quar p v))
    ∷ (codes "mark", (λ p v. Step.Mark p v)) ∷ (codes "black", (λ p v. Step.Black p v))
    ∷ (codes "claim", (λ p k. Step.Claim p k)) ∷ []

-- the names of tallies
abbrev pub tallies : List (List ℕ × Tally)
tallies =
    (codes "held", Tally.Held) ∷ (codes "fresh", Tally.Fresh) ∷ (codes "cycles", Tally.Cycles)
    ∷ (codes "released", Tally.Released) ∷ (codes "full", Tally.Full) ∷ []

-- the words of the table whose names are one word
abbrev pub plain_words : List (List ℕ × Word)
plain_words =
    (codes "phase", Word.Phase) ∷ (codes "held", Word.Held) ∷ (codes "fresh", Word.Fresh)
    ∷ (codes "cycles", Word.Cycles)
    ∷ (codes "released", Word.Released) ∷ (codes "full", Word.Full) ∷ []

-- words of the table with one number
abbrev pub words_of_number : List (List ℕ × (ℕ → Word))
words_of_number =
    (codes "gate", (λ n. Word.Gate n)) ∷ (codes "global", (λ n. Word.Global n)) ∷ (codes "head", (λ n. Word.Head n))
    ∷ (codes "used", (λ n. Word.Used n)) ∷ (codes "quar", (λ n. Word.Quar n)) ∷ (codes "mark", (λ n. Word.Mark n))
    ∷ (codes "black", (λ n. Word.Black n)) ∷ (codes "dirty", (λ n. Word.Dirty n))
    ∷ (codes "heap", (λ n. Word.Heap n)) ∷ []

-- a word of the table, by its words
abbrev pub table_word : List (List ℕ) → Result Word TextKind
table_word (a ∷ []) = ok_or (value_among plain_words a) TextKind.Word
table_word (a ∷ n ∷ []) =
    option_map_or (λ word. on_ok word (number n)) (value_among words_of_number a) (Err TextKind.Word)
table_word (a ∷ c ∷ r ∷ []) =
    if bytes_eq a (codes "reg")
    then both (λ caller register. Word.Reg caller register) (number c) (number r)
    else Err TextKind.Word
table_word _ = Err TextKind.Word

-- a look at a word of the table
abbrev pub look_form : List ℕ → List (List ℕ) → Result Step TextKind
look_form a ws =
    if bytes_eq a (codes "look")
    then on_ok (λ x. Step.Look x) (table_word ws)
    else if bytes_eq a (codes "mlook") then on_ok (λ x. Step.Mlook x) (table_word ws) else Err TextKind.Word

-- the form of a `tally`
abbrev pub tally_form : List ℕ → List ℕ → Result Step TextKind
tally_form n v = both (λ t value. Step.Tally t value) (ok_or (value_among tallies n) TextKind.Word) (number v)

-- an event of two numbers, a tally or a word of one number
abbrev pub two_operands : List ℕ → List ℕ → List ℕ → Result Step TextKind
two_operands a v w =
    if bytes_eq a (codes "tally")
    then tally_form v w
    else option_map_or (λ f. both f (number v) (number w)) (value_among forms_of_numbers a) (look_form a (v ∷ w ∷ []))

-- an event of two words
abbrev pub one_operand : List ℕ → List ℕ → Result Step TextKind
one_operand a v = option_map_or (λ f. on_ok f (number v)) (value_among forms_of_number a) (look_form a (v ∷ []))

-- the form of an event, by its words
abbrev pub form_of : List (List ℕ) → Result Step TextKind
form_of [] = Err TextKind.Word
form_of (a ∷ []) = ok_or (value_among plain_forms a) TextKind.Word
form_of (a ∷ v ∷ []) = one_operand a v
form_of (a ∷ v ∷ w ∷ []) = two_operands a v w
form_of (a ∷ u ∷ v ∷ w ∷ more) = look_form a (u ∷ v ∷ w ∷ more)

-- a seat, by its word
abbrev pub seat_of : List ℕ → Result Seat TextKind
seat_of [] = Err TextKind.Word
seat_of (letter ∷ rest) =
    if letter == 99
    then on_ok (λ n. Seat.Caller n) (number rest)
    else if letter == 109
    then on_ok (λ n. Seat.Marker n) (number rest)
    else if bytes_eq (letter ∷ rest) (codes "h") then Ok Seat.Host else Err TextKind.Word

-- Forms, and words of the table, with their numbers. Private functions alone cite these words.

-- the step of a form with one number
abbrev pub form_of_number : FormOfNumber → ℕ → Step
form_of_number Hold = λ n. Step.Hold n
form_of_number Open = λ n. Step.Open n
form_of_number Clear = λ n. Step.Clear n
form_of_number Wipe = λ n. Step.Wipe n
form_of_number Undirty = λ n. Step.Undirty n
form_of_number Unblack = λ n. Step.Unblack n

-- the step of a form with two numbers
abbrev pub form_of_numbers : FormOfNumbers → ℕ → ℕ → Step
form_of_numbers FormOfNumbers.Head = λ page value. Step.Head page value
form_of_numbers FormOfNumbers.Used = λ page value. Step.Used page value
form_of_numbers FormOfNumbers.Quar = λ page value. Step.Quar page value
form_of_numbers FormOfNumbers.Mark = λ page value. Step.Mark page value
form_of_numbers FormOfNumbers.Black = λ page value. Step.Black page value
form_of_numbers FormOfNumbers.Claim = λ page cell. Step.Claim page cell

-- the word of the table with this number
abbrev pub word_of_number : WordOfNumber → ℕ → Word
word_of_number WordOfNumber.Gate = λ n. Word.Gate n
word_of_number WordOfNumber.Global = λ n. Word.Global n
word_of_number WordOfNumber.Head = λ n. Word.Head n
word_of_number WordOfNumber.Used = λ n. Word.Used n
word_of_number WordOfNumber.Quar = λ n. Word.Quar n
word_of_number WordOfNumber.Mark = λ n. Word.Mark n
word_of_number WordOfNumber.Black = λ n. Word.Black n
word_of_number WordOfNumber.Dirty = λ n. Word.Dirty n
word_of_number WordOfNumber.Heap = λ n. Word.Heap n
