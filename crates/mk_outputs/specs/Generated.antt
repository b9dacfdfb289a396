-- The programs of the generator, line by line, the draws that they are made of, and their texts.
use Rattle.std.specs.{Prelude.{ℕ, ◌+◌, ◌*◌, ◌/◌, ◌%◌, ◌^◌, List, [], ◌∷◌, ◌++◌, replicate}, Fmt.decimal}
use Rattle.mk_script.specs.{declared.items.TypeWord.TheVariants.{Number, Pointer}, declared.items.Item.Item}
use Rattle.mk_script.specs.declared.items.Item.TheVariants.{Heap, TypeLine, Global, Script, Ptr, Num, New, Free, Getn}
use Rattle.mk_script.specs.declared.items.Item.TheVariants.{Setn, Setp, Clear, Loadg, Storeg, Const, Repeat, End}
use Rattle.mk_check.specs.Typing.{base_of}
use lib.Chars.{codes}

-- what x becomes with a draw
abbrev pub next_state : ℕ → ℕ
next_state x = (x * 6364136223846793005 + 1442695040888963407) % 2 ^ 64

-- the number below m that is drawn where x has become this: (x >> 33) mod m
abbrev pub draw : ℕ → ℕ → ℕ
draw x m = x / 2 ^ 33 % m

-- The names of the types, the global and the scripts.

-- the name of the type of nodes
abbrev pub node : List ℕ
node = codes "Node"

-- the name of the type of buffers
abbrev pub buf : List ℕ
buf = codes "Buf"

-- the name of the global
abbrev pub shared : List ℕ
shared = codes "g"

-- the names of the scripts
abbrev pub all_names : List (List ℕ)
all_names = codes "s0" ∷ codes "s1" ∷ codes "s2" ∷ codes "s3" ∷ []

-- The lines before the first script. A Node is a number and a link, and a Buf has this many numbers.
abbrev pub declarations : ℕ → List Item
declarations numbers =
    Heap 256 256 ∷
    TypeLine node (Number ∷ Pointer (base_of node) ∷ []) ∷
    TypeLine buf (replicate numbers Number) ∷
    Global shared node ∷
    []

-- The lines of a script after its name line: its registers, and this many turns. In each a new Node gets the number and
-- goes into the global, the Node that is then read there is linked to for a while, and the number found in that goes to
-- this place of a new Buf. Both are freed.
abbrev pub script_body : ℕ → ℕ → ℕ → List Item
script_body turns number place =
    let made = codes "p" in
    let read = codes "q" in
    let null = codes "z" in
    let numbers = codes "b" in
    let found = codes "n" in
    Ptr made (base_of node) ∷
    Ptr read (base_of node) ∷
    Ptr null (base_of node) ∷
    Ptr numbers (base_of buf) ∷
    Num found ∷
    Repeat turns ∷
    New made node ∷
    Const found number ∷
    Setn made 0 found ∷
    Storeg made shared ∷
    Loadg read shared ∷
    Getn found read 0 ∷
    Setp made 1 read ∷
    New numbers buf ∷
    Setn numbers place found ∷
    Free numbers ∷
    Clear numbers ∷
    Setp made 1 null ∷
    Free made ∷
    End ∷
    []

-- Scripts of these names, where x is the state before their draws: each draws its number, below 1000, and then its
-- place, which is one of a Buf.
abbrev pub scripts : ℕ → ℕ → ℕ → List (List ℕ) → List Item
scripts turns numbers x [] = []
scripts turns numbers x (name ∷ names) =
    (Script name ∷ script_body turns (draw (next_state x) 1000) (draw (next_state (next_state x)) numbers))
    ++ scripts turns numbers (next_state (next_state x)) names

-- the numbers of a Buf, which are drawn first
abbrev pub count_of_numbers : ℕ → ℕ
count_of_numbers start = 1 + draw (next_state start) 100

-- the turns of each script
abbrev pub turns_of : ℕ → ℕ
turns_of count = count / 48

-- the program
unfoldable pub generated_program : ℕ → ℕ → List Item
generated_program start count =
    declarations (count_of_numbers start)
    ++ scripts (turns_of count) (count_of_numbers start) (next_state start) all_names

-- the lines before the scripts
abbrev pub declaration_lines : ℕ → List (List ℕ)
declaration_lines numbers =
    codes "heap 256 256" ∷
    codes "type Node n p:Node" ∷
    (codes "type Buf n*" ++ decimal numbers) ∷
    codes "global g Node" ∷
    []

-- the lines of a script after its name line
abbrev pub body_lines : ℕ → ℕ → ℕ → List (List ℕ)
body_lines turns number place =
    codes "ptr p Node" ∷
    codes "ptr q Node" ∷
    codes "ptr z Node" ∷
    codes "ptr b Buf" ∷
    codes "num n" ∷
    (codes "repeat " ++ decimal turns) ∷
    codes "new p Node" ∷
    (codes "const n " ++ decimal number) ∷
    codes "setn p 0 n" ∷
    codes "storeg p g" ∷
    codes "loadg q g" ∷
    codes "getn n q 0" ∷
    codes "setp p 1 q" ∷
    codes "new b Buf" ∷
    (codes "setn b " ++ (decimal place ++ codes " n")) ∷
    codes "free b" ∷
    codes "clear b" ∷
    codes "setp p 1 z" ∷
    codes "free p" ∷
    codes "end" ∷
    []

-- the lines of these scripts
abbrev pub lines_of_scripts : ℕ → ℕ → ℕ → List (List ℕ) → List (List ℕ)
lines_of_scripts turns numbers x [] = []
lines_of_scripts turns numbers x (name ∷ names) =
    ((codes "script " ++ name) ∷ body_lines turns (draw (next_state x) 1000) (draw (next_state (next_state x)) numbers))
    ++ lines_of_scripts turns numbers (next_state (next_state x)) names

-- the lines, each with its newline
abbrev pub text_of_lines : List (List ℕ) → List ℕ
text_of_lines [] = []
text_of_lines (line ∷ lines) = line ++ (codes "\n" ++ text_of_lines lines)

-- the text
unfoldable pub generated_text : ℕ → ℕ → List ℕ
generated_text start count = text_of_lines (declaration_lines (count_of_numbers start)
    ++ lines_of_scripts (turns_of count) (count_of_numbers start) (next_state start) all_names)
