-- The first words of lines, and where lines of each form stand.
use Rattle.std.specs.{Prelude.{ℕ, Bool, ◌==◌, nat_le, if◌then◌else◌, List, [], ◌∷◌, Option, Some, None}, Str.bytes_eq}
use lib.Chars.{codes}
use Rattle.mk_script.specs.declared.keywords.Keyword.{Keyword}
use Rattle.mk_script.specs.declared.keywords.Keyword.TheVariants.{Heap, TypeLine, Global, Script, Ptr, Num, New, Free}
use Rattle.mk_script.specs.declared.keywords.Keyword.TheVariants.{Getn, Setn, Getp, Setp, Casp, Lea, Move, Clear, Loadg}
use Rattle.mk_script.specs.declared.keywords.Keyword.TheVariants.{Storeg, Same, Isnull, Show, Const, Add, Sub, Print}
use Rattle.mk_script.specs.declared.keywords.Keyword.TheVariants.{Repeat, If, Else, End}

-- the words and what they stand for; those that most lines begin with are the first
abbrev pub keywords : List (List ℕ × Keyword)
keywords =
    (codes "setp", Setp) ∷
    (codes "getp", Getp) ∷
    (codes "setn", Setn) ∷
    (codes "getn", Getn) ∷
    (codes "free", Free) ∷
    (codes "add", Add) ∷
    (codes "new", New) ∷
    (codes "end", End) ∷
    (codes "sub", Sub) ∷
    (codes "clear", Clear) ∷
    (codes "heap", Heap) ∷
    (codes "type", TypeLine) ∷
    (codes "global", Global) ∷
    (codes "script", Script) ∷
    (codes "ptr", Ptr) ∷
    (codes "num", Num) ∷
    (codes "casp", Casp) ∷
    (codes "lea", Lea) ∷
    (codes "move", Move) ∷
    (codes "loadg", Loadg) ∷
    (codes "storeg", Storeg) ∷
    (codes "same", Same) ∷
    (codes "isnull", Isnull) ∷
    (codes "show", Show) ∷
    (codes "const", Const) ∷
    (codes "print", Print) ∷
    (codes "repeat", Repeat) ∷
    (codes "if", If) ∷
    (codes "else", Else) ∷
    []

-- the keyword that a word is, of these
abbrev pub keyword_among : List (List ℕ × Keyword) → List ℕ → Option Keyword
keyword_among [] word = None
keyword_among (k ∷ ks) word = if bytes_eq word k.0 then Some k.1 else keyword_among ks word

-- the keyword that a word is
abbrev pub keyword_of : List ℕ → Option Keyword
keyword_of word = keyword_among keywords word

-- whether a line of this form has this many words after its first
abbrev pub has_word_count : Keyword → ℕ → Bool
has_word_count Heap count = count == 2
has_word_count TypeLine count = nat_le 2 count
has_word_count Global count = count == 2
has_word_count Script count = count == 1
has_word_count Ptr count = count == 2
has_word_count Num count = count == 1
has_word_count New count = count == 2
has_word_count Free count = count == 1
has_word_count Getn count = count == 3
has_word_count Setn count = count == 3
has_word_count Getp count = count == 3
has_word_count Setp count = count == 3
has_word_count Casp count = count == 5
has_word_count Lea count = count == 3
has_word_count Move count = count == 2
has_word_count Clear count = count == 1
has_word_count Loadg count = count == 2
has_word_count Storeg count = count == 2
has_word_count Same count = count == 3
has_word_count Isnull count = count == 2
has_word_count Show count = count == 1
has_word_count Const count = count == 2
has_word_count Add count = count == 3
has_word_count Sub count = count == 3
has_word_count Print count = count == 1
has_word_count Repeat count = count == 1
has_word_count If count = count == 1
has_word_count Else count = count == 0
has_word_count End count = count == 0
